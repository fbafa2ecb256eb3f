-- Identities of whole numbers that the laws of determinants come down to, each for its one use there.
use mathlib.Core.Path.{◌≡◌, refl, sym, ap, ◌∙◌}
use mathlib.Core.List.{[], ◌∷◌}
use lib.IntN.{ℤ}
use Rattle.exact.specs.Int.{◌⊕◌, ◌⊖◌, ◌⊗◌, neg, 0ℤ, 1ℤ}
use Rattle.exact.proofs.Ring.{add_assoc, add_comm, zero-add, add-zero, add_neg, sub_eq, mul_assoc, mul_comm, one_mul, zero-mul, mul-zero, distrib_left, distrib_right, neg_mul, mul_neg, neg_neg, neg_sum, neg_zero, sub_self}
use Rattle.exact.proofs.Solver.{var, ◌:+◌, ◌:-◌, ◌:*◌, :neg, solve}

pub add_left_comm : (a b c : ℤ) → a ⊕ (b ⊕ c) ≡ b ⊕ (a ⊕ c)
add_left_comm a b c = sym (add_assoc a b c) ∙ ap (λ x. x ⊕ c) (add_comm a b) ∙ add_assoc b a c

pub mul_left_comm : (a b c : ℤ) → a ⊗ (b ⊗ c) ≡ b ⊗ (a ⊗ c)
mul_left_comm a b c = sym (mul_assoc a b c) ∙ ap (λ x. x ⊗ c) (mul_comm a b) ∙ mul_assoc b a c

pub ruleset ring = (sub_eq, neg_sum, neg_mul, mul_neg, neg_neg, neg_zero, distrib_left, distrib_right, mul_assoc, mul_comm, mul_left_comm, add_assoc, add_comm, add_left_comm, zero-add, add-zero, zero-mul, mul-zero)

pub combine_rest : (h a b d e l m : ℤ) → h ⊗ (a ⊗ d ⊖ b ⊗ e) ⊖ (a ⊗ l ⊖ b ⊗ m) ≡ a ⊗ (h ⊗ d ⊖ l) ⊖ b ⊗ (h ⊗ e ⊖ m)
combine_rest h a b d e l m = simp ring

pub combine_row : (f g a b d l m : ℤ) → (a ⊗ f ⊖ b ⊗ g) ⊗ d ⊖ (a ⊗ l ⊖ b ⊗ m) ≡ a ⊗ (f ⊗ d ⊖ l) ⊖ b ⊗ (g ⊗ d ⊖ m)
combine_row f g a b d l m = simp ring

pub neg_rest : (h d l : ℤ) → h ⊗ neg d ⊖ neg l ≡ neg (h ⊗ d ⊖ l)
neg_rest h d l = simp ring

pub swap_rows : (x y z : ℤ) → x ⊖ (y ⊖ neg z) ≡ neg (y ⊖ (x ⊖ z))
swap_rows x y z = simp ring

pub sub_sub_zero : (x : ℤ) → x ⊖ (x ⊖ 0ℤ) ≡ 0ℤ
sub_sub_zero x = simp (sub_eq, neg_zero, add-zero, add_neg)

pub linear_step : (s a b u v w z : ℤ) → s ⊗ (a ⊗ u ⊕ b ⊗ v) ⊖ (a ⊗ w ⊕ b ⊗ z) ≡ a ⊗ (s ⊗ u ⊖ w) ⊕ b ⊗ (s ⊗ v ⊖ z)
linear_step s a b u v w z = simp ring

pub third_of_zero : (f g a b z : ℤ) → f ⊗ b ⊖ (g ⊗ a ⊖ z) ≡ 0ℤ → z ≡ a ⊗ g ⊖ b ⊗ f
third_of_zero f g a b z e =
    solve (var 4) (var 0 :* var 3 :- (var 1 :* var 2 :- var 4) :+ (var 2 :* var 1 :- var 3 :* var 0)) (f ∷ g ∷ a ∷ b ∷ z ∷ []) refl
    ∙ ap (λ x. x ⊕ (a ⊗ g ⊖ b ⊗ f)) e
    ∙ zero-add (a ⊗ g ⊖ b ⊗ f)

pub third_of_zero_mul : (f g a b z : ℤ) → a ≡ 0ℤ → f ⊗ b ⊖ (g ⊗ a ⊖ z) ≡ 0ℤ → z ≡ neg (f ⊗ b)
third_of_zero_mul f g a b z p e = third_of_zero f g a b z e ∙ ap (λ x. x ⊗ g ⊖ b ⊗ f) p ∙ simp ring

pub closing : (fg gh fh a b c : ℤ) → neg (fg ⊗ c) ≡ a ⊗ gh ⊖ b ⊗ fh → fg ⊗ c ⊕ gh ⊗ a ⊕ neg fh ⊗ b ≡ 0ℤ
closing fg gh fh a b c e =
    solve (var 0 :* var 5 :+ var 1 :* var 3 :+ :neg (var 2) :* var 4) (var 3 :* var 1 :- var 4 :* var 2 :- :neg (var 0 :* var 5))
    (fg ∷ gh ∷ fh ∷ a ∷ b ∷ c ∷ []) refl
    ∙ ap (λ x. x ⊖ neg (fg ⊗ c)) (sym e)
    ∙ sub_self (neg (fg ⊗ c))

pub linear_row : (a f g b : ℤ) → a ⊗ neg (f ⊗ b) ⊖ 1ℤ ⊗ neg (g ⊗ b) ≡ neg ((a ⊗ f ⊖ g) ⊗ b)
linear_row a f g b = simp (ring, one_mul)
