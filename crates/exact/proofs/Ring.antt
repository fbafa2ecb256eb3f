-- The whole numbers with the shut operations of `specs.Int` are a commutative ring: the laws of sum, opposite, difference and product.
-- The sum's laws are those of `lib.IntN`. Distributivity and associativity of the product are shown here, by induction over successor and predecessor.
use mathlib.Core.Path.{◌≡◌, refl, sym, ap, ◌∙◌}
use Prim.Native.Nat.{suc, zero}
use lib.IntN.{ℤ, pos, negsuc, neg_ℤ, ◌+ℤ◌, ◌-ℤ◌, ◌*ℤ◌, suc_ℤ, pred_ℤ, one, +ℤ_assoc, +ℤ_comm, +ℤ_idl, +ℤ_idr, +ℤ_invr, +ℤ_invl, suc_ℤ-+ℤ, pred_ℤ-+ℤ, suc_ℤ-*ℤ, pred_ℤ-*ℤ, *ℤ_comm, *ℤ-one, zero-*ℤ, *ℤ-zero, neg_ℤ-neg_ℤ, neg_ℤ-+ℤ}
use Rattle.exact.specs.Int.{◌⊕◌, ◌⊖◌, ◌⊗◌, neg, 0ℤ, 1ℤ}

-- ---- the operations are those of lib.IntN
pub ⊕_is : (a b : ℤ) → a ⊕ b ≡ a +ℤ b
unfolding ◌⊕◌
⊕_is a b = refl

pub neg_is : (a : ℤ) → neg a ≡ neg_ℤ a
unfolding neg
neg_is a = refl

pub ⊖_is : (a b : ℤ) → a ⊖ b ≡ a -ℤ b
unfolding ◌⊖◌ ◌⊕◌ neg
⊖_is a b = refl

pub ⊗_is : (a b : ℤ) → a ⊗ b ≡ a *ℤ b
unfolding ◌⊗◌
⊗_is a b = refl

-- ---- the sum
pub add_assoc : (a b c : ℤ) → (a ⊕ b) ⊕ c ≡ a ⊕ (b ⊕ c)
unfolding ◌⊕◌
add_assoc a b c = +ℤ_assoc a b c

pub add_comm : (a b : ℤ) → a ⊕ b ≡ b ⊕ a
unfolding ◌⊕◌
add_comm a b = +ℤ_comm a b

pub zero-add : (a : ℤ) → 0ℤ ⊕ a ≡ a
unfolding ◌⊕◌
zero-add a = +ℤ_idl a

pub add-zero : (a : ℤ) → a ⊕ 0ℤ ≡ a
unfolding ◌⊕◌
add-zero a = +ℤ_idr a

pub add_neg : (a : ℤ) → a ⊕ neg a ≡ 0ℤ
unfolding ◌⊕◌ neg
add_neg a = +ℤ_invr a

pub neg_add : (a : ℤ) → neg a ⊕ a ≡ 0ℤ
unfolding ◌⊕◌ neg
neg_add a = +ℤ_invl a

pub neg_neg : (a : ℤ) → neg (neg a) ≡ a
unfolding neg
neg_neg a = neg_ℤ-neg_ℤ a

pub neg_sum : (a b : ℤ) → neg (a ⊕ b) ≡ neg a ⊕ neg b
unfolding ◌⊕◌ neg
neg_sum a b = neg_ℤ-+ℤ a b

pub neg_zero : neg 0ℤ ≡ 0ℤ
unfolding neg
neg_zero = refl

pub sub_eq : (a b : ℤ) → a ⊖ b ≡ a ⊕ neg b
unfolding ◌⊖◌
sub_eq a b = refl

pub sub_self : (a : ℤ) → a ⊖ a ≡ 0ℤ
sub_self a = sub_eq a a ∙ add_neg a

-- the second and third of three summands change places
pub add_swap_right : (a b c : ℤ) → (a ⊕ b) ⊕ c ≡ (a ⊕ c) ⊕ b
add_swap_right a b c = add_assoc a b c ∙ ap (λ x. a ⊕ x) (add_comm b c) ∙ sym (add_assoc a c b)

-- ---- the product
pub mul_comm : (a b : ℤ) → a ⊗ b ≡ b ⊗ a
unfolding ◌⊗◌
mul_comm a b = *ℤ_comm a b

pub mul-one : (a : ℤ) → a ⊗ 1ℤ ≡ a
unfolding ◌⊗◌ one
mul-one a = *ℤ-one a

pub one_mul : (a : ℤ) → 1ℤ ⊗ a ≡ a
one_mul a = mul_comm 1ℤ a ∙ mul-one a

pub zero-mul : (a : ℤ) → 0ℤ ⊗ a ≡ 0ℤ
unfolding ◌⊗◌
zero-mul a = zero-*ℤ a

pub mul-zero : (a : ℤ) → a ⊗ 0ℤ ≡ 0ℤ
unfolding ◌⊗◌
mul-zero a = *ℤ-zero a

suc-add : (a b : ℤ) → suc_ℤ a ⊕ b ≡ suc_ℤ (a ⊕ b)
unfolding ◌⊕◌
suc-add a b = suc_ℤ-+ℤ a b

pred_add : (a b : ℤ) → pred_ℤ a ⊕ b ≡ pred_ℤ (a ⊕ b)
unfolding ◌⊕◌
pred_add a b = pred_ℤ-+ℤ a b

suc_mul : (a b : ℤ) → suc_ℤ a ⊗ b ≡ a ⊗ b ⊕ b
unfolding ◌⊕◌ ◌⊗◌
suc_mul a b = suc_ℤ-*ℤ a b

pred_mul : (a b : ℤ) → pred_ℤ a ⊗ b ≡ a ⊗ b ⊕ neg b
unfolding ◌⊕◌ ◌⊗◌ neg
pred_mul a b = pred_ℤ-*ℤ a b

-- what holds of 0, and with a number of the next one up and the next one down, holds of every number
pub up_down : (P : ℤ → Type 0) → P 0ℤ → ((a : ℤ) → P a → P (suc_ℤ a)) → ((a : ℤ) → P a → P (pred_ℤ a)) → (a : ℤ) → P a
up_down P z s p (pos zero) = z
up_down P z s p (pos (suc n)) = s (pos n) (up_down P z s p (pos n))
up_down P z s p (negsuc zero) = p 0ℤ z
up_down P z s p (negsuc (suc n)) = p (negsuc n) (up_down P z s p (negsuc n))

pub distrib_right : (a b c : ℤ) → (a ⊕ b) ⊗ c ≡ a ⊗ c ⊕ b ⊗ c
distrib_right a b c = up_down (λ x. (x ⊕ b) ⊗ c ≡ x ⊗ c ⊕ b ⊗ c) start up down a
  where
    start : (0ℤ ⊕ b) ⊗ c ≡ 0ℤ ⊗ c ⊕ b ⊗ c
    start = ap (λ x. x ⊗ c) (zero-add b) ∙ sym (ap (λ x. x ⊕ b ⊗ c) (zero-mul c) ∙ zero-add (b ⊗ c))

    up : (x : ℤ) → (x ⊕ b) ⊗ c ≡ x ⊗ c ⊕ b ⊗ c → (suc_ℤ x ⊕ b) ⊗ c ≡ suc_ℤ x ⊗ c ⊕ b ⊗ c
    up x h =
        ap (λ y. y ⊗ c) (suc-add x b) ∙ suc_mul (x ⊕ b) c ∙ ap (λ y. y ⊕ c) h ∙ add_swap_right (x ⊗ c) (b ⊗ c) c ∙ ap (λ y. y ⊕ b ⊗ c) (sym (suc_mul x c))

    down : (x : ℤ) → (x ⊕ b) ⊗ c ≡ x ⊗ c ⊕ b ⊗ c → (pred_ℤ x ⊕ b) ⊗ c ≡ pred_ℤ x ⊗ c ⊕ b ⊗ c
    down x h =
        ap (λ y. y ⊗ c) (pred_add x b) ∙ pred_mul (x ⊕ b) c ∙ ap (λ y. y ⊕ neg c) h ∙ add_swap_right (x ⊗ c) (b ⊗ c) (neg c) ∙ ap (λ y. y ⊕ b ⊗ c) (sym (pred_mul x c))

pub distrib_left : (a b c : ℤ) → a ⊗ (b ⊕ c) ≡ a ⊗ b ⊕ a ⊗ c
distrib_left a b c =
    mul_comm a (b ⊕ c) ∙ distrib_right b c a ∙ ap (λ x. x ⊕ c ⊗ a) (mul_comm b a) ∙ ap (λ x. a ⊗ b ⊕ x) (mul_comm c a)

-- what is added to a number and gives 0 is its opposite
pub neg_unique : (a b : ℤ) → a ⊕ b ≡ 0ℤ → b ≡ neg a
neg_unique a b h =
    sym (zero-add b) ∙ ap (λ x. x ⊕ b) (sym (neg_add a)) ∙ add_assoc (neg a) a b ∙ ap (λ x. neg a ⊕ x) h ∙ add-zero (neg a)

pub neg_mul : (a b : ℤ) → neg a ⊗ b ≡ neg (a ⊗ b)
neg_mul a b =
    neg_unique (a ⊗ b) (neg a ⊗ b) (sym (distrib_right a (neg a) b) ∙ ap (λ x. x ⊗ b) (add_neg a) ∙ zero-mul b)

pub mul_neg : (a b : ℤ) → a ⊗ neg b ≡ neg (a ⊗ b)
mul_neg a b = mul_comm a (neg b) ∙ neg_mul b a ∙ ap neg (mul_comm b a)

pub mul_assoc : (a b c : ℤ) → (a ⊗ b) ⊗ c ≡ a ⊗ (b ⊗ c)
mul_assoc a b c = up_down (λ x. (x ⊗ b) ⊗ c ≡ x ⊗ (b ⊗ c)) start up down a
  where
    start : (0ℤ ⊗ b) ⊗ c ≡ 0ℤ ⊗ (b ⊗ c)
    start = ap (λ x. x ⊗ c) (zero-mul b) ∙ zero-mul c ∙ sym (zero-mul (b ⊗ c))

    up : (x : ℤ) → (x ⊗ b) ⊗ c ≡ x ⊗ (b ⊗ c) → (suc_ℤ x ⊗ b) ⊗ c ≡ suc_ℤ x ⊗ (b ⊗ c)
    up x h =
        ap (λ y. y ⊗ c) (suc_mul x b) ∙ distrib_right (x ⊗ b) b c ∙ ap (λ y. y ⊕ b ⊗ c) h ∙ sym (suc_mul x (b ⊗ c))

    down : (x : ℤ) → (x ⊗ b) ⊗ c ≡ x ⊗ (b ⊗ c) → (pred_ℤ x ⊗ b) ⊗ c ≡ pred_ℤ x ⊗ (b ⊗ c)
    down x h =
        ap (λ y. y ⊗ c) (pred_mul x b) ∙ distrib_right (x ⊗ b) (neg b) c ∙ ap (λ y. y ⊕ neg b ⊗ c) h ∙ ap (λ y. x ⊗ (b ⊗ c) ⊕ y) (neg_mul b c) ∙ sym (pred_mul x (b ⊗ c))
