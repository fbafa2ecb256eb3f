-- One way to close linear facts over the whole numbers. Every number is a difference of two naturals (`split`); the set `linear`
-- gathers an expression into one difference and turns `≡`, `≤ℤ` and `<ℤ` between differences into facts of naturals; `omega` closes those.
-- Two examples stand at the end.
use mathlib.Core.Path.{◌≡◌, refl, sym, ap, ◌∙◌}
use mathlib.Core.Logic.{◌↔◌}
use mathlib.Core.List.{[], ◌∷◌}
use Prim.Native.Nat.{ℕ, suc, zero, ◌+◌, ◌*◌, ◌≤◌, ◌<◌}
use native.Mathlib.Omega.{arith}
use lib.Dec.{leb→le, le→leb, ltb→lt, lt→ltb}
use lib.IntN.{ℤ, pos, negsuc}
use lib.Signed.{◌≤ℤ◌, ◌<ℤ◌}
use Rattle.exact.specs.Int.{◌⊕◌, ◌⊖◌, ◌⊗◌, neg, 1ℤ}
use Rattle.exact.proofs.Ring.{add_comm, zero-add, add-zero}
use Rattle.exact.proofs.Solver.{var, ◌:+◌, ◌:-◌, ◌:*◌, :neg, solve}

-- the difference of two naturals
unfoldable pub diff : ℕ → ℕ → ℤ
diff a b = pos a ⊖ pos b

-- the part above 0 of a number, and the part below
unfoldable pub up : ℤ → ℕ
up (pos n) = n
up (negsuc n) = zero

unfoldable pub down : ℤ → ℕ
down (pos n) = zero
down (negsuc n) = suc n

-- ---- every number is a difference
pub split : (z : ℤ) → z ≡ diff (up z) (down z)
unfolding diff up down ◌⊕◌ ◌⊖◌ neg
split (pos n) = sym (add-zero (pos n))
split (negsuc n) = sym (zero-add (negsuc n))

pub pos_diff : (n : ℕ) → pos n ≡ diff n 0
unfolding diff ◌⊕◌ ◌⊖◌ neg
pos_diff n = sym (add-zero (pos n))

pub negsuc_diff : (n : ℕ) → negsuc n ≡ diff 0 (suc n)
unfolding diff ◌⊕◌ ◌⊖◌ neg
negsuc_diff n = sym (zero-add (negsuc n))

pos_sum : (a b : ℕ) → pos a ⊕ pos b ≡ pos (a + b)
unfolding ◌⊕◌
pos_sum a b = refl

pos_product : (a b : ℕ) → pos a ⊗ pos b ≡ pos (a * b)
unfolding ◌⊗◌
pos_product a b = refl

-- ---- the operations on differences
module _ (a b c d : ℕ) where
  pub diff_add : diff a b ⊕ diff c d ≡ diff (a + c) (b + d)
  unfolding diff
  diff_add =
      rw (← pos_sum a c, ← pos_sum b d) (solve (var 0 :- var 1 :+ (var 2 :- var 3)) (var 0 :+ var 2 :- (var 1 :+ var 3)) (pos a ∷ pos b ∷ pos c ∷ pos d ∷ []) refl)

  pub diff_sub : diff a b ⊖ diff c d ≡ diff (a + d) (b + c)
  unfolding diff
  diff_sub =
      rw (← pos_sum a d, ← pos_sum b c) (solve (var 0 :- var 1 :- (var 2 :- var 3)) (var 0 :+ var 3 :- (var 1 :+ var 2)) (pos a ∷ pos b ∷ pos c ∷ pos d ∷ []) refl)

  pub diff_mul : diff a b ⊗ diff c d ≡ diff (a * c + b * d) (a * d + b * c)
  unfolding diff
  diff_mul =
      rw (← pos_sum (a * c) (b * d), ← pos_sum (a * d) (b * c), ← pos_product a c, ← pos_product b d, ← pos_product a d, ← pos_product b c) (solve ((var 0 :- var 1) :* (var 2 :- var 3)) (var 0 :* var 2 :+ var 1 :* var 3 :- (var 0 :* var 3 :+ var 1 :* var 2)) (pos a ∷ pos b ∷ pos c ∷ pos d ∷ []) refl)

pub diff_neg : (a b : ℕ) → neg (diff a b) ≡ diff b a
unfolding diff
diff_neg a b = solve (:neg (var 0 :- var 1)) (var 1 :- var 0) (pos a ∷ pos b ∷ []) refl

-- ---- equality of differences
-- x − y with y added is x
sub_add : (x y z : ℤ) → (x ⊖ y) ⊕ (y ⊕ z) ≡ x ⊕ z
sub_add x y z = solve (var 0 :- var 1 :+ (var 1 :+ var 2)) (var 0 :+ var 2) (x ∷ y ∷ z ∷ []) refl

diff_eq_to : (a b c d : ℕ) → diff a b ≡ diff c d → a + d ≡ c + b
unfolding diff
diff_eq_to a b c d h =
    let e : pos (a + d) ≡ pos (c + b) = sym (pos_sum a d) ∙ sym (sub_add (pos a) (pos b) (pos d)) ∙ ap (λ x. x ⊕ (pos b ⊕ pos d)) h ∙ ap (λ x. (pos c ⊖ pos d) ⊕ x) (add_comm (pos b) (pos d)) ∙ sub_add (pos c) (pos d) (pos b) ∙ pos_sum c b in
    cc

diff_eq_from : (a b c d : ℕ) → a + d ≡ c + b → diff a b ≡ diff c d
unfolding diff
diff_eq_from a b c d h =
    back (pos a) (pos b) (pos c) (pos d) (pos_sum a d ∙ ap pos h ∙ sym (pos_sum c b))
  where
    back : (x y z w : ℤ) → x ⊕ w ≡ z ⊕ y → x ⊖ y ≡ z ⊖ w
    back x y z w e =
        solve (var 0 :- var 1) (var 0 :+ var 3 :- (var 1 :+ var 3)) (x ∷ y ∷ z ∷ w ∷ []) refl ∙ ap (λ t. t ⊖ (y ⊕ w)) e ∙ solve (var 2 :+ var 1 :- (var 1 :+ var 3)) (var 2 :- var 3) (x ∷ y ∷ z ∷ w ∷ []) refl

pub diff_eq : (a b c d : ℕ) → (diff a b ≡ diff c d) ↔ (a + d ≡ c + b)
diff_eq a b c d = (diff_eq_to a b c d, diff_eq_from a b c d)

-- ---- order of differences
le_to : (x y : ℤ) → x ≤ℤ y → up x + down y ≤ up y + down x
unfolding up down
le_to (pos a) (pos b) h = let k : a ≤ b = leb→le a b h.le in omega arith
le_to (pos a) (negsuc b) h = absurd h.le
le_to (negsuc a) (pos b) h = omega arith
le_to (negsuc a) (negsuc b) h = let k : b ≤ a = leb→le b a h.le in omega arith

le_from : (x y : ℤ) → up x + down y ≤ up y + down x → x ≤ℤ y
unfolding up down
le_from (pos a) (pos b) h = record { le = le→leb a b (omega arith) }
le_from (pos a) (negsuc b) h = absurd (omega arith)
le_from (negsuc a) (pos b) h = record { le = tt }
le_from (negsuc a) (negsuc b) h = record { le = le→leb b a (omega arith) }

lt_to : (x y : ℤ) → x <ℤ y → up x + down y < up y + down x
unfolding up down
lt_to (pos a) (pos b) h = let k : a < b = ltb→lt a b h.lt in omega arith
lt_to (pos a) (negsuc b) h = absurd h.lt
lt_to (negsuc a) (pos b) h = omega arith
lt_to (negsuc a) (negsuc b) h = let k : b < a = ltb→lt b a h.lt in omega arith

lt_from : (x y : ℤ) → up x + down y < up y + down x → x <ℤ y
unfolding up down
lt_from (pos a) (pos b) h = record { lt = lt→ltb a b (omega arith) }
lt_from (pos a) (negsuc b) h = absurd (omega arith)
lt_from (negsuc a) (pos b) h = record { lt = tt }
lt_from (negsuc a) (negsuc b) h = record { lt = lt→ltb b a (omega arith) }

-- the parts of a difference differ as its two numbers do
parts : (a b : ℕ) → a + down (diff a b) ≡ up (diff a b) + b
parts a b = diff_eq_to a b (up (diff a b)) (down (diff a b)) (split (diff a b))

pub diff_le : (a b c d : ℕ) → (diff a b ≤ℤ diff c d) ↔ (a + d ≤ c + b)
diff_le a b c d =
    (λ h. omega (arith, le_to (diff a b) (diff c d) h, parts a b, parts c d), λ h. le_from (diff a b) (diff c d) (omega (arith, parts a b, parts c d)))

pub diff_lt : (a b c d : ℕ) → (diff a b <ℤ diff c d) ↔ (a + d < c + b)
diff_lt a b c d =
    (λ h. omega (arith, lt_to (diff a b) (diff c d) h, parts a b, parts c d), λ h. lt_from (diff a b) (diff c d) (omega (arith, parts a b, parts c d)))

-- ---- the set, and how to use it
pub ruleset linear = (pos_diff, negsuc_diff, diff_add, diff_sub, diff_mul, diff_neg, diff_eq, diff_le, diff_lt)

-- leave the hypotheses in the goal (bind only the numbers), split each number, rewrite by the set, and call omega
pub add_le_add : (a b c d : ℤ) → a ≤ℤ b → c ≤ℤ d → a ⊕ c ≤ℤ b ⊕ d
add_le_add a b c d = rw (split a, split b, split c, split d) (simp linear (omega arith))

-- a product of two variables is an unknown to omega; a multiple by a constant is linear
twice_lt : (a b : ℤ) → a <ℤ b → pos 2 ⊗ a ⊕ 1ℤ <ℤ pos 2 ⊗ b
twice_lt a b = rw (split a, split b) (simp linear (omega arith))
