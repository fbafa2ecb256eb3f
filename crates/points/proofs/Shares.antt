-- The sum of the weights of some vertices of a crossed facet is a share of D: it lies from 0 to D. Each weight is 0 or has the sign of D, and all
-- together are D, so those that a mask picks are no more. Over any number of columns.
use Prim.Native.Nat.{ℕ, suc, zero, ◌+◌, ◌-◌, ◌≤◌, ◌<◌}
use mathlib.Core.Path.{◌≡◌, refl, sym, ap, ◌∙◌, subst}
use mathlib.Core.Bool.{Bool, true, false, cond}
use mathlib.Core.Logic.{◌⊎◌, inl, inr}
use mathlib.Core.List.{List, [], ◌∷◌}
use native.Mathlib.Omega.{arith}
use lib.IntN.{ℤ, pos, negsuc, nat_abs}
use lib.Dec.{le→leb}
use lib.ListN.{length, get_or}
use lib.Signed.{◌≤ℤ◌, ≤ℤ_refl}
use Rattle.exact.specs.Int.{◌⊕◌, neg, 0ℤ, 1ℤ}
use Rattle.exact.specs.Sign.{nought, positive, negative, sign}
use Rattle.exact.specs.Det.{Column, determinant}
use Rattle.exact.specs.Crossed.{coefficient, crossed}
use Rattle.exact.specs.Minors.{sum_to}
use Rattle.exact.proofs.Ring.{neg_sum, neg_zero}
use Rattle.exact.proofs.Linear.{split, linear, add_le_add}
use Rattle.exact.proofs.SignLaws.{sign_nought}
use Rattle.exact.proofs.Weights.{weights_sum, weight_sign, crossed_nonzero}
use Rattle.paper.specs.Values.{has_axis, weight_sum, over_size}
use Rattle.points.specs.Shares.{Share}

-- ---- a sum begun at i
sum_from : (ℕ → ℤ) → ℕ → ℕ → ℤ
sum_from g i zero = 0ℤ
sum_from g i (suc m) = g i ⊕ sum_from g (suc i) m

sum_from_shift : (g : ℕ → ℤ) (i m : ℕ) → sum_from (λ x. g (suc x)) i m ≡ sum_from g (suc i) m
unfolding sum_from
sum_from_shift g i zero = refl
sum_from_shift g i (suc m) = ap (λ z. g (suc i) ⊕ z) (sum_from_shift g (suc i) m)

sum_to_sum_from : (g : ℕ → ℤ) (m : ℕ) → sum_to m g ≡ sum_from g 0 m
unfolding sum_from sum_to
sum_to_sum_from g zero = refl
sum_to_sum_from g (suc m) = ap (λ z. g 0 ⊕ z) (sum_to_sum_from (λ x. g (suc x)) m ∙ sum_from_shift g 0 m)

-- ---- over the size of d
over_size_add : (a b d : ℤ) → over_size (a ⊕ b) d ≡ over_size a d ⊕ over_size b d
unfolding over_size
over_size_add a b (pos d) = refl
over_size_add a b (negsuc d) = neg_sum a b

over_size_zero : (d : ℤ) → over_size 0ℤ d ≡ 0ℤ
unfolding over_size
over_size_zero (pos d) = refl
over_size_zero (negsuc d) = neg_zero

over_size_self : (d : ℤ) → over_size d d ≡ pos (nat_abs d)
unfolding over_size neg
over_size_self (pos d) = refl
over_size_self (negsuc d) = refl

zero_least : (d : ℤ) → 0ℤ ≤ℤ over_size 0ℤ d
zero_least d = rw (over_size_zero d) (≤ℤ_refl 0ℤ)

same_sign_least : (w d : ℤ) → sign w ≡ sign d → 0ℤ ≤ℤ over_size w d
unfolding over_size sign neg
same_sign_least (pos zero) d h = zero_least d
same_sign_least (pos (suc w)) (pos d) h = record { le = le→leb 0 (suc w) (omega arith) }
same_sign_least (pos (suc w)) (negsuc d) h = absurd (sign_apart h)
  where
    sign_apart : positive ≡ negative → ⊥
    sign_apart e = let z : ◌≡◌ {A = ℕ} 0 1 = cc in omega arith
same_sign_least (negsuc w) (pos zero) h = absurd (sign_apart h)
  where
    sign_apart : negative ≡ nought → ⊥
    sign_apart e = let z : ◌≡◌ {A = ℕ} 0 1 = cc in omega arith
same_sign_least (negsuc w) (pos (suc d)) h = absurd (sign_apart h)
  where
    sign_apart : negative ≡ positive → ⊥
    sign_apart e = let z : ◌≡◌ {A = ℕ} 0 1 = cc in omega arith
same_sign_least (negsuc w) (negsuc d) h = record { le = le→leb 0 (suc w) (omega arith) }

weight_least : (w d : ℤ) → (sign w ≡ nought) ⊎ (sign w ≡ sign d) → 0ℤ ≤ℤ over_size w d
weight_least w d (inl e) = subst (λ z. 0ℤ ≤ℤ over_size z d) (sym (sign_nought w e)) (zero_least d)
weight_least w d (inr e) = same_sign_least w d e

-- ---- order
least_add : (p q : ℤ) → 0ℤ ≤ℤ p → 0ℤ ≤ℤ q → 0ℤ ≤ℤ p ⊕ q
least_add p q = rw (split p, split q) (simp linear (omega arith))

le_add_left : (p q r : ℤ) → p ≤ℤ q → 0ℤ ≤ℤ r → p ≤ℤ r ⊕ q
le_add_left p q r = rw (split p, split q, split r) (simp linear (omega arith))

-- ---- the vertices that the masks pick
module _ (n : ℕ) (cs : List Column) (d : ℤ) (a : ℕ) where
  abbrev weight : ℕ → ℤ
  weight k = coefficient n cs k 0

  picked_least : (t : Bool) (w : ℤ) → 0ℤ ≤ℤ over_size w d → 0ℤ ≤ℤ over_size (cond t w 0ℤ) d
  picked_least true w h = h
  picked_least false w h = zero_least d

  picked_most : (t : Bool) (w : ℤ) → 0ℤ ≤ℤ over_size w d → over_size (cond t w 0ℤ) d ≤ℤ over_size w d
  picked_most true w h = ≤ℤ_refl (over_size w d)
  picked_most false w h = rw (over_size_zero d) h

  between :
      (i : ℕ) (ms : List ℕ) → ((k : ℕ) → i ≤ k → k < i + length ms → 0ℤ ≤ℤ over_size (weight k) d)
      → (0ℤ ≤ℤ over_size (weight_sum n cs i ms a) d) × (over_size (weight_sum n cs i ms a) d ≤ℤ over_size (sum_from weight i (length ms)) d)
  unfolding weight_sum sum_from
  between i [] h = (zero_least d, ≤ℤ_refl (over_size 0ℤ d))
  between i (m ∷ ms) h =
      let first = h i (omega arith) (omega arith) in
      let rest = between (suc i) ms (λ k low high. h k (omega arith) (omega arith)) in
      let picked = over_size_add (cond (has_axis m a) (weight i) 0ℤ) (weight_sum n cs (suc i) ms a) d in
      let all = over_size_add (weight i) (sum_from weight (suc i) (length ms)) d in
      rw (picked, all) (
        least_add _ _ (picked_least (has_axis m a) (coefficient n cs i 0) first) rest.0,
        add_le_add _ _ _ _ (picked_most (has_axis m a) (coefficient n cs i 0) first) rest.1,
      )

nat_abs_positive : (z : ℤ) → (sign z ≡ nought → ⊥) → 0 < nat_abs z
unfolding sign
nat_abs_positive (pos zero) h = absurd (h refl)
nat_abs_positive (pos (suc n)) h = omega arith
nat_abs_positive (negsuc n) h = omega arith

pub crossed_share :
    (n : ℕ) (cs : List Column) → 0 < n → length cs ≡ n → ((i : ℕ) → i < n → get_or (get_or cs i []) 0 0ℤ ≡ 1ℤ) → crossed n cs ≡ true
    → (ms : List ℕ) → length ms ≡ n - 1 → (a : ℕ) → Share (weight_sum n cs 1 ms a) (determinant n cs)
unfolding sum_from
crossed_share zero cs p l ones x ms lm a = absurd (omega arith)
crossed_share (suc m) cs p l ones x ms lm a = record {
  nonzero = nat_abs_positive D (crossed_nonzero (suc m) cs x);
  least = picked.0;
  most = subst (λ z. over_size (weight_sum (suc m) cs 1 ms a) D ≤ℤ z) whole (le_add_left _ _ _ picked.1 (least 0 (omega arith)));
}
  where
    D : ℤ
    D = determinant (suc m) cs

    w : ℕ → ℤ
    w k = coefficient (suc m) cs k 0

    least : (k : ℕ) → k < suc m → 0ℤ ≤ℤ over_size (w k) D
    least k h = weight_least (w k) D (weight_sign m cs x k h)

    picked :
        (0ℤ ≤ℤ over_size (weight_sum (suc m) cs 1 ms a) D) × (over_size (weight_sum (suc m) cs 1 ms a) D ≤ℤ over_size (sum_from w 1 (length ms)) D)
    picked = between (suc m) cs D a 1 ms (λ k low high. least k (omega arith))

    total : w 0 ⊕ sum_from w 1 (length ms) ≡ D
    total =
        let same : length ms ≡ m = omega arith in
        ap (λ k. w 0 ⊕ sum_from w 1 k) same ∙ sym (sum_to_sum_from w (suc m)) ∙ ap (λ k. sum_to k w) (sym l)
        ∙ weights_sum m cs (λ i h. ones i (omega arith))

    whole : over_size (w 0) D ⊕ over_size (sum_from w 1 (length ms)) D ≡ pos (nat_abs D)
    whole = sym (over_size_add (w 0) (sum_from w 1 (length ms)) D) ∙ ap (λ z. over_size z D) total ∙ over_size_self D
