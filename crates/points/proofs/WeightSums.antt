-- The loop of `weight_sum` over the vertices: before vertex i, the sum so far and what the vertices from i on add are the definition's sum.
use Prim.Native.Nat.{ℕ, suc, zero, ◌+◌, ◌*◌, ◌-◌, ◌/◌, ◌%◌, ◌^◌, ◌<◌, ◌≤◌}
use mathlib.Core.Path.{◌≡◌, refl, sym, ap, ap₂, ◌∙◌, subst}
use mathlib.Core.Bool.{Bool, true, false, cond}
use mathlib.Core.List.{List, [], ◌∷◌}
use native.Mathlib.Omega.{arith}
use borrow.Author.Tests.{eq-eqb, ne_eqb}
use lib.IntN.{ℤ, pos, ◌+ℤ◌}
use lib.Dec.{lit≤}
use lib.ListN.{length, get_or, take, drop}
use mir.Syntax.{w64}
use mir.Val.{SFits}
use Rattle.exact.specs.Int.{◌⊕◌, 0ℤ}
use Rattle.exact.specs.Size.{Size, Is}
use Rattle.exact.specs.Det.{Column}
use Rattle.exact.specs.Crossed.{coefficient}
use Rattle.exact.proofs.Ring.{add-zero, zero-add, add_assoc}
use Rattle.exact.proofs.SizeLaws.{size_weaken}
use Rattle.exact.proofs.Bits.{back, holds_call, fits_add, holds_add}
use Rattle.paper.specs.Values.{has_axis, weight_sum}
use Rattle.bits.specs.Axes.{Axes}
use Rattle.paper.specs.declared.HeldPlace.{HeldPlace}
use Rattle.places.specs.Held.{masks_as}
use Rattle.determinants.specs.Entries.{coefficient_limit, determinant_limit}

-- ---- the test of a mask
pub axis_there : (mask axis : ℕ) (a b : ℤ) → mask / 2 ^ axis % 2 ≡ 1 → a ≡ cond (has_axis mask axis) a b
unfolding has_axis
axis_there mask axis a b h = ap (λ t. cond t a b) (sym (eq-eqb (mask / 2 ^ axis % 2) 1 h))

pub axis_missing : (mask axis : ℕ) (a b : ℤ) → (mask / 2 ^ axis % 2 ≡ 1 → ⊥) → b ≡ cond (has_axis mask axis) a b
unfolding has_axis
axis_missing mask axis a b h = ap (λ t. cond t a b) (sym (ne_eqb (mask / 2 ^ axis % 2) 1 h))

pub cond_size : {m : ℕ} {a : ℤ} (t : Bool) → Size m a → Size m (cond t a 0ℤ)
cond_size true s = s
cond_size {m} false s = record { size = omega arith }

-- ---- the masks
drop_next : (k m : ℕ) (l : List ℕ) → k < m → k < length l → drop k (take m l) ≡ get_or l k 0 ∷ drop (suc k) (take m l)
drop_next k m [] h l = absurd (omega arith)
drop_next k zero (x ∷ xs) h l = absurd (omega arith)
drop_next zero (suc m) (x ∷ xs) h l = refl
drop_next (suc k) (suc m) (x ∷ xs) h l = drop_next k m xs (omega arith) (omega arith)

drop_none : (m : ℕ) (l : List ℕ) → drop m (take m l) ≡ []
drop_none zero l = refl
drop_none (suc m) [] = refl
drop_none (suc m) (x ∷ xs) = drop_none m xs

module _ (n : ℕ) (a : Axes n) (p : HeldPlace) where
  -- the masks of the vertices from i on
  masks_next : length p.masks ≡ 3 → (i : ℕ) → 0 < i → i < n → drop (i - 1) (masks_as n p) ≡ get_or p.masks (i - 1) 0 ∷ drop i (masks_as n p)
  unfolding masks_as
  masks_next three i l h =
      let next : suc (i - 1) ≡ i = omega arith in
      drop_next (i - 1) (n - 1) p.masks (omega arith) (omega (arith, a.high))
      ∙ ap (λ k. get_or p.masks (i - 1) 0 ∷ drop k (take (n - 1) p.masks)) next

  masks_none : drop (n - 1) (masks_as n p) ≡ []
  unfolding masks_as
  masks_none = drop_none (n - 1) p.masks

-- ---- the sum
-- what vertex i adds
abbrev pub weight_at : ℕ → List Column → ℕ → ℕ → ℕ → ℤ
weight_at n cs i mask axis = cond (has_axis mask axis) (coefficient n cs i 0) 0ℤ

pub record Summed (n : ℕ) (cs : List Column) (p : HeldPlace) (axis i : ℕ) (sum : ℤ) : Type 0 where
  pub low : 0 < i
  pub high : i ≤ n
  pub total : sum ⊕ weight_sum n cs i (drop (i - 1) (masks_as n p)) axis ≡ weight_sum n cs 1 (masks_as n p) axis
  pub size : Size ((i - 1) * coefficient_limit) sum

module _ {n : ℕ} (a : Axes n) (cs : List Column) (p : HeldPlace) (axis : ℕ) where
  pub summed_none : Summed n cs p axis 1 (pos 0)
  summed_none = record { low = omega arith; high = omega (arith, a.low); total = zero-add _; size = record { size = lit≤ tt } }

  module _
      {i : ℕ} {sum z : ℤ} (l : i < n) (three : length p.masks ≡ 3) (s : Summed n cs p axis i sum)
      (weight_is : Is coefficient_limit (weight_at n cs i (get_or p.masks (i - 1) 0) axis) z) where
    room : (i - 1) * coefficient_limit + coefficient_limit ≤ 2 ^ 63 - 1
    room = omega (arith, a.high)

    added : Is ((i - 1) * coefficient_limit + coefficient_limit) (sum ⊕ weight_at n cs i (get_or p.masks (i - 1) 0) axis) (back (sum +ℤ back z))
    added = holds_add (record { is = refl; size = s.size }) (holds_call weight_is (lit≤ tt)) room

    pub summed_fits : SFits w64 (sum +ℤ back z)
    summed_fits = fits_add (record { is = refl; size = s.size }) (holds_call weight_is (lit≤ tt)) room

    pub summed_next : Summed n cs p axis (i + 1) (back (sum +ℤ back z))
    unfolding weight_sum
    summed_next =
        let before : i + 1 - 1 ≡ i = omega arith in
        let next : suc i ≡ i + 1 = omega arith in
        let mask = get_or p.masks (i - 1) 0 in
        let rest = weight_sum n cs (suc i) (drop i (masks_as n p)) axis in
        record {
          low = omega arith;
          high = omega arith;
          total = ap₂ (λ x k. x ⊕ weight_sum n cs (i + 1) (drop k (masks_as n p)) axis) added.is before
              ∙ ap (λ k. sum ⊕ weight_at n cs i mask axis ⊕ weight_sum n cs k (drop i (masks_as n p)) axis) (sym next)
              ∙ add_assoc sum (weight_at n cs i mask axis) rest
              ∙ ap (λ ms. sum ⊕ weight_sum n cs i ms axis) (sym (masks_next n a p three i s.low l))
              ∙ s.total;
          size = subst (Size ((i + 1 - 1) * coefficient_limit)) (sym added.is) (size_weaken added.size (omega arith));
        }

  pub summed_all : {i : ℕ} {sum : ℤ} → i ≡ n → Summed n cs p axis i sum → Is determinant_limit (weight_sum n cs 1 (masks_as n p) axis) sum
  unfolding weight_sum
  summed_all {i} {sum} e s =
      let whole : sum ≡ weight_sum n cs 1 (masks_as n p) axis =
      sym (ap (λ ms. sum ⊕ weight_sum n cs i ms axis) (ap (λ k. drop (k - 1) (masks_as n p)) e ∙ masks_none n a p) ∙ add-zero sum) ∙ s.total in
      record { is = whole; size = subst (Size determinant_limit) whole (size_weaken s.size (omega (arith, a.high))) }
