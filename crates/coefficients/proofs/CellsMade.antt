-- Coefficients made one behind the other in an array that holds others at first: the sum and the opposite.
use Prim.Native.Nat.{ℕ, suc, zero, ◌+◌, ◌-◌, ◌^◌, ◌≤◌, ◌<◌}
use mathlib.Core.Path.{◌≡◌, refl, sym, ap, ap₂, subst, ◌∙◌}
use mathlib.Core.Bool.{Bool, true, false, ◌&&◌}
use mathlib.Core.List.{[], ◌∷◌}
use mathlib.Core.Option.{some}
use native.Mathlib.Omega.{arith}
use lib.IntN.{ℤ, pos, nat_abs, ◌+ℤ◌, ◌-ℤ◌}
use lib.Dec.{eqb, leb, lit≤}
use lib.ListN.{length, get_or, set, length-set}
use lib.Seq.{get_or-set_same, get_or-set_other, ext_get_or}
use borrow.Author.Tests.{eqb-true, eqb-false}
use mir.Syntax.{w64}
use mir.Val.{SFits}
use Rattle.exact.specs.Int.{◌⊕◌, ◌⊖◌, neg, 0ℤ}
use Rattle.exact.specs.Size.{Size, Is}
use Rattle.exact.proofs.Bits.{back, holds, holds_add, holds_sub, fits_add, fits_sub}
use Rattle.exact.proofs.Ring.{sub_eq, zero-add}
use Rattle.exact.proofs.SizeLaws.{nat_abs_neg, size_pos}
use Rattle.curves.specs.Step.{every}
use Rattle.paper.specs.Limits.{coefficient_limit}
use Rattle.formula.specs.Polynomial.{Kept, Polynomial, monomial_count, cell, cellwise, zeros, zero_polynomial, coefficients_within, within, difference_of}
use Rattle.formula.proofs.Sizes.{length_cellwise, length_zeros}
use Rattle.formula.proofs.TermRead.{cell_within}
use Rattle.formula.proofs.Weighted.{cell_cellwise, cell_zeros}

-- ---- the coefficients before coefficient k are made, those from k on are as they were

pub record MadeTo (made : ℕ → ℤ) (old : Polynomial) (k : ℕ) (r : Polynomial) : Type 0 where
  pub long : length r ≡ monomial_count
  pub front : (j : ℕ) → j < k → cell r j ≡ made j
  pub rest : (j : ℕ) → k ≤ j → cell r j ≡ cell old j

module _ (made : ℕ → ℤ) (old : Polynomial) where
  pub made_starts : length old ≡ monomial_count → MadeTo made old 0 old
  made_starts h = record { long = h; front = λ j l. absurd (omega arith); rest = λ j l. refl }

  pub made_next : {k : ℕ} {r : Polynomial} (x : ℤ) → MadeTo made old k r → k < monomial_count → x ≡ made k → MadeTo made old (k + 1) (set r k x)
  unfolding cell
  made_next {k} {r} x t l e = record {
    long = length-set r k x ∙ t.long;
    front = λ j u. go j u (eqb j k) refl;
    rest = λ j u. get_or-set_other r k j x 0ℤ (omega arith) ∙ t.rest j (omega arith);
  }
    where
      go : (j : ℕ) → j < k + 1 → (s : Bool) → eqb j k ≡ s → get_or (set r k x) j 0ℤ ≡ made j
      go j u true h =
          subst (λ (i : ℕ). get_or (set r k x) i 0ℤ ≡ made i) (sym (eqb-true j k h)) (get_or-set_same r k x 0ℤ (omega (arith, t.long)) ∙ e)
      go j u false h = get_or-set_other r k j x 0ℤ (eqb-false j k h) ∙ t.front j (omega (arith, eqb-false j k h))

  pub made_ends :
      {k : ℕ} {r : Polynomial} → MadeTo made old k r → monomial_count ≤ k → (q : Polynomial) → length q ≡ monomial_count
      → ((j : ℕ) → j < monomial_count → made j ≡ cell q j) → r ≡ q
  unfolding cell
  made_ends {k} {r} t l q h e = ext_get_or 0ℤ r q (t.long ∙ sym h) (λ j u. t.front j (omega (arith, t.long)) ∙ e j (omega (arith, t.long)))

-- ---- the sum

kept_size : (p : Polynomial) → Kept p → (j : ℕ) → Size coefficient_limit (cell p j)
kept_size p k j = record { size = cell_within p j k.1 }

limit_word : coefficient_limit ≤ 2 ^ 63 - 1
unfolding coefficient_limit
limit_word = lit≤ tt

two_limits : coefficient_limit + coefficient_limit ≤ 2 ^ 63 - 1
unfolding coefficient_limit
two_limits = lit≤ tt

module _ (p q : Polynomial) (f : Kept p) (g : Kept q) {k : ℕ} {r : Polynomial} (t : MadeTo (λ j. cell p j ⊕ cell q j) p k r) where
  size_left : Size coefficient_limit (cell r k)
  size_left = rw (t.rest k (omega arith)) (kept_size p f k)

  pub sum_fits : SFits w64 (back (get_or r k 0ℤ) +ℤ back (get_or q k 0ℤ))
  unfolding cell
  sum_fits = fits_add (holds size_left limit_word) (holds (kept_size q g k) limit_word) two_limits

  pub sum_next : k < monomial_count → MadeTo (λ j. cell p j ⊕ cell q j) p (k + 1) (set r k (back (back (get_or r k 0ℤ) +ℤ back (get_or q k 0ℤ))))
  unfolding cell
  sum_next h =
      made_next (λ j. cell p j ⊕ cell q j) p _ t h
      ((holds_add (holds size_left limit_word) (holds (kept_size q g k) limit_word) two_limits).is ∙ ap (λ (x : ℤ). x ⊕ cell q k) (t.rest k (omega arith)))

  pub sum_ends : monomial_count ≤ k → r ≡ cellwise ◌⊕◌ p q
  sum_ends l =
      made_ends (λ j. cell p j ⊕ cell q j) p t l (cellwise ◌⊕◌ p q) (length_cellwise ◌⊕◌ p q (f.0 ∙ sym g.0) ∙ f.0)
      (λ j u. sym (cell_cellwise ◌⊕◌ p q j (f.0 ∙ sym g.0) (omega (arith, f.0))))

-- ---- the opposite, and the difference as a sum with it

zero_held : Is 0 0ℤ (pos 0)
zero_held = record { is = refl; size = size_pos 0 }

module _ (q : Polynomial) (g : Kept q) {k : ℕ} {r : Polynomial} (t : MadeTo (λ j. 0ℤ ⊖ cell q j) q k r) where
  pub opposite_fits : SFits w64 (pos 0 -ℤ back (get_or q k 0ℤ))
  unfolding cell
  opposite_fits = fits_sub zero_held (holds (kept_size q g k) limit_word) (omega (arith, limit_word))

  pub opposite_next : k < monomial_count → MadeTo (λ j. 0ℤ ⊖ cell q j) q (k + 1) (set r k (back (pos 0 -ℤ back (get_or q k 0ℤ))))
  unfolding cell
  opposite_next h =
      made_next (λ j. 0ℤ ⊖ cell q j) q _ t h (holds_sub zero_held (holds (kept_size q g k) limit_word) (omega (arith, limit_word))).is

  pub opposite_ends : monomial_count ≤ k → r ≡ cellwise ◌⊖◌ zero_polynomial q
  unfolding zero_polynomial
  opposite_ends l =
      let z = length_zeros monomial_count in
      made_ends (λ j. 0ℤ ⊖ cell q j) q t l (cellwise ◌⊖◌ (zeros monomial_count) q) (length_cellwise ◌⊖◌ (zeros monomial_count) q (z ∙ sym g.0) ∙ z)
      (λ j u. sym
      (cell_cellwise ◌⊖◌ (zeros monomial_count) q j (z ∙ sym g.0) (omega (arith, z)) ∙ ap (λ (x : ℤ). x ⊖ cell q j) (cell_zeros monomial_count j)))

from_zero : (x : ℤ) → 0ℤ ⊖ x ≡ neg x
from_zero x = sub_eq 0ℤ x ∙ zero-add (neg x)

opposite_size : (m : ℕ) (q : Polynomial) → length q ≡ m → coefficients_within (cellwise ◌⊖◌ (zeros m) q) ≡ coefficients_within q
unfolding coefficients_within every cellwise zeros
opposite_size zero [] h = refl
opposite_size zero (y ∷ q) h = absurd (omega (arith, h))
opposite_size (suc m) [] h = refl
opposite_size (suc m) (y ∷ q) h =
    ap₂ (λ (a b : Bool). a && b) (ap (λ (n : ℕ). leb n coefficient_limit) (ap nat_abs (from_zero y) ∙ nat_abs_neg y)) (opposite_size m q (omega arith))

with_opposite : (m : ℕ) (p s : Polynomial) → length s ≡ m → cellwise ◌⊕◌ p (cellwise ◌⊖◌ (zeros m) s) ≡ cellwise ◌⊖◌ p s
unfolding cellwise zeros
with_opposite m [] s h = refl
with_opposite zero (x ∷ p) [] h = refl
with_opposite zero (x ∷ p) (y ∷ s) h = absurd (omega (arith, h))
with_opposite (suc m) (x ∷ p) [] h = absurd (omega (arith, h))
with_opposite (suc m) (x ∷ p) (y ∷ s) h =
    ap₂ (λ (z : ℤ) (l : Polynomial). z ∷ l) (ap (λ (z : ℤ). x ⊕ z) (from_zero y) ∙ sym (sub_eq x y)) (with_opposite m p s (omega arith))

module _ (q : Polynomial) (k : Kept q) {r : Polynomial} (is : r ≡ cellwise ◌⊖◌ zero_polynomial q) where
  opposite_within : coefficients_within (cellwise ◌⊖◌ zero_polynomial q) ≡ true
  unfolding zero_polynomial
  opposite_within = opposite_size monomial_count q k.0 ∙ k.1

  pub opposite_kept : length r ≡ monomial_count → Kept r
  opposite_kept h = (h, ap coefficients_within is ∙ opposite_within)

  pub opposite_is : some r ≡ difference_of zero_polynomial q
  unfolding difference_of within
  opposite_is = rw (is, opposite_within)

  pub difference_is : (p : Polynomial) → cellwise ◌⊕◌ p r ≡ cellwise ◌⊖◌ p q
  unfolding zero_polynomial
  difference_is p = ap (cellwise ◌⊕◌ p) is ∙ with_opposite monomial_count p q k.0
