-- The minors of a simplex: us has n + 1 columns, d p = `minor n us p`, c t p q = `replaced_minor n us t p q`.
-- Shown: the sum of the d p is 0, c t is antisymmetric, the three-term relation, and that a facet with D ≠ 0 has no vertex with all coefficients 0.
use Prim.Native.Nat.{ℕ, suc, ◌≤◌, ◌<◌}
use native.Mathlib.Omega.{arith}
use mathlib.Core.Path.{◌≡◌, sym, ap, ◌∙◌}
use mathlib.Core.Logic.{◌≢◌}
use mathlib.Core.List.{List, []}
use lib.ListN.{set, length, get_or}
use Rattle.exact.specs.Int.{◌⊕◌, ◌⊗◌, neg, 0ℤ, 1ℤ}
use Rattle.exact.specs.Sign.{negative, positive, sign}
use Rattle.exact.specs.Det.{Column, det, rows_from, determinant}
use Rattle.exact.specs.Crossed.{remove, unit_column, coefficient}
use Rattle.exact.specs.Minors.{alternate, sum_to, position, skip, minor, replaced_minor}
use Rattle.exact.proofs.Ring.{one_mul}
use Rattle.exact.proofs.Alternate.{alternate_zero, alternate_twice}
use Rattle.exact.proofs.DetRows.{det_row_in}
use Rattle.exact.proofs.Sums.{sum_to_ext, sum_to_negative_of_positive, sum_to_positive_of_negative}
use Rattle.exact.proofs.Rows.{row, row_in, laplace_sum}
use Rattle.exact.proofs.Position.{length_remove}
pub use Rattle.exact.proofs.Position.{position_skip, skip_position, skip_ne, skip_le, position_lt, skip_below, skip_above}
use Rattle.exact.proofs.ThreeTerms.{bordered, twice_bordered, twice_bordered_antisymmetric, three_terms_bordered}
use Rattle.exact.proofs.Tagged.{on_part, untagged, tag, pick, bordered_pick, twice_bordered_pick}
use Rattle.exact.proofs.Coefficient.{coefficients_not_all_zero}

-- the coefficient of power j at vertex i of facet p is the minor with the unit column in place of that vertex
pub coefficient_replaced_minor :
    (n : ℕ) (us : List Column) (p i j : ℕ)
    → alternate p (coefficient n (remove p us) i j) ≡ replaced_minor n us (unit_column j) p (skip p i)
unfolding coefficient replaced_minor
coefficient_replaced_minor n us p i j =
    ap (λ k. alternate p (determinant n (set (remove p us) k (unit_column j)))) (sym (position_skip p i))

module _ (n : ℕ) (us : List Column) (size : length us ≡ suc n) where
  -- ---- the sum of the minors

  -- each row of the simplex, weighted by the d p, has sum 0: a determinant with that row twice
  pub row_minor_sum : (k : ℕ) → k < n → sum_to (suc n) (λ p. get_or (get_or us p []) k 0ℤ ⊗ minor n us p) ≡ 0ℤ
  unfolding minor determinant det
  row_minor_sum k h =
      ap (λ m. sum_to m (λ p. get_or (get_or us p []) k 0ℤ ⊗ alternate p (det (rows_from 0 n) (remove p us)))) (sym size)
      ∙ sym (laplace_sum (row k) (det (rows_from 0 n)) [] us)
      ∙ det_row_in (row_in 0 n k (omega arith) (omega arith)) us

  -- top entries all 1: the d p have sum 0
  pub minor_sum : 0 < n → ((p : ℕ) → p ≤ n → get_or (get_or us p []) 0 0ℤ ≡ 1ℤ) → sum_to (suc n) (λ p. minor n us p) ≡ 0ℤ
  minor_sum h ones =
      sum_to_ext (suc n) (λ p. minor n us p) (λ p. get_or (get_or us p []) 0 0ℤ ⊗ minor n us p)
      (λ p lt. sym (ap (λ z. z ⊗ minor n us p) (ones p (omega arith)) ∙ one_mul (minor n us p)))
      ∙ row_minor_sum 0 h

  pub minor_negative_of_positive :
      0 < n → ((p : ℕ) → p ≤ n → get_or (get_or us p []) 0 0ℤ ≡ 1ℤ)
      → (p : ℕ) → p ≤ n → sign (minor n us p) ≡ positive → (q : ℕ) × (q ≤ n) × (sign (minor n us q) ≡ negative)
  minor_negative_of_positive h ones p le e =
      let r = sum_to_negative_of_positive (suc n) (λ k. minor n us k) (minor_sum h ones) p (omega arith) e in
      (r.0, omega (arith, r.1), r.2)

  pub minor_positive_of_negative :
      0 < n → ((p : ℕ) → p ≤ n → get_or (get_or us p []) 0 0ℤ ≡ 1ℤ)
      → (p : ℕ) → p ≤ n → sign (minor n us p) ≡ negative → (q : ℕ) × (q ≤ n) × (sign (minor n us q) ≡ positive)
  minor_positive_of_negative h ones p le e =
      let r = sum_to_positive_of_negative (suc n) (λ k. minor n us k) (minor_sum h ones) p (omega arith) e in
      (r.0, omega (arith, r.1), r.2)

  -- ---- the minors as bordered determinants over the columns with their index
  minor_bordered : (p : ℕ) → p ≤ n → bordered (on_part untagged (rows_from 0 n)) (tag 0 us) (pick p) ≡ minor n us p
  unfolding minor determinant
  minor_bordered p le = bordered_pick (rows_from 0 n) us p (omega arith)

  replaced_minor_bordered :
      (t : Column) (p q : ℕ) → p ≢ q → p ≤ n → q ≤ n
      → twice_bordered (on_part untagged (rows_from 0 n)) (tag 0 us) (0, t) (pick p) (pick q) ≡ replaced_minor n us t p q
  unfolding replaced_minor determinant
  replaced_minor_bordered t p q ne lp lq = twice_bordered_pick (rows_from 0 n) us t p q (omega arith) (omega arith) ne

  pub replaced_minor_antisymmetric :
      (t : Column) (p q : ℕ) → p ≢ q → p ≤ n → q ≤ n → replaced_minor n us t q p ≡ neg (replaced_minor n us t p q)
  replaced_minor_antisymmetric t p q ne lp lq =
      sym (replaced_minor_bordered t q p (λ e. ne (sym e)) lq lp)
      ∙ twice_bordered_antisymmetric (on_part untagged (rows_from 0 n)) (tag 0 us) (0, t) (pick q) (pick p)
      ∙ ap neg (replaced_minor_bordered t p q ne lp lq)

  pub three_terms :
      (t : Column) (p q r : ℕ) → p ≢ q → q ≢ r → r ≢ p → p ≤ n → q ≤ n → r ≤ n
      → replaced_minor n us t p q ⊗ minor n us r ⊕ replaced_minor n us t q r ⊗ minor n us p ⊕ replaced_minor n us t r p ⊗ minor n us q ≡ 0ℤ
  three_terms t p q r npq nqr nrp lp lq lr =
      rw (
        ← replaced_minor_bordered t p q npq lp lq,
        ← replaced_minor_bordered t q r nqr lq lr,
        ← replaced_minor_bordered t r p nrp lr lp,
        ← minor_bordered p lp,
        ← minor_bordered q lq,
        ← minor_bordered r lr,
      )
      (three_terms_bordered (on_part untagged (rows_from 0 n)) (tag 0 us) (0, t) (pick p) (pick q) (pick r))

  -- ---- D ≠ 0: no vertex of the facet has all its coefficients 0
  pub replaced_minor_not_all_zero :
      (p q : ℕ) → p ≤ n → q ≤ n → p ≢ q → minor n us p ≢ 0ℤ → ((j : ℕ) → j < n → replaced_minor n us (unit_column j) p q ≡ 0ℤ) → ⊥
  unfolding minor replaced_minor coefficient
  replaced_minor_not_all_zero p q lp lq npq ne all =
      coefficients_not_all_zero n (remove p us) (position p q)
      (let e = length_remove p us (omega arith) in position_lt (length (remove p us)) p q (omega arith) (omega arith) npq)
      (λ z. ne (ap (alternate p) z ∙ alternate_zero p))
      (λ j h. sym (alternate_twice p _) ∙ ap (alternate p) (all j h) ∙ alternate_zero p)
