-- The coefficients of specs/Crossed are the paper's. With any column x in place of column i, the determinant is the sum of x's entries
-- times the coefficients: so with 1, T, .., T to the n − 1 it is the sum of coefficients times powers of T, and with column i itself it is D.
-- Hence D ≠ 0 leaves no vertex with all coefficients 0.
use Prim.Native.Nat.{ℕ, suc, zero, ◌<◌}
use native.Mathlib.Omega.{arith}
use mathlib.Core.Path.{◌≡◌, sym, ap, ap₂, ◌∙◌}
use mathlib.Core.Logic.{◌≢◌}
use mathlib.Core.List.{List, []}
use lib.IntN.{ℤ}
use lib.ListN.{length, get_or, set, take, drop}
use lib.Seq.{set_split, set-get_or}
use Rattle.exact.specs.Int.{◌⊖◌, ◌⊗◌, 0ℤ, 1ℤ, power}
use Rattle.exact.specs.Det.{Column, det, rows_from, determinant}
use Rattle.exact.specs.Crossed.{unit_column, coefficient}
use Rattle.exact.specs.Minors.{sum_to, powers_from, powers}
use Rattle.exact.proofs.Ring.{mul-zero, mul_comm, mul-one, one_mul}
use Rattle.exact.proofs.Identities.{ring}
use Rattle.exact.proofs.DetColumns.{Linear, det_column_linear}
use Rattle.exact.proofs.Sums.{sum_to_ext, sum_to_zero, sum_to_step, sum_to_unit}
use Rattle.exact.proofs.Rows.{rows_all}

-- φ is the combination of the first n entries with its values at the unit columns
abbrev Expands : ℕ → (Column → ℤ) → Type 0
Expands n φ = (x : Column) → φ x ≡ sum_to n (λ j. get_or x j 0ℤ ⊗ φ (unit_column j))

expands_linear : (n : ℕ) → Linear (Expands n)
expands_linear n = record {
  nought = λ x. sym (sum_to_zero n (λ j. get_or x j 0ℤ ⊗ 0ℤ) (λ j h. mul-zero (get_or x j 0ℤ)));
  step = λ a φ ψ p q x.
      ap₂ (λ u w. a ⊗ u ⊖ w) (p x) (q x)
      ∙ sym (sum_to_step n a (λ j. get_or x j 0ℤ ⊗ φ (unit_column j)) (λ j. get_or x j 0ℤ ⊗ ψ (unit_column j)))
      ∙ sum_to_ext n _ _ (λ j h. inner a (get_or x j 0ℤ) (φ (unit_column j)) (ψ (unit_column j)));
}
  where
    inner : (a e u w : ℤ) → a ⊗ (e ⊗ u) ⊖ e ⊗ w ≡ e ⊗ (a ⊗ u ⊖ w)
    inner a e u w = simp ring

get_d_powers_from : (T x : ℤ) (m j : ℕ) → j < m → get_or (powers_from T x m) j 0ℤ ≡ power T j ⊗ x
unfolding powers_from power
get_d_powers_from T x zero j h = absurd (omega arith)
get_d_powers_from T x (suc m) zero h = sym (one_mul x)
get_d_powers_from T x (suc m) (suc j) h = get_d_powers_from T (T ⊗ x) m j (omega arith) ∙ simp ring

get_d_powers : (T : ℤ) (n j : ℕ) → j < n → get_or (powers T n) j 0ℤ ≡ power T j
unfolding powers
get_d_powers T n j h = get_d_powers_from T 1ℤ n j h ∙ mul-one (power T j)

module _ (n : ℕ) (cs : List Column) (i : ℕ) (inside : i < length cs) where
  -- any column in place of column i
  pub determinant_set : (x : Column) → determinant n (set cs i x) ≡ sum_to n (λ j. get_or x j 0ℤ ⊗ coefficient n cs i j)
  unfolding determinant coefficient
  determinant_set x =
      ap (det (rows_from 0 n)) (set_split cs i x inside)
      ∙ det_column_linear (Expands n) (expands_linear n) (rows_from 0 n)
      (rows_all (Expands n) 0 n (λ k low high y. sym (sum_to_unit n (λ j. get_or y j 0ℤ) k (omega arith))))
      (take i cs) (drop (suc i) cs) x
      ∙ sum_to_ext n _ _ (λ j h. ap (λ l. get_or x j 0ℤ ⊗ det (rows_from 0 n) l) (sym (set_split cs i (unit_column j) inside)))

  -- expansion along column i
  pub determinant_expand : determinant n cs ≡ sum_to n (λ j. get_or (get_or cs i []) j 0ℤ ⊗ coefficient n cs i j)
  determinant_expand = ap (determinant n) (sym (set-get_or cs i [])) ∙ determinant_set (get_or cs i [])

  -- the paper's sum of coefficients times powers
  pub determinant_powers : (T : ℤ) → determinant n (set cs i (powers T n)) ≡ sum_to n (λ j. coefficient n cs i j ⊗ power T j)
  determinant_powers T =
      determinant_set (powers T n)
      ∙ sum_to_ext n _ _ (λ j h. ap (λ z. z ⊗ coefficient n cs i j) (get_d_powers T n j h) ∙ mul_comm (power T j) (coefficient n cs i j))

  pub coefficients_not_all_zero : determinant n cs ≢ 0ℤ → ((j : ℕ) → j < n → coefficient n cs i j ≡ 0ℤ) → ⊥
  coefficients_not_all_zero d all =
      d (determinant_expand ∙ sum_to_zero n _ (λ j h. ap (λ z. get_or (get_or cs i []) j 0ℤ ⊗ z) (all j h) ∙ mul-zero (get_or (get_or cs i []) j 0ℤ)))
