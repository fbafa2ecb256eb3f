-- Polynomials whose coefficients are bounded, so that no sum on the way to a product leaves 64 bits.
use Rattle.std.specs.Prelude.{ℕ, ◌+◌, ◌*◌, ◌≡◌, ℤ, length}
use Rattle.exact.specs.Int.{◌⊗◌}
use Rattle.exact.specs.Size.{Size}
use Rattle.formula.specs.Polynomial.{Polynomial, monomial_count, cell, add_at, product_slot, unless_nought, add_row}

-- 70 coefficients of size at most m
pub record Bounded (m : ℕ) (p : Polynomial) : Type 0 where
  pub long : length p ≡ monomial_count
  pub each : (k : ℕ) → Size m (cell p k)

-- the product of two coefficients within the limit
abbrev pub term_bound : ℕ
term_bound = 1048576 * 1048576

-- r with c · x · (monomial i · monomial k) added
unfoldable pub term_added : ℤ → ℕ → ℤ → ℕ → Polynomial → Polynomial
term_added c i x k r = unless_nought x (add_at r (product_slot i k) (c ⊗ x)) r

-- the row c · monomial i · q added; the bound counts a product for each term of each row so far
pub record RowAdded (c : ℤ) (i : ℕ) (q before after : Polynomial) : Type 0 where
  pub is : after ≡ unless_nought c (add_row c i q 0 monomial_count before) before
  pub bounded : Bounded (70 * (i + 1) * term_bound) after
