-- The product of two polynomials, whatever its degree. That `fits` of Polynomial.antt tests whether it has a degree above 4, and that `multiplied`
-- has its coefficients, is proved (`fits_exactly`, `multiplied_cells`).
use Rattle.std.specs.Prelude.{ℕ, ◌<◌, cond, List, ◌≢◌, ℤ}
use Rattle.exact.specs.Int.{◌⊗◌, 0ℤ}
use Rattle.exact.specs.Minors.{sum_to}
use Rattle.paper.specs.Limits.{degree_limit}
use Rattle.paper.specs.RunningSum.{exponent_sum}
use Rattle.formula.specs.Polynomial.{Polynomial, monomial_count, exponents_at, sum_exponents, same_exponents, cell}

-- what the product of term i of p and term k of q adds to the coefficient with exponents e
unfoldable pub product_term : Polynomial → Polynomial → List ℕ → ℕ → ℕ → ℤ
product_term p q e i k = cond (same_exponents (sum_exponents (exponents_at i) (exponents_at k)) e) (cell p i ⊗ cell q k) 0ℤ

-- the coefficient with exponents e
unfoldable pub product_coefficient : Polynomial → Polynomial → List ℕ → ℤ
product_coefficient p q e = sum_to monomial_count (λ i. sum_to monomial_count (product_term p q e i))

-- the product has a term of a degree above 4
pub record DegreeAbove (p q : Polynomial) : Type 0 where
  pub exponents : List ℕ
  pub above : degree_limit < exponent_sum exponents
  pub coefficient : product_coefficient p q exponents ≢ 0ℤ
