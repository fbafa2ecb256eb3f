-- The degree of a polynomial.
use Rattle.std.specs.Prelude.{ℕ, suc, zero, cond, ℤ}
use Rattle.formula.specs.Grammar.{larger}
use Rattle.formula.specs.Polynomial.{Polynomial, monomial_count, cell, is_zero, degree_at}

-- the larger of d and the degree of monomial k, whose coefficient is x; d if that is 0
unfoldable pub degree_with : ℕ → ℤ → ℕ → ℕ
degree_with d x k = cond (is_zero x) d (larger d (degree_at k))

-- of the terms before term k
unfoldable pub degree_to : Polynomial → ℕ → ℕ
degree_to p zero = 0
degree_to p (suc k) = degree_with (degree_to p k) (cell p k) k

-- the degree of p; 0 if p is 0
unfoldable pub degree_of : Polynomial → ℕ
degree_of p = degree_to p monomial_count
