-- A term by its coefficient, and the answer of a polynomial.
use Rattle.std.specs.Prelude.{ℕ, cond, List, [], ◌++◌, ℤ}
use Rattle.curves.specs.Step.{every}
use Rattle.paper.specs.Operations.{Answer, refused, answered}
use Rattle.formula.specs.Polynomial.{Polynomial, is_zero, exponents_at}
use Rattle.formula.specs.Read.{double_word_bytes, term_list}

-- the bytes of the term of monomial k with coefficient x; none if the coefficient is 0
unfoldable pub term_of : ℤ → ℕ → List ℕ
term_of x k = cond (is_zero x) [] (double_word_bytes x ++ exponents_at k)

-- its terms; 15 if it is zero
unfoldable pub answer_of : Polynomial → Answer (List ℕ)
answer_of p = cond (every is_zero p) (refused 15) (answered (term_list p))
