-- `polynomial::term_value` meets its contract: the coefficient times the monomial.
use native.Mathlib.Omega.{arith}
use Rattle.paper.specs.Job.{coefficient_of}
use Rattle.polynomial.proofs.Monomials.{term_inside, exponents, term_fits, term_product}
use Rattle.polynomial.proofs.term_value.Goals as goal

pub overflow_mul-i : goal.overflow_mul-i
overflow_mul-i c = omega (arith, term_inside _ _ c.requires.polynomial.1)

pub signed_double_word-requires : goal.signed_double_word-requires
signed_double_word-requires c = omega (arith, term_inside _ _ c.requires.polynomial.1)

pub monomial-requires : goal.monomial-requires
monomial-requires c = record { polynomial = c.requires.polynomial; tables = c.requires.tables }

pub overflow_mul-result : goal.overflow_mul-result
unfolding coefficient_of
overflow_mul-result c =
    term_fits _ (exponents c.requires.polynomial.0 _ c.requires.polynomial.1)
    c.signed_double_word.ensures.is c.monomial.ensures

pub returns : goal.returns
unfolding coefficient_of
returns c =
    term_product _ (exponents c.requires.polynomial.0 _ c.requires.polynomial.1)
    c.signed_double_word.ensures.is c.monomial.ensures
