-- What an answer of the operation means, in the request's words: of a text s in dimension n and the answer b. It follows from the answer
-- (`formula_demand`). What 15 means, which numbers there are, and a job's bodies that are answers.
use Rattle.std.specs.Prelude.{ℕ, ◌≤◌, ◌<◌, ◌≡◌, true, false, List, length}
use Rattle.std.proofs.Math.Option.{none, some}
use Rattle.curves.specs.Grid.{Vertex}
use Rattle.curves.specs.Step.{every}
use Rattle.paper.specs.Limits.{dimension_ok}
use Rattle.paper.specs.Job.{polynomial_length_ok, polynomial_ok}
use Rattle.paper.specs.Operations.{answered}
use Rattle.paper.specs.Values.{raw_sum}
use Rattle.formula.specs.Grammar.{Formula, nesting, sum, Text}
use Rattle.formula.specs.Polynomial.{Polynomial, is_zero}
use Rattle.formula.specs.Meaning.{meaning, evaluate}
use Rattle.formula.specs.Read.{term_list, nesting_limit, formula_terms}

pub record FormulaDemand (n : ℕ) (s b : List ℕ) : Type 0 where
  pub dimensions : dimension_ok n ≡ true
  -- The text is inside the language, with one reading, and its parentheses nest no deeper than 16.
  pub reading : Formula
  pub text : Text n sum reading s
  pub one_reading : (f : Formula) → Text n sum f s → f ≡ reading
  pub nested : nesting reading ≤ nesting_limit
  -- No inner result breaks a limit, and the final result is not zero.
  pub polynomial : Polynomial
  pub result : evaluate reading ≡ some polynomial
  pub nonzero : every is_zero polynomial ≡ false
  -- The answer is the job's term list of that polynomial, like terms gathered, right for a body of a job of dimension n.
  pub terms : b ≡ term_list polynomial
  pub body_length : polynomial_length_ok n (length b) ≡ true
  pub body_terms : polynomial_ok n b ≡ true
  -- It is the polynomial meant: at every vertex its exact sum is the value of the reading.
  pub meant : (v : Vertex) → length v ≡ n → raw_sum b v ≡ meaning v reading

-- a text inside is turned away with 15: parentheses nest deeper than 16, an inner result breaks a limit, or the final result is zero
pub data TurnedDown (f : Formula) : Type 0 where
  too_deep : nesting_limit < nesting f → TurnedDown f
  over_limit : evaluate f ≡ none → TurnedDown f
  zero_result : (p : Polynomial) → evaluate f ≡ some p → every is_zero p ≡ true → TurnedDown f

-- the numbers of the operation: none, another dimension, outside the language, turned away behind it
pub data FormulaNumber (k : ℕ) : Type 0 where
  no_refusal : k ≡ 0 → FormulaNumber k
  by_dimension : k ≡ 3 → FormulaNumber k
  by_language : k ≡ 14 → FormulaNumber k
  by_limits : k ≡ 15 → FormulaNumber k

-- a body that is the answer to some text
pub record FromFormula (n : ℕ) (b : List ℕ) : Type 0 where
  pub source : List ℕ
  pub answer : formula_terms n source ≡ answered b
