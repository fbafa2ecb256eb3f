-- Reading a formula: document 02, request 2.1. The result is a job's term list.
use Rattle.std.specs.Prelude.{ℕ, suc, zero, ◌+◌, ◌-◌, ◌/◌, ◌%◌, Bool, true, false, not, cond, List, [], ◌∷◌, ◌++◌, ℤ, pos, negsuc, length}
use Rattle.std.proofs.Math.Option.{Option, none, some}
use Rattle.paper.specs.Limits.{dimension_ok}
use Rattle.paper.specs.Job.{refuse_if}
use Rattle.paper.specs.Operations.{Answer, refused, answered, unless}
use Rattle.formula.specs.Reader.{Reading, outside, reads, reading_of}
use Rattle.formula.specs.Polynomial.{Polynomial, cell, is_zero, exponents_at, monomial_count}
use Rattle.formula.specs.Meaning.{evaluate, on_result, unless_zero}

-- ---- the term list of a polynomial

-- the 32 bits of a whole number, and its four bytes
unfoldable pub double_word_of : ℤ → ℕ
double_word_of (pos a) = a % 4294967296
double_word_of (negsuc a) = 4294967295 - a % 4294967296

unfoldable pub double_word_bytes : ℤ → List ℕ
double_word_bytes z =
    double_word_of z % 256 ∷ double_word_of z / 256 % 256 ∷ double_word_of z / 65536 % 256 ∷ double_word_of z / 16777216 ∷ []

-- monomial k: coefficient and exponents; no term if the coefficient is 0
unfoldable pub term_bytes : Polynomial → ℕ → List ℕ
term_bytes p k = cond (is_zero (cell p k)) [] (double_word_bytes (cell p k) ++ exponents_at k)

-- those of the m monomials from monomial k on
unfoldable pub terms_from : Polynomial → ℕ → ℕ → List ℕ
terms_from p k zero = []
terms_from p k (suc m) = term_bytes p k ++ terms_from p (k + 1) m

unfoldable pub term_list : Polynomial → List ℕ
term_list p = terms_from p 0 monomial_count

-- ---- the operation

-- parentheses nest no deeper
unfoldable pub nesting_limit : ℕ
nesting_limit = 16

unfoldable pub is_read : Reading → Bool
is_read outside = false
is_read (reads f) = true

-- a text inside, however deep: no text nests deeper than it is long
unfoldable pub in_language : ℕ → List ℕ → Bool
in_language n s = is_read (reading_of (length s) n s)

-- the polynomial of a reading; none if there is no reading, an inner result breaks a limit or the final result is zero
unfoldable pub result_of : Reading → Option Polynomial
result_of outside = none
result_of (reads f) = on_result unless_zero (evaluate f)

-- of a text whose parentheses nest no deeper than 16
unfoldable pub polynomial_of : ℕ → List ℕ → Option Polynomial
polynomial_of n s = result_of (reading_of nesting_limit n s)

unfoldable pub is_none : Option Polynomial → Bool
is_none none = true
is_none (some p) = false

-- 3 another dimension, 14 outside the language, 15 too deep, a limit, or zero
unfoldable pub formula_refusal : ℕ → List ℕ → ℕ
formula_refusal n s =
    refuse_if (not (dimension_ok n)) 3 (refuse_if (not (in_language n s)) 14 (refuse_if (is_none (polynomial_of n s)) 15 0))

unfoldable pub terms_of_result : Option Polynomial → List ℕ
terms_of_result none = []
terms_of_result (some p) = term_list p

unfoldable pub formula_terms : ℕ → List ℕ → Answer (List ℕ)
formula_terms n s = unless (formula_refusal n s) (terms_of_result (polynomial_of n s))

-- ---- handed back whole: refusal, count of terms, and 560 bytes, of which those behind the terms are 0

unfoldable pub byte_count : ℕ
byte_count = 560

unfoldable pub zero_bytes : ℕ → List ℕ
zero_bytes zero = []
zero_bytes (suc m) = 0 ∷ zero_bytes m

pub record Handed : Type 0 where
  pub refusal : ℕ
  pub count : ℕ
  pub bytes : List ℕ

unfoldable pub handed_back : Answer (List ℕ) → Handed
handed_back (refused k) = record { refusal = k; count = 0; bytes = zero_bytes byte_count }
handed_back (answered b) = record { refusal = 0; count = length b / 8; bytes = b ++ zero_bytes (byte_count - length b) }
