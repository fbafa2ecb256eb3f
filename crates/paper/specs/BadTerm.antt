-- What request 2.3 says of a polynomial's body: it is turned down exactly if some term breaks a limit or does not rise over the one before it. Limits
-- and order are said of the terms of a list, in the words of document 01, section "The job", and not by the tests of `polynomial_ok`. Last, what a job
-- has that Open answers 7.
use Rattle.std.specs.Prelude.{ℕ, ◌+◌, ◌-◌, ◌≤◌, ◌<◌, ◌≡◌, ◌≢◌, true, List, nat_abs, length, get_or}
use Rattle.std.proofs.Math.Option.{some}
use Rattle.std.proofs.Math.ListN.{get_elem?}
use Rattle.exact.specs.Int.{0ℤ}
use Rattle.paper.specs.Bytes.{byte}
use Rattle.paper.specs.Limits.{dimension_ok, coefficient_limit, degree_limit}
use Rattle.paper.specs.Job.{dimension, contents_ok, body, box_ok}
use Rattle.paper.specs.RunningSum.{Term, exponent_sum, terms_of}

-- the exponent of axis a, counted from 0; an axis without one has exponent 0
unfoldable pub exponent_at : Term → ℕ → ℕ
exponent_at t a = get_or t.exponents a 0

-- a term breaks a limit of dimension n: its coefficient is 0, or larger in size than 1,048,576; or an exponent above axis n is not 0; or the sum of
-- its exponents is above 4
pub data BreaksLimit (n : ℕ) (t : Term) : Type 0 where
  zero_coefficient : t.coefficient ≡ 0ℤ → BreaksLimit n t
  large_coefficient : coefficient_limit < nat_abs t.coefficient → BreaksLimit n t
  upper_exponent : (a : ℕ) → n ≤ a → exponent_at t a ≢ 0 → BreaksLimit n t
  large_sum : degree_limit < exponent_sum t.exponents → BreaksLimit n t

-- a term rises over the one before it: on the first axis on which their exponents differ its own is the larger one
pub record RisesOver (before t : Term) : Type 0 where
  pub axis : ℕ
  pub same : (a : ℕ) → a < axis → exponent_at before a ≡ exponent_at t a
  pub larger : exponent_at before axis < exponent_at t axis

-- term i of a list, counted from 0, breaks a limit or does not rise over the one before it
pub data BadTerm (n : ℕ) (ts : List Term) (i : ℕ) : Type 0 where
  breaks : (t : Term) → get_elem? ts i ≡ some t → BreaksLimit n t → BadTerm n ts i
  not_rising :
      (before t : Term) → 0 < i → get_elem? ts (i - 1) ≡ some before → get_elem? ts i ≡ some t → (RisesOver before t → ⊥) → BadTerm n ts i

-- a job of which Open's tests 1 to 6 refuse nothing, and a bad term in one of its polynomials
pub record JobWithBadTerm (s : List ℕ) : Type 0 where
  pub long : 4 ≤ length s
  pub mark : byte s 0 ≡ 1
  pub dimensions : dimension_ok (dimension s) ≡ true
  pub entries : byte s 2 ≡ dimension s + 1
  pub contents : contents_ok (dimension s) s ≡ true
  pub box : box_ok (dimension s) (body s 0) ≡ true
  pub polynomial : ℕ
  pub first : 0 < polynomial
  pub last : polynomial < dimension s
  pub term : ℕ
  pub bad : BadTerm (dimension s) (terms_of (body s polynomial)) term
