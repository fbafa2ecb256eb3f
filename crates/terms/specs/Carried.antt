-- What the pass over a polynomial's terms carries from one to the next: a least weight, which says all that it has to know of the terms before.
use Rattle.std.specs.Prelude.{ℕ, suc, zero, ◌+◌, ◌*◌, ◌-◌, ◌<◌, ◌≡◌, Bool, true, cond, not, ◌&&◌, ◌||◌, List, [], ◌∷◌, leb, ltb, eqb, nat_abs, sum, slice_index, Option, Some, None}
use Rattle.paper.specs.Limits.{coefficient_limit, degree_limit}
use Rattle.paper.specs.Job.{coefficient_of, exponent_of, all_from, term_ok, rises}

-- the part of `term_ok` that looks at the coefficient
unfoldable pub coefficient_ok : List ℕ → ℕ → Bool
coefficient_ok b i = not (eqb (nat_abs (coefficient_of b i)) 0) && leb (nat_abs (coefficient_of b i)) coefficient_limit

-- a term's four exponents
unfoldable pub exponents_of : List ℕ → ℕ → List ℕ
exponents_of b i = exponent_of b i 0 ∷ exponent_of b i 1 ∷ exponent_of b i 2 ∷ exponent_of b i 3 ∷ []

-- the other part, of its exponents: an axis that dimension n does not have has 0
unfoldable pub exponents_ok : ℕ → List ℕ → Bool
exponents_ok n exponents = all_from (λ a. ltb a n || eqb (slice_index exponents a) 0) 0 4 && leb (sum exponents) degree_limit

-- a term's exponents as the digits of a number, axis 1 weighing most, with 8 for the 256 of `exponent_weight`: within the limits, where an exponent is
-- at most 4, terms have the same order by both
unfoldable pub short_weight : List ℕ → ℕ → ℕ
short_weight b i = ((exponent_of b i 0 * 8 + exponent_of b i 1) * 8 + exponent_of b i 2) * 8 + exponent_of b i 3

-- the least weight that term i may have: one more than that of the term before it, 0 for the first
unfoldable pub least_weight : List ℕ → ℕ → ℕ
least_weight b zero = 0
least_weight b (suc i) = short_weight b i + 1

-- what is carried to term i: its least weight, and that the term before it is within the limits
pub record CarriedTo (n : ℕ) (b : List ℕ) (i least : ℕ) : Type 0 where
  pub is : least ≡ least_weight b i
  pub before : 0 < i → term_ok n b (i - 1) ≡ true

-- what is carried on from term i: the least weight of the next one, or nothing if term i is turned down
unfoldable pub carried_on : ℕ → List ℕ → ℕ → Option ℕ
carried_on n b i = cond (term_ok n b i && rises b i) (Some (least_weight b (suc i))) None
