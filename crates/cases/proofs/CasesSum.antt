-- Summing from the top, request 2.8, as rows of one table in the form of the marked cases: each row holds by computation from the definitions.
use mathlib.Core.Path.{refl}
use mathlib.Core.List.{List, [], ◌∷◌, flatten}
use lib.IntN.{ℤ, pos, negsuc}
use lib.ListN.{set}
use Rattle.paper.specs.Operations.{refused, answered}
use Rattle.paper.specs.Bias.{with_bias}
use Rattle.paper.proofs.Cases.{Row, sums, body_offsets, case_a, case_i, one_term_job, AllHold, end, ◌also◌, all_hold}
use Rattle.paper.proofs.Jobs.{entries, job_of, double_word_bytes, term, constant_term, square_term, waist_place, waist}

-- a vertex as it is handed over, by four numbers
abbrev four : ℤ → ℤ → ℤ → ℤ → List ℤ
four x y z w = x ∷ y ∷ z ∷ w ∷ []

unfoldable pub marked_cases_sum : List Row
marked_cases_sum =
    -- A at 1 1: 2·x², then 2·y², then − 1
    sums case_a 0 (four (pos 1) (pos 1) (pos 0) (pos 0)) 0 (answered (pos 0))
    ∷ sums case_a 0 (four (pos 1) (pos 1) (pos 0) (pos 0)) 1 (answered (pos 2))
    ∷ sums case_a 0 (four (pos 1) (pos 1) (pos 0) (pos 0)) 2 (answered (pos 4))
    ∷ sums case_a 0 (four (pos 1) (pos 1) (pos 0) (pos 0)) 3 (answered (pos 3))
    -- coordinates above n are not read
    ∷ sums case_a 0 (four (pos 1) (pos 1) (pos 1000) (negsuc 1000)) 3 (answered (pos 3))
    -- 12 for one term more than it has, and for a second polynomial; then 9
    ∷ sums case_a 0 (four (pos 1) (pos 1) (pos 0) (pos 0)) 4 (refused 12)
    ∷ sums case_a 1 (four (pos 1) (pos 1) (pos 0) (pos 0)) 0 (refused 12)
    ∷ sums case_a 0 (four (pos 2) (pos 1) (pos 0) (pos 0)) 3 (refused 9)
    ∷ sums case_a 0 (four (pos 2) (pos 1) (pos 0) (pos 0)) 4 (refused 12)
    -- a job that does not open
    ∷ sums (set case_a 0 2) 0 (four (pos 1) (pos 1) (pos 0) (pos 0)) 3 (refused 2)
    -- 2·x⁴, then − 6·x², then 16·y², then 1, at 2 1; the bias has no part in it
    ∷ sums (waist 2) 0 (four (pos 2) (pos 1) (pos 0) (pos 0)) 1 (answered (pos 32))
    ∷ sums (waist 2) 0 (four (pos 2) (pos 1) (pos 0) (pos 0)) 2 (answered (pos 8))
    ∷ sums (waist 2) 0 (four (pos 2) (pos 1) (pos 0) (pos 0)) 3 (answered (pos 24))
    ∷ sums (waist 2) 0 (four (pos 2) (pos 1) (pos 0) (pos 0)) 4 (answered (pos 25))
    ∷ sums (with_bias (waist 2) 255) 0 (four (pos 2) (pos 1) (pos 0) (pos 0)) 4 (answered (pos 25))
    -- the second and the third polynomial
    ∷ sums (waist 3) 1 (four (pos 2) (pos 1) (negsuc 0) (pos 0)) 1 (answered (negsuc 15))
    ∷ sums (waist 4) 2 (four (pos 2) (pos 1) (pos 0) (pos 1)) 1 (answered (pos 16))
    -- a sum that is not readable is given all the same
    ∷ sums case_i 0 (four (pos 17) (pos 0) (pos 0) (pos 0)) 1 (answered (pos 303038464))
    ∷ []

-- every row holds, by computation
pub marked_cases_sum_hold : AllHold marked_cases_sum
unfolding body_offsets flatten
    entries job_of double_word_bytes term constant_term square_term with_bias
    case_a case_i one_term_job waist_place waist marked_cases_sum
marked_cases_sum_hold =
    all_hold {rs = marked_cases_sum} (
    -- A
    refl also refl also refl also refl also refl
    -- the refusals
    also refl also refl also refl also refl also refl
    -- the polynomials of other jobs
    also refl also refl also refl also refl also refl also refl also refl also refl also end
    )
