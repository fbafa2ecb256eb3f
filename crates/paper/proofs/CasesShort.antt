-- A short case of each kind, one equation each, by computation from the definitions: what only the tables of the crate `cases` would show, at numbers.
use mathlib.Core.Path.{◌≡◌, refl}
use mathlib.Core.Bool.{false}
use mathlib.Core.List.{[], ◌∷◌, ◌++◌, flatten}
use lib.IntN.{pos}
use lib.Ieee.{fin}
use Rattle.paper.specs.Job.{open_refusal, encode_place, with_start}
use Rattle.paper.specs.Values.{field_of}
use Rattle.paper.specs.Operations.{refused, answered, judged, pointed}
use Rattle.paper.specs.Pen.{lift, penned}
use Rattle.paper.specs.Bias.{with_bias}
use Rattle.paper.proofs.Cases.{body_offsets, case_a, case_i, one_term_job, place}
use Rattle.paper.proofs.Jobs.{entries, job_of, double_word_bytes, term, constant_term, square_term, coordinate, flat_place, with_first, case_c4, waist_place, waist}

-- ---- terms

-- w opens in dimension 4
pub fourth_exponent : open_refusal (with_first 4 0 (coordinate 3)) ≡ 0
unfolding body_offsets flatten entries job_of double_word_bytes term coordinate flat_place with_first
fourth_exponent = refl

-- 1 + x + y: the last term is under the one before it, and above the first
pub last_does_not_rise : open_refusal (with_first 2 0 (constant_term (pos 1) ++ (coordinate 0 ++ coordinate 1))) ≡ 7
unfolding body_offsets flatten entries job_of double_word_bytes term constant_term coordinate flat_place with_first
last_does_not_rise = refl

-- ---- values that are readable

-- 8,192·x² at 9 is not readable in dimension 4
pub past_the_limit_of_4 : judged (with_first 4 8 (square_term (pos 8192))) (flat_place 4 9) ≡ refused 10
unfolding body_offsets flatten entries job_of double_word_bytes term square_term coordinate flat_place with_first
past_the_limit_of_4 = refl

-- the test is of the sum: no bias helps, not even a number that no byte holds
pub sum_is_tested : judged (with_bias case_i 303038464) (17 ∷ 0 ∷ 0 ∷ 0 ∷ 2 ∷ 0 ∷ []) ≡ refused 10
unfolding body_offsets case_i one_term_job with_bias
sum_is_tested = refl

-- ---- the bias

-- A opens with bias 1
pub opens_with_a_bias : open_refusal (with_bias case_a 1) ≡ 0
unfolding body_offsets case_a with_bias
opens_with_a_bias = refl

-- the value 1 at the narrow waist counts as 0 under bias 1, from another start too
pub another_start : (field_of (with_start (with_bias (waist 2) 1) (place (pos 1 ∷ pos 0 ∷ []) (2 ∷ []) 0))).value (pos 0 ∷ pos 0 ∷ []) ≡ pos 0 ∷ []
unfolding body_offsets flatten entries job_of double_word_bytes term constant_term square_term waist_place waist with_bias
another_start = refl

-- between − 3 and 9, with − 3 taken for 0, the point is at the vertex of the − 3
pub point_by_the_bias : pointed (with_bias (waist 2) 3) (encode_place (waist_place 2)) ≡ answered (pos 1024 ∷ pos 0 ∷ [])
unfolding body_offsets flatten entries job_of double_word_bytes term constant_term square_term waist_place waist with_bias
point_by_the_bias = refl

-- ---- the pen

-- C with n = 4 ends at 0 0 0 1, and the pen goes to 0 0 0
pub three_axes :
    penned case_c4 (encode_place (place (pos 0 ∷ pos 0 ∷ pos 0 ∷ pos 1 ∷ []) (1 ∷ 3 ∷ 7 ∷ []) 0)) false 0
    ≡ answered (lift (fin false 0 (pos 0) ∷ fin false 0 (pos 0) ∷ fin false 0 (pos 0) ∷ []))
unfolding body_offsets case_c4
three_axes = refl
