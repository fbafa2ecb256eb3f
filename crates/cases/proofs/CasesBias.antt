-- The bias, request 2.7, as rows of one table in the form of the marked cases: each row holds by computation from the definitions.
use Prim.Native.String.{String}
use mathlib.Core.Path.{refl}
use mathlib.Core.Bool.{true, false}
use mathlib.Core.List.{List, [], ◌∷◌, map, flatten, reverse}
use lib.IntN.{pos, negsuc}
use lib.ListN.{set}
use lib.Ieee.{fin}
use Rattle.curves.specs.Grid.{Place, turn}
use Rattle.curves.specs.Walk.{loop}
use Rattle.paper.specs.Job.{encode_place, with_start}
use Rattle.paper.specs.Operations.{refused, answered}
use Rattle.paper.specs.Pen.{lift}
use Rattle.paper.specs.Bias.{with_bias}
use Rattle.paper.proofs.Cases.{Row, bodies, refuses, judges, points, refuses_point, traces, counts, prints, values, pens, place}
use Rattle.paper.proofs.Cases.{body_offsets, case_a, case_i, one_term_job, AllHold, end, ◌also◌, all_hold}
use Rattle.paper.proofs.Jobs.{entries, job_of, double_word_bytes, term, constant_term, square_term, waist_place, waist}

-- ---- places and lines

-- without a bias: one of two loops
unfoldable pub places_lobe : List Place
places_lobe =
    place (pos 1 ∷ pos 0 ∷ []) (1 ∷ []) 0
    ∷ place (pos 1 ∷ pos 0 ∷ []) (3 ∷ []) 1
    ∷ place (pos 1 ∷ pos 0 ∷ []) (2 ∷ []) 1
    ∷ place (pos 0 ∷ pos 0 ∷ []) (1 ∷ []) 1
    ∷ place (pos 0 ∷ negsuc 0 ∷ []) (3 ∷ []) 0
    ∷ place (pos 1 ∷ negsuc 0 ∷ []) (2 ∷ []) 0
    ∷ []

-- with bias 1: one loop around both
unfoldable pub places_waist : List Place
places_waist =
    place (pos 1 ∷ pos 0 ∷ []) (1 ∷ []) 0
    ∷ place (pos 1 ∷ pos 0 ∷ []) (3 ∷ []) 1
    ∷ place (pos 1 ∷ pos 0 ∷ []) (2 ∷ []) 1
    ∷ place (pos 0 ∷ pos 0 ∷ []) (3 ∷ []) 1
    ∷ place (pos 0 ∷ pos 0 ∷ []) (2 ∷ []) 1
    ∷ place (negsuc 0 ∷ pos 0 ∷ []) (3 ∷ []) 1
    ∷ place (negsuc 0 ∷ pos 0 ∷ []) (2 ∷ []) 1
    ∷ place (negsuc 1 ∷ pos 0 ∷ []) (1 ∷ []) 1
    ∷ place (negsuc 1 ∷ negsuc 0 ∷ []) (3 ∷ []) 0
    ∷ place (negsuc 0 ∷ negsuc 0 ∷ []) (2 ∷ []) 0
    ∷ place (negsuc 0 ∷ negsuc 0 ∷ []) (3 ∷ []) 0
    ∷ place (pos 0 ∷ negsuc 0 ∷ []) (2 ∷ []) 0
    ∷ place (pos 0 ∷ negsuc 0 ∷ []) (3 ∷ []) 0
    ∷ place (pos 1 ∷ negsuc 0 ∷ []) (2 ∷ []) 0
    ∷ []

unfoldable pub lines_waist : List String
lines_waist =
    "2 loop 14"
    ∷ "1 0 1 1280 0"
    ∷ "1 0 3 1134 110"
    ∷ "1 0 2 1024 192"
    ∷ "0 0 3 0 0"
    ∷ "0 0 2 0 0"
    ∷ "-1 0 3 -870 154"
    ∷ "-1 0 2 -1024 192"
    ∷ "-2 0 1 -1280 0"
    ∷ "-2 -1 3 -1134 -110"
    ∷ "-1 -1 2 -1024 -192"
    ∷ "-1 -1 3 0 0"
    ∷ "0 -1 2 0 0"
    ∷ "0 -1 3 870 -154"
    ∷ "1 -1 2 1024 -192"
    ∷ []

-- ---- the rows

unfoldable pub marked_cases_bias : List Row
marked_cases_bias =
    -- byte 3 may be anything: A opens with 1 and with 255, its bodies where they were
    bodies (with_bias case_a 1) 54 (16 ∷ 24 ∷ 48 ∷ [])
    ∷ bodies (with_bias case_a 255) 54 (16 ∷ 24 ∷ 48 ∷ [])
    -- refusal 2 is for byte 0, and for that with every bias
    ∷ refuses (set case_a 0 2) 2
    ∷ refuses (set (with_bias case_a 255) 0 2) 2
    -- the values − 3, 1 and − 3 of the row y = 0, and 9 at its end: those no larger in size than the bias count as 0
    ∷ values (waist 2) (negsuc 0 ∷ pos 0 ∷ []) (negsuc 2 ∷ [])
    ∷ values (waist 2) (pos 0 ∷ pos 0 ∷ []) (pos 1 ∷ [])
    ∷ values (with_bias (waist 2) 1) (pos 0 ∷ pos 0 ∷ []) (pos 0 ∷ [])
    ∷ values (with_bias (waist 2) 2) (pos 1 ∷ pos 0 ∷ []) (negsuc 2 ∷ [])
    ∷ values (with_bias (waist 2) 3) (pos 1 ∷ pos 0 ∷ []) (pos 0 ∷ [])
    ∷ values (with_bias (waist 2) 8) (pos 2 ∷ pos 0 ∷ []) (pos 9 ∷ [])
    ∷ values (with_bias (waist 2) 9) (pos 2 ∷ pos 0 ∷ []) (pos 0 ∷ [])
    -- each polynomial's value by itself
    ∷ values (with_bias (waist 4) 16) (pos 1 ∷ pos 1 ∷ pos 1 ∷ pos 0 ∷ []) (pos 0 ∷ pos 0 ∷ pos 0 ∷ [])
    ∷ values (with_bias (waist 4) 15) (pos 1 ∷ pos 1 ∷ pos 1 ∷ pos 0 ∷ []) (pos 0 ∷ pos 16 ∷ pos 0 ∷ [])
    -- Judge: 1 and − 3 cross without a bias, 0 and − 3 do not; 1 and 17 do not, 0 and 17 cross
    ∷ judges (waist 2) (encode_place (place (pos 0 ∷ pos 0 ∷ []) (1 ∷ []) 0)) (answered true)
    ∷ judges (with_bias (waist 2) 1) (encode_place (place (pos 0 ∷ pos 0 ∷ []) (1 ∷ []) 0)) (answered false)
    ∷ judges (waist 2) (encode_place (place (pos 0 ∷ pos 0 ∷ []) (2 ∷ []) 0)) (answered false)
    ∷ judges (with_bias (waist 2) 1) (encode_place (place (pos 0 ∷ pos 0 ∷ []) (2 ∷ []) 0)) (answered true)
    -- the readable test comes first, and is of the sum: no bias helps
    ∷ judges (with_bias case_i 255) (17 ∷ 0 ∷ 0 ∷ 0 ∷ 2 ∷ 0 ∷ []) (refused 10)
    -- the same with a number that no byte holds, since a byte is far under the readable limit
    ∷ judges (with_bias case_i 303038464) (17 ∷ 0 ∷ 0 ∷ 0 ∷ 2 ∷ 0 ∷ []) (refused 10)
    -- Point: between − 3 and 9 a quarter of the way, and with − 3 taken for 0 at its vertex; with 9 taken for 0 nothing crosses
    ∷ points (with_bias (waist 2) 2) (encode_place (waist_place 2)) (pos 1280 ∷ pos 0 ∷ [])
    ∷ points (with_bias (waist 2) 3) (encode_place (waist_place 2)) (pos 1024 ∷ pos 0 ∷ [])
    ∷ points (with_bias (waist 3) 3) (encode_place (waist_place 3)) (pos 1024 ∷ pos 0 ∷ pos 0 ∷ [])
    ∷ points (with_bias (waist 4) 3) (encode_place (waist_place 4)) (pos 1024 ∷ pos 0 ∷ pos 0 ∷ pos 0 ∷ [])
    ∷ refuses_point (with_bias (waist 2) 9) (encode_place (waist_place 2)) 11
    -- the pen goes where the point is
    ∷ pens (with_bias (waist 2) 3) (encode_place (waist_place 2)) false 0 (lift (fin false 1 (pos 0) ∷ fin false 0 (pos 0) ∷ fin false 0 (pos 0) ∷ []))
    -- Trace: two loops without a bias, one with bias 1, in its lines too
    ∷ traces (waist 2) 6 loop places_lobe
    ∷ traces (with_bias (waist 2) 1) 14 loop places_waist
    ∷ prints (with_bias (waist 2) 1) lines_waist
    -- it turns back under the bias
    ∷ traces (with_start (with_bias (waist 2) 1) (turn (place (pos 1 ∷ negsuc 0 ∷ []) (2 ∷ []) 0))) 14 loop (map turn (reverse places_waist))
    -- dimensions 3 and 4
    ∷ counts (waist 3) 10 loop 10
    ∷ counts (with_bias (waist 3) 1) 22 loop 22
    ∷ counts (waist 4) 14 loop 14
    ∷ counts (with_bias (waist 4) 1) 30 loop 30
    ∷ []

-- every row holds, by computation
pub marked_cases_bias_hold : AllHold marked_cases_bias
unfolding body_offsets flatten
    entries job_of double_word_bytes term constant_term square_term with_bias
    case_a case_i one_term_job waist_place waist places_lobe places_waist lines_waist marked_cases_bias
marked_cases_bias_hold =
    all_hold {rs = marked_cases_bias} (
    -- Open
    (refl, refl, refl) also (refl, refl, refl) also refl also refl
    -- values
    also refl also refl also refl also refl also refl also refl also refl also refl also refl
    -- Judge
    also refl also refl also refl also refl also refl also refl
    -- Point and Pen
    also refl also refl also refl also refl also refl also refl
    -- Trace
    also refl also refl also refl also refl also refl also refl also refl also refl also end
    )
