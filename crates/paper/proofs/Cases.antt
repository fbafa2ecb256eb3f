-- The marked cases A to J of document 01, and the numbers of request 2.5 with the same under 0, as rows of a table under one theorem: each row holds by
-- computation from the definitions.
use Prim.Native.Nat.{ℕ, zero, suc}
use Prim.Native.String.{String}
use mathlib.Core.Path.{◌≡◌, refl}
use mathlib.Core.Bool.{Bool, true, false}
use mathlib.Core.List.{List, [], ◌∷◌, ◌++◌, map}
use lib.IntN.{ℤ, pos, negsuc}
use lib.ListN.{length, take}
use lib.Count as Count
use lib.Ieee as Ieee
use Rattle.exact.specs.Int as Int
use Rattle.exact.specs.Det as Det
use Rattle.exact.specs.Sign as Sign
use Rattle.exact.specs.Crossed as Crossed
use Rattle.exact.specs.Crossed.{count_from}
use Rattle.curves.specs.Grid as Grid
use Rattle.curves.specs.Grid.{Vertex, Place}
use Rattle.curves.specs.Step as Step
use Rattle.curves.specs.Step.{Stop, edge}
use Rattle.curves.specs.Walk as Walk
use Rattle.curves.specs.Walk.{Verdict, loop, stopped, full}
use Rattle.paper.specs.Bytes as Bytes
use Rattle.paper.specs.Limits as Limits
use Rattle.paper.specs.Job as Job
use Rattle.paper.specs.Job.{open_refusal, entry_offset, dimension, with_start}
use Rattle.paper.specs.Values as Values
use Rattle.paper.specs.Values.{field_of}
use Rattle.paper.specs.Operations as Operations
use Rattle.paper.specs.Operations.{Answer, refused, answered, judged, pointed, traced, verdict_and_count}
use Rattle.paper.specs.Listing as Listing
use Rattle.paper.specs.Listing.{listing}
use Rattle.paper.specs.Answers as Answers
use Rattle.paper.specs.Pen as Pen
use Rattle.paper.specs.Pen.{Move, penned}
use Rattle.paper.specs.RunningSum as RunningSum
use Rattle.paper.specs.RunningSum.{running_summed}
use Rattle.paper.proofs.TextCodes.{lines}

-- ---- the jobs

-- A: box − 1 to 1 on both axes; 2·x² + 2·y² − 1; start 0 0, mask 1, side 0
unfoldable pub case_a : List ℕ
case_a =
    1 ∷ 2 ∷ 3 ∷ 0 ∷ 16 ∷ 0 ∷ 8 ∷ 0 ∷ 24 ∷ 0 ∷ 24 ∷ 0
    ∷ 48 ∷ 0 ∷ 6 ∷ 0 ∷ 255 ∷ 255 ∷ 1 ∷ 0 ∷ 255 ∷ 255 ∷ 1 ∷ 0
    ∷ 255 ∷ 255 ∷ 255 ∷ 255 ∷ 0 ∷ 0 ∷ 0 ∷ 0 ∷ 2 ∷ 0 ∷ 0 ∷ 0
    ∷ 0 ∷ 2 ∷ 0 ∷ 0 ∷ 2 ∷ 0 ∷ 0 ∷ 0 ∷ 2 ∷ 0 ∷ 0 ∷ 0
    ∷ 0 ∷ 0 ∷ 0 ∷ 0 ∷ 1 ∷ 0 ∷ []

-- C: n = 3; polynomials x and y; box 0 to 1; start 0 0 0, masks 1 3, side 0
unfoldable pub case_c : List ℕ
case_c =
    1 ∷ 3 ∷ 4 ∷ 0 ∷ 20 ∷ 0 ∷ 12 ∷ 0 ∷ 32 ∷ 0 ∷ 8 ∷ 0
    ∷ 40 ∷ 0 ∷ 8 ∷ 0 ∷ 48 ∷ 0 ∷ 9 ∷ 0 ∷ 0 ∷ 0 ∷ 1 ∷ 0
    ∷ 0 ∷ 0 ∷ 1 ∷ 0 ∷ 0 ∷ 0 ∷ 1 ∷ 0 ∷ 1 ∷ 0 ∷ 0 ∷ 0
    ∷ 1 ∷ 0 ∷ 0 ∷ 0 ∷ 1 ∷ 0 ∷ 0 ∷ 0 ∷ 0 ∷ 1 ∷ 0 ∷ 0
    ∷ 0 ∷ 0 ∷ 0 ∷ 0 ∷ 0 ∷ 0 ∷ 1 ∷ 3 ∷ 0 ∷ []

-- the jobs of F to J: dimension 2, one polynomial of one term; box, term and start are given as bytes
unfoldable pub one_term_job : List ℕ → List ℕ → List ℕ → List ℕ
one_term_job box term start =
    (1 ∷ 2 ∷ 3 ∷ 0 ∷ 16 ∷ 0 ∷ 8 ∷ 0 ∷ 24 ∷ 0 ∷ 8 ∷ 0 ∷ 32 ∷ 0 ∷ 6 ∷ 0 ∷ []) ++ (box ++ (term ++ start))

-- box 0 to 1 on both axes; start 0 0, mask 1, side 0
unfoldable pub unit_box : List ℕ
unit_box = 0 ∷ 0 ∷ 1 ∷ 0 ∷ 0 ∷ 0 ∷ 1 ∷ 0 ∷ []

unfoldable pub unit_start : List ℕ
unit_start = 0 ∷ 0 ∷ 0 ∷ 0 ∷ 1 ∷ 0 ∷ []

-- F: x; G: − x; H: y
unfoldable pub case_f : List ℕ
case_f = one_term_job unit_box (1 ∷ 0 ∷ 0 ∷ 0 ∷ 1 ∷ 0 ∷ 0 ∷ 0 ∷ []) unit_start

unfoldable pub case_g : List ℕ
case_g = one_term_job unit_box (255 ∷ 255 ∷ 255 ∷ 255 ∷ 1 ∷ 0 ∷ 0 ∷ 0 ∷ []) unit_start

unfoldable pub case_h : List ℕ
case_h = one_term_job unit_box (1 ∷ 0 ∷ 0 ∷ 0 ∷ 0 ∷ 1 ∷ 0 ∷ 0 ∷ []) unit_start

-- I: 1,048,576·x², box 16 to 17 on axis 1, start 16 0, mask 2
unfoldable pub case_i : List ℕ
case_i =
    one_term_job (16 ∷ 0 ∷ 17 ∷ 0 ∷ 0 ∷ 0 ∷ 1 ∷ 0 ∷ []) (0 ∷ 0 ∷ 16 ∷ 0 ∷ 2 ∷ 0 ∷ 0 ∷ 0 ∷ []) (16 ∷ 0 ∷ 0 ∷ 0 ∷ 2 ∷ 0 ∷ [])

-- J: F with box 1 to 1 on axis 1
unfoldable pub case_j : List ℕ
case_j = one_term_job (1 ∷ 0 ∷ 1 ∷ 0 ∷ 0 ∷ 0 ∷ 1 ∷ 0 ∷ []) (1 ∷ 0 ∷ 0 ∷ 0 ∷ 1 ∷ 0 ∷ 0 ∷ 0 ∷ []) unit_start

-- the jobs of the rounding: a·x + b, its coefficients in bytes; box − 1 to 1 on both axes; start x 0, mask 1, side 0
unfoldable pub slope_place : List ℕ → List ℕ
slope_place x = x ++ (0 ∷ 0 ∷ 1 ∷ 0 ∷ [])

unfoldable pub slope_job : List ℕ → List ℕ → List ℕ → List ℕ
slope_job a b x =
    (1 ∷ 2 ∷ 3 ∷ 0 ∷ 16 ∷ 0 ∷ 8 ∷ 0 ∷ 24 ∷ 0 ∷ 16 ∷ 0 ∷ 40 ∷ 0 ∷ 6 ∷ 0 ∷ 255 ∷ 255 ∷ 1 ∷ 0 ∷ 255 ∷ 255 ∷ 1 ∷ 0 ∷ [])
    ++ (b ++ ((0 ∷ 0 ∷ 0 ∷ 0 ∷ []) ++ (a ++ ((1 ∷ 0 ∷ 0 ∷ 0 ∷ []) ++ slope_place x))))

-- from x = 0 up, and from x = − 1 up
unfoldable pub from_zero : List ℕ
from_zero = 0 ∷ 0 ∷ []

unfoldable pub from_minus_one : List ℕ
from_minus_one = 255 ∷ 255 ∷ []

-- 10,240·x + 3 is 0 at x = − 3 / 10,240, which is − 0.3 steps
unfoldable pub minus_three_tenths : List ℕ
minus_three_tenths = slope_job (0 ∷ 40 ∷ 0 ∷ 0 ∷ []) (3 ∷ 0 ∷ 0 ∷ 0 ∷ []) from_minus_one

-- 2,048·x − 1 and 2,048·x − 3: a half of a step, and three halves
unfoldable pub half_step : List ℕ
half_step = slope_job (0 ∷ 8 ∷ 0 ∷ 0 ∷ []) (255 ∷ 255 ∷ 255 ∷ 255 ∷ []) from_zero

unfoldable pub three_half_steps : List ℕ
three_half_steps = slope_job (0 ∷ 8 ∷ 0 ∷ 0 ∷ []) (253 ∷ 255 ∷ 255 ∷ 255 ∷ []) from_zero

-- 2,048·x + 1 and 2,048·x + 3: the same under 0
unfoldable pub minus_half_step : List ℕ
minus_half_step = slope_job (0 ∷ 8 ∷ 0 ∷ 0 ∷ []) (1 ∷ 0 ∷ 0 ∷ 0 ∷ []) from_minus_one

unfoldable pub minus_three_half_steps : List ℕ
minus_three_half_steps = slope_job (0 ∷ 8 ∷ 0 ∷ 0 ∷ []) (3 ∷ 0 ∷ 0 ∷ 0 ∷ []) from_minus_one

-- ---- the rows

-- the offsets of a job's bodies; what this unfolds is all that the rows compute with
unfoldable pub body_offsets : List ℕ → List ℕ
unfolding Int.◌⊕◌ Int.neg Int.◌⊖◌ Int.◌⊗◌ Int.power
    Det.laplace Det.if_none Det.det Det.rows_from Det.determinant
    Sign.sign Sign.or_else Sign.lex_sign Sign.same_sign
    Crossed.count_from Crossed.unit_column Crossed.coefficient Crossed.coefficients Crossed.all_have_sign Crossed.crossed
    Crossed.remove Crossed.other_crossed Crossed.exit
    Grid.up Grid.down Grid.plus Grid.axes_from Grid.axes Grid.holds Grid.vertices Grid.facet_vertices Grid.chain
    Grid.facet_ok Grid.place_ok Grid.same_vertex Grid.same_masks Grid.same_facet Grid.turn Grid.steps Grid.last_mask Grid.flat
    Grid.missed Grid.oriented Grid.added Grid.bend Grid.downs Grid.flat_side Grid.bent_side Grid.incidence Grid.masks_from
    Grid.side_of Grid.place_at Grid.place_of
    Step.every Step.column Step.columns Step.crossed_facet Step.onward Step.step_through Step.step
    Walk.trace
    Bytes.byte Bytes.word Bytes.double_word Bytes.signed Bytes.signed_word Bytes.signed_double_word Bytes.word_of
    Bytes.word_bytes
    Limits.dimension_ok Limits.coordinate_limit Limits.term_limit Limits.coefficient_limit Limits.degree_limit
    Limits.readable_limit Limits.steps_per_unit
    Job.dimension Job.bias Job.entry_offset Job.entry_length Job.contents_end Job.polynomial_length_ok Job.length_ok Job.entries_ok
    Job.contents_ok Job.body Job.low_end Job.high_end Job.axis_ok Job.all_from Job.box_ok Job.term_count Job.coefficient_of
    Job.exponent_of Job.exponents_zero Job.degree Job.term_ok Job.exponent_weight Job.rises Job.polynomial_ok Job.decode_place
    Job.vertex_bytes Job.encode_place Job.with_start Job.refuse_if Job.open_refusal
    Values.monomial Values.term_value Values.sum_from Values.raw_sum Values.readable_sum Values.value_of Values.sums
    Values.inside_from Values.field_from Values.field_of Values.nearest_steps Values.round_steps Values.has_axis Values.weight_sum Values.over_size
    Values.share_steps Values.coordinate_steps Values.point_from Values.point_of
    Operations.unless Operations.first_refusal Operations.facet_refusal Operations.crossed_in Operations.place_bad
    Operations.facet_of Operations.judge_refusal Operations.judged Operations.point_refusal Operations.pointed
    Operations.step_in Operations.start_of Operations.trace_refusal Operations.on_same_facet Operations.traced
    Operations.verdict_and_count
    Listing.decimal_from Listing.decimal Listing.signed_decimal Listing.blank_numbers Listing.number_line Listing.verdict_word
    Listing.first_line Listing.place_numbers Listing.place_line Listing.place_lines Listing.listing_space Listing.longest_job
    Listing.listing_lines Listing.listing
    Pen.millimetre Pen.place_bytes Pen.place_count Pen.closes Pen.pen_refusal Pen.point_millimetres Pen.pen_move Pen.penned
    RunningSum.powers_product RunningSum.value_at RunningSum.add_terms RunningSum.sum_in_order RunningSum.partial_sum
    RunningSum.term_of RunningSum.terms_of RunningSum.running_sum RunningSum.summed_body RunningSum.summed_vertex
    RunningSum.running_sum_refusal RunningSum.running_summed
    Answers.padded Ieee.odd
    lines Count.ones
body_offsets s = map (entry_offset s) (count_from 0 (suc (dimension s)))

pub data Row : Type 0 where
  -- the job has so many bytes, opens, and its bodies begin at these offsets
  bodies : List ℕ → ℕ → List ℕ → Row
  -- Open's refusal
  refuses : List ℕ → ℕ → Row
  -- Judge's answer for a place in bytes
  judges : List ℕ → List ℕ → Answer Bool → Row
  -- Point's answer for a place in bytes, or its refusal
  points : List ℕ → List ℕ → List ℤ → Row
  refuses_point : List ℕ → List ℕ → ℕ → Row
  -- Trace's verdict and places, with space for so many
  traces : List ℕ → ℕ → Verdict Stop → List Place → Row
  -- its verdict and count alone
  counts : List ℕ → ℕ → Verdict Stop → ℕ → Row
  -- the lines that the program prints for a job
  prints : List ℕ → List String → Row
  -- the polynomials' values at a vertex
  values : List ℕ → Vertex → List ℤ → Row
  -- Pen's answer for places in bytes, the mark and a number of a place
  pens : List ℕ → List ℕ → Bool → ℕ → Move → Row
  -- the running sum of a polynomial at a vertex after so many terms
  sums : List ℕ → ℕ → List ℤ → ℕ → Answer ℤ → Row

-- what a row says
abbrev pub Holds : Row → Type 0
Holds (bodies s l os) = (length s ≡ l) × (open_refusal s ≡ 0) × (body_offsets s ≡ os)
Holds (refuses s k) = open_refusal s ≡ k
Holds (judges s p a) = judged s p ≡ a
Holds (points s p v) = pointed s p ≡ answered v
Holds (refuses_point s p k) = pointed s p ≡ refused k
Holds (traces s k v ps) = traced s k ≡ answered record { verdict = v; places = ps }
Holds (counts s k v m) = verdict_and_count (traced s k) ≡ answered (v, m)
Holds (prints s ls) = listing s ≡ lines ls
Holds (values s v zs) = (field_of s).value v ≡ zs
Holds (pens s ps mark k m) = penned s ps mark k ≡ answered m
Holds (sums s p v k a) = running_summed s p v k ≡ a

abbrev pub AllHold : List Row → Type 0
AllHold [] = Unit {0}
AllHold (r ∷ rs) = Holds r × AllHold rs

-- what row k of a table says
abbrev pub HoldsAt : ℕ → List Row → Type 0
HoldsAt k [] = Unit {0}
HoldsAt zero (r ∷ rs) = Holds r
HoldsAt (suc k) (r ∷ rs) = HoldsAt k rs

pub row : (k : ℕ) (rs : List Row) → AllHold rs → HoldsAt k rs
row k [] h = tt
row zero (r ∷ rs) h = h.0
row (suc k) (r ∷ rs) h = row k rs h.1

abbrev pub place : Vertex → List ℕ → ℕ → Place
place v ms s = record { facet = record { low = v; masks = ms }; side = s }

-- the places of A and of C, in the order in which Trace lists them
unfoldable pub places_a : List Place
places_a =
    place (pos 0 ∷ pos 0 ∷ []) (1 ∷ []) 0
    ∷ place (pos 0 ∷ pos 0 ∷ []) (3 ∷ []) 1
    ∷ place (pos 0 ∷ pos 0 ∷ []) (2 ∷ []) 1
    ∷ place (negsuc 0 ∷ pos 0 ∷ []) (1 ∷ []) 1
    ∷ place (negsuc 0 ∷ negsuc 0 ∷ []) (3 ∷ []) 0
    ∷ place (pos 0 ∷ negsuc 0 ∷ []) (2 ∷ []) 0
    ∷ []

unfoldable pub places_c : List Place
places_c =
    place (pos 0 ∷ pos 0 ∷ pos 0 ∷ []) (1 ∷ 3 ∷ []) 0
    ∷ place (pos 0 ∷ pos 0 ∷ pos 0 ∷ []) (1 ∷ 7 ∷ []) 1
    ∷ place (pos 0 ∷ pos 0 ∷ pos 0 ∷ []) (5 ∷ 7 ∷ []) 1
    ∷ place (pos 0 ∷ pos 0 ∷ pos 1 ∷ []) (1 ∷ 3 ∷ []) 0
    ∷ []

-- what the program prints for A
unfoldable pub lines_a : List String
lines_a =
    "2 loop 6"
    ∷ "0 0 1 512 0"
    ∷ "0 0 3 256 256"
    ∷ "0 0 2 0 512"
    ∷ "-1 0 1 -512 0"
    ∷ "-1 -1 3 -256 -256"
    ∷ "0 -1 2 0 -512"
    ∷ []

unfoldable pub marked_cases : List Row
marked_cases =
    -- A: the job has 54 bytes and opens; bodies at 16, 24 and 48
    bodies case_a 54 (16 ∷ 24 ∷ 48 ∷ [])
    -- A: the six facets
    ∷ traces case_a 4096 loop places_a
    -- A: the point on each
    ∷ points case_a (0 ∷ 0 ∷ 0 ∷ 0 ∷ 1 ∷ 0 ∷ []) (pos 512 ∷ pos 0 ∷ [])
    ∷ points case_a (0 ∷ 0 ∷ 0 ∷ 0 ∷ 3 ∷ 1 ∷ []) (pos 256 ∷ pos 256 ∷ [])
    ∷ points case_a (0 ∷ 0 ∷ 0 ∷ 0 ∷ 2 ∷ 1 ∷ []) (pos 0 ∷ pos 512 ∷ [])
    ∷ points case_a (255 ∷ 255 ∷ 0 ∷ 0 ∷ 1 ∷ 1 ∷ []) (negsuc 511 ∷ pos 0 ∷ [])
    ∷ points case_a (255 ∷ 255 ∷ 255 ∷ 255 ∷ 3 ∷ 0 ∷ []) (negsuc 255 ∷ negsuc 255 ∷ [])
    ∷ points case_a (0 ∷ 0 ∷ 255 ∷ 255 ∷ 2 ∷ 0 ∷ []) (pos 0 ∷ negsuc 511 ∷ [])
    -- B: A with space for 6 is loop, for 5 is full with 5, for 0 is full with 0
    ∷ traces case_a 6 loop places_a
    ∷ traces case_a 5 full (take 5 places_a)
    ∷ traces case_a 0 full []
    -- C: n = 3, polynomials x and y
    ∷ traces case_c 4096 (stopped edge) places_c
    -- C: the first three points, and the last
    ∷ points case_c (0 ∷ 0 ∷ 0 ∷ 0 ∷ 0 ∷ 0 ∷ 1 ∷ 3 ∷ 0 ∷ []) (pos 0 ∷ pos 0 ∷ pos 0 ∷ [])
    ∷ points case_c (0 ∷ 0 ∷ 0 ∷ 0 ∷ 0 ∷ 0 ∷ 1 ∷ 7 ∷ 1 ∷ []) (pos 0 ∷ pos 0 ∷ pos 0 ∷ [])
    ∷ points case_c (0 ∷ 0 ∷ 0 ∷ 0 ∷ 0 ∷ 0 ∷ 5 ∷ 7 ∷ 1 ∷ []) (pos 0 ∷ pos 0 ∷ pos 0 ∷ [])
    ∷ points case_c (0 ∷ 0 ∷ 0 ∷ 0 ∷ 1 ∷ 0 ∷ 1 ∷ 3 ∷ 0 ∷ []) (pos 0 ∷ pos 0 ∷ pos 1024 ∷ [])
    -- D: C's start with side 1 is edge, 1
    ∷ traces (with_start case_c (place (pos 0 ∷ pos 0 ∷ pos 0 ∷ []) (1 ∷ 3 ∷ []) 1)) 4096 (stopped edge) (place (pos 0 ∷ pos 0 ∷ pos 0 ∷ []) (1 ∷ 3 ∷ []) 1 ∷ [])
    -- E: C's facet with masks 2 3 is not crossed
    ∷ judges case_c (0 ∷ 0 ∷ 0 ∷ 0 ∷ 0 ∷ 0 ∷ 2 ∷ 3 ∷ 0 ∷ []) (answered false)
    -- F: values 0 and 1 cross; G: 0 and − 1 do not; H: 0 and 0 do not
    ∷ judges case_f (0 ∷ 0 ∷ 0 ∷ 0 ∷ 1 ∷ 0 ∷ []) (answered true)
    ∷ judges case_g (0 ∷ 0 ∷ 0 ∷ 0 ∷ 1 ∷ 0 ∷ []) (answered false)
    ∷ judges case_h (0 ∷ 0 ∷ 0 ∷ 0 ∷ 1 ∷ 0 ∷ []) (answered false)
    -- I: 1,048,576·x² at 16 is readable, at 17 not
    ∷ judges case_i (16 ∷ 0 ∷ 0 ∷ 0 ∷ 2 ∷ 0 ∷ []) (answered false)
    ∷ judges case_i (17 ∷ 0 ∷ 0 ∷ 0 ∷ 2 ∷ 0 ∷ []) (refused 10)
    -- J: low end equal to high is 6
    ∷ refuses case_j 6
    -- A: it prints these seven lines
    ∷ prints case_a lines_a
    -- request 2.5: − 0.3 steps, a wrong turn of document 01, are now 0
    ∷ points minus_three_tenths (slope_place from_minus_one) (pos 0 ∷ pos 0 ∷ [])
    -- 1 / 2,048 of a unit, half a step, is 0, and 3 / 2,048 is 2; − 1 / 2,048 is 0, and − 3 / 2,048 is − 2
    ∷ points half_step (slope_place from_zero) (pos 0 ∷ pos 0 ∷ [])
    ∷ points three_half_steps (slope_place from_zero) (pos 2 ∷ pos 0 ∷ [])
    ∷ points minus_half_step (slope_place from_minus_one) (pos 0 ∷ pos 0 ∷ [])
    ∷ points minus_three_half_steps (slope_place from_minus_one) (negsuc 1 ∷ pos 0 ∷ [])
    ∷ []

-- the same, built row by row
infixr 5 ◌also◌
pub data Rows : List Row → Type 0 where
  end : Rows []
  ◌also◌ : {r : Row} {rs : List Row} → Holds r → Rows rs → Rows (r ∷ rs)

pub all_hold : {rs : List Row} → Rows rs → AllHold rs
all_hold end = tt
all_hold (h also hs) = (h, all_hold hs)

-- every marked case holds, by computation
pub marked_cases_hold : AllHold marked_cases
unfolding body_offsets
    marked_cases places_a places_c lines_a one_term_job unit_box unit_start case_a case_c case_f case_g case_h case_i case_j
    slope_place slope_job from_zero from_minus_one minus_three_tenths half_step three_half_steps minus_half_step minus_three_half_steps
marked_cases_hold =
    all_hold {rs = marked_cases} (
    -- A
    (refl, refl, refl) also refl also refl also refl also refl also refl also refl also refl
    -- B
    also refl also refl also refl
    -- C, D and E
    also refl also refl also refl also refl also refl also refl also refl
    -- F, G, H, I and J
    also refl also refl also refl also refl also refl also refl
    -- the lines of A, and the rounding
    also refl also refl also refl also refl also refl also refl also end
    )
