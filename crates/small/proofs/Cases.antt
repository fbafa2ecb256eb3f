-- The small cutter's limits in dimensions 2, 3 and 4, as rows of one table: each holds by computation from the definitions. In each row the small
-- Trace and the full one have space for two places.
use Prim.Native.Nat.{ℕ, ◌*◌, ◌-◌, ◌%◌}
use mathlib.Core.Path.{◌≡◌, refl}
use mathlib.Core.Bool.{true, false, cond}
use mathlib.Core.List.{List, [], ◌∷◌, ◌++◌, map, flatten, flat_map}
use lib.IntN.{ℤ, pos, negsuc}
use lib.Dec.{eqb}
use lib.ListN.{take, set, replicate}
use Rattle.exact.specs.Crossed.{count_from}
use Rattle.curves.specs.Step.{Stop}
use Rattle.curves.specs.Walk.{Verdict, loop, full}
use Rattle.paper.specs.Job.{vertex_bytes, encode_place}
use Rattle.paper.specs.Operations.{Answer, refused, answered, polynomial_terms, open_values, traced, verdict_and_count}
use Rattle.paper.proofs.Cases.{body_offsets, case_a, place, places_a}
use Rattle.paper.proofs.Jobs.{entries, job_of, double_word_bytes, term, coordinate}
use Rattle.small.specs.Small.{small_coordinate_limit, small_term_limit, end_small, axis_small, box_small, terms_small, job_small, small_refusal, small_opened, small_trace_refusal, small_traced}

-- ---- the jobs

-- the ends of a box from − 64 to 64 on each axis: end 2·a is the low one of axis a, end 2·a + 1 the high one
unfoldable pub largest_box : List ℤ
largest_box = flat_map (λ (a : ℕ). negsuc 63 ∷ pos 64 ∷ []) (count_from 0 4)

-- the start: at x 0 0 0, with masks 1, 3 and 7, cut to dimension n
unfoldable pub start : ℕ → ℤ → ℕ → List ℕ
start n x side = encode_place (place (take n (x ∷ pos 0 ∷ pos 0 ∷ pos 0 ∷ [])) (take (n - 1) (1 ∷ 3 ∷ 7 ∷ [])) side)

-- dimension n, these ends of the box, these polynomials and this start
unfoldable pub boxed : ℕ → List ℤ → List (List ℕ) → List ℕ → List ℕ
boxed n ends ps st = job_of n (vertex_bytes (take (2 * n) ends) ∷ (take (n - 1) ps ++ (st ∷ [])))

-- the polynomials x, y and z
unfoldable pub axes : List (List ℕ)
axes = map coordinate (count_from 0 3)

-- the exponents up to the sum 4 on two axes, in rising order
unfoldable pub exponent_pairs : List (List ℕ)
exponent_pairs = flat_map (λ (x : ℕ). map (λ (y : ℕ). x ∷ y ∷ []) (count_from 0 (5 - x))) (count_from 0 5)

-- 15 terms, in axes 1 and 2
unfoldable pub fifteen_terms : List ℕ
fifteen_terms = flat_map (λ (es : List ℕ). term (pos 1) (es ++ (0 ∷ 0 ∷ []))) exponent_pairs

-- the first m terms in axes 1, 2 and 3; the 16th and 17th are x and x·z
unfoldable pub first_terms : ℕ → List ℕ
first_terms m =
    flat_map (term (pos 1)) (take m (map (λ (es : List ℕ). 0 ∷ (es ++ (0 ∷ []))) exponent_pairs ++ map (λ (z : ℕ). 1 ∷ 0 ∷ z ∷ 0 ∷ []) (count_from 0 4)))

-- the job with one end past 64
unfoldable pub end_beyond : ℕ → ℕ → List ℕ
end_beyond n k = boxed n (set largest_box k (cond (eqb (k % 2) 0) (negsuc 64) (pos 65))) axes (start n (pos 0) 0)

-- the job with m terms in one polynomial, counted from 0
unfoldable pub with_terms : ℕ → ℕ → ℕ → List ℕ
with_terms n k m = boxed n largest_box (set axes k (first_terms m)) (start n (pos 0) 0)

-- ---- the limits and the order

-- the small Open's refusal of each of the jobs; what this unfolds is all that the cases here compute with
unfoldable pub refusals : List (List ℕ) → List ℕ
unfolding body_offsets flatten flat_map
    entries job_of double_word_bytes term coordinate largest_box start boxed axes exponent_pairs fifteen_terms first_terms end_beyond with_terms
    small_coordinate_limit small_term_limit end_small axis_small box_small terms_small job_small small_refusal small_opened small_trace_refusal small_traced
    polynomial_terms open_values
refusals ss = map small_refusal ss

-- each end at 64, and the last one at 65
pub taken_at_64 : small_refusal (boxed 2 largest_box axes (start 2 (pos 0) 0)) ≡ 0
unfolding refusals
taken_at_64 = refl

pub turned_away_at_65 : small_refusal (end_beyond 2 3) ≡ 17
unfolding refusals
turned_away_at_65 = refl

-- 16 terms, and 17 in the last polynomial
pub taken_with_16 : job_small (with_terms 3 0 16) ≡ true
unfolding refusals
taken_with_16 = refl

pub turned_away_with_17 : job_small (with_terms 3 1 17) ≡ false
unfolding refusals
turned_away_with_17 = refl

-- 17 after 8, for a start whose side is 2, and before 9, for a start at 65
pub after_8 : small_refusal (boxed 2 (set largest_box 0 (negsuc 64)) axes (start 2 (pos 0) 2)) ≡ 8
unfolding refusals
after_8 = refl

pub before_9 : small_trace_refusal (boxed 2 (set largest_box 0 (negsuc 64)) axes (start 2 (pos 65) 0)) ≡ 17
unfolding refusals
before_9 = refl

-- each of the 2·n ends alone, past 64 by 1, is 17
pub each_end : refusals (flat_map (λ (n : ℕ). map (end_beyond n) (count_from 0 (2 * n))) (2 ∷ 3 ∷ 4 ∷ [])) ≡ replicate 18 17
unfolding refusals
each_end = refl

-- each polynomial alone: 17 terms are 17, and 16 are taken; dimension 2 has no more than 15
pub each_polynomial_17 : refusals (flat_map (λ (n : ℕ). map (λ (k : ℕ). with_terms n k 17) (count_from 0 (n - 1))) (3 ∷ 4 ∷ [])) ≡ replicate 5 17
unfolding refusals
each_polynomial_17 = refl

pub each_polynomial_16 : refusals (flat_map (λ (n : ℕ). map (λ (k : ℕ). with_terms n k 16) (count_from 0 (n - 1))) (3 ∷ 4 ∷ [])) ≡ replicate 5 0
unfolding refusals
each_polynomial_16 = refl

-- ---- the rows

-- the refusal of the small Open (0 if it has none), and what the small Trace and the full one answer
abbrev Answered : Type 0
Answered = ℕ × (Answer (Verdict Stop × ℕ) × Answer (Verdict Stop × ℕ))

-- a job, and what it is answered
pub record Row : Type 0 where
  pub job : List ℕ
  pub answers : Answered

abbrev row : List ℕ → ℕ → Answer (Verdict Stop × ℕ) → Answer (Verdict Stop × ℕ) → Row
row s k a b = record { job = s; answers = (k, (a, b)) }

unfoldable pub answers_to : List ℕ → Answered
answers_to s = (small_refusal s, (verdict_and_count (small_traced s 2), verdict_and_count (traced s 2)))

-- every row of a table holds
infixr 5 ◌also◌
pub data AllHold : List Row → Type 0 where
  end : AllHold []
  ◌also◌ : {r : Row} {rs : List Row} → answers_to r.job ≡ r.answers → AllHold rs → AllHold (r ∷ rs)

abbrev two : Answer (Verdict Stop × ℕ)
two = answered (full, 2)

-- the rows of each dimension
unfoldable pub limit_rows : ℕ → List Row
limit_rows n =
    -- each end at 64
    row (boxed n largest_box axes (start n (pos 0) 0)) 0 two two
    -- the first low end at − 65, the last high end at 65
    ∷ row (end_beyond n 0) 17 (refused 17) two
    ∷ row (end_beyond n (2 * n - 1)) 17 (refused 17) two
    -- a low end above 64, a high end under − 64
    ∷ row (boxed n (set (set largest_box 0 (pos 65)) 1 (pos 66)) axes (start n (pos 65) 0)) 17 (refused 17) (refused 11)
    ∷ row (boxed n (set (set largest_box 0 (negsuc 65)) 1 (negsuc 64)) axes (start n (negsuc 65) 0)) 17 (refused 17) (refused 11)
    -- a start at 65, the box inside
    ∷ row (boxed n largest_box axes (start n (pos 65) 0)) 0 (refused 9) (refused 9)
    -- 17 before 9
    ∷ row (boxed n (set largest_box 0 (negsuc 64)) axes (start n (pos 65) 0)) 17 (refused 17) (refused 9)
    -- 8 before 17
    ∷ row (boxed n (set largest_box 0 (negsuc 64)) axes (start n (pos 0) 2)) 8 (refused 8) (refused 8)
    -- 6 for an end that no cutter takes
    ∷ row (boxed n (set largest_box 0 (negsuc 256)) axes (start n (pos 0) 0)) 6 (refused 6) (refused 6)
    ∷ []

unfoldable pub marked_small : List Row
marked_small =
    flat_map limit_rows (2 ∷ 3 ∷ 4 ∷ [])
    -- 15 terms are all that dimension 2 has; the constant 1 makes the start not crossed
    ++ (row (boxed 2 largest_box (fifteen_terms ∷ []) (start 2 (pos 0) 0)) 0 (refused 11) (refused 11)
    -- 17 terms before 11
    ∷ row (with_terms 3 0 16) 0 (refused 11) (refused 11)
    ∷ row (with_terms 3 1 17) 17 (refused 17) (refused 11)
    ∷ row (with_terms 4 0 16) 0 (refused 11) (refused 11)
    ∷ row (with_terms 4 2 17) 17 (refused 17) (refused 11)
    ∷ [])

pub marked_small_hold : AllHold marked_small
unfolding refusals answers_to limit_rows marked_small
marked_small_hold =
    -- dimension 2
    refl also refl also refl also refl also refl also refl also refl also refl also refl
    -- dimension 3
    also refl also refl also refl also refl also refl also refl also refl also refl also refl
    -- dimension 4
    also refl also refl also refl also refl also refl also refl also refl also refl also refl
    -- terms
    also refl also refl also refl also refl also refl also end

-- A on the small cutter: Open's answer, and the six facets
pub case_a_opens : small_opened case_a ≡ answered (2 ∷ 3 ∷ 0 ∷ 0 ∷ [])
unfolding refusals case_a
case_a_opens = refl

pub case_a_traces : small_traced case_a 4096 ≡ answered record { verdict = loop; places = places_a }
unfolding refusals case_a places_a
case_a_traces = refl
