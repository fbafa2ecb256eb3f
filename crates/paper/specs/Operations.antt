-- The operations: document 01, section "Operations and what they turn down", in its order. Each is a total function from
-- lists of bytes to an answer. A refusal is a number above 0, and 0 is none; the tests stand in the order written.
use Rattle.std.specs.Prelude.{ℕ, suc, zero, ◌+◌, ◌*◌, ◌/◌, Bool, not, cond, ◌&&◌, List, [], ◌∷◌, ◌++◌, map, ℤ, length, drop, ltb, eqb}
use Rattle.exact.specs.Crossed.{count_from}
use Rattle.curves.specs.Grid.{Facet, Place, facet_vertices, place_ok, same_facet}
use Rattle.curves.specs.Walk.{Next, Verdict, Trace, trace}
use Rattle.curves.specs.Step.{Stop, every, crossed_facet, step}
use Rattle.paper.specs.Job.{dimension, body, term_count, decode_place, encode_place, refuse_if, open_refusal}
use Rattle.paper.specs.Values.{field_of, point_of}

-- a refusal's number, or an answer
pub data Answer (A : Type 0) : Type 0 where
  refused : ℕ → Answer A
  answered : A → Answer A

-- the answer, unless a number refuses it
unfoldable pub unless : {A : Type 0} → ℕ → A → Answer A
unless zero a = answered a
unless (suc k) a = refused (suc k)

-- the first of two refusals
unfoldable pub first_refusal : ℕ → ℕ → ℕ
first_refusal zero l = l
first_refusal (suc k) l = suc k

-- ---- Open

-- a polynomial's count of terms; 0 if the job has no such polynomial
unfoldable pub polynomial_terms : List ℕ → ℕ → ℕ
polynomial_terms s k = cond (ltb k (dimension s)) (term_count (body s k)) 0

-- n and each polynomial's count of terms; no job has more than three
unfoldable pub open_values : List ℕ → List ℕ
open_values s = dimension s ∷ map (polynomial_terms s) (count_from 1 3)

unfoldable pub opened : List ℕ → Answer (List ℕ)
opened s = unless (open_refusal s) (open_values s)

-- ---- Body

unfoldable pub body_refusal : List ℕ → ℕ → ℕ
body_refusal s k = first_refusal (open_refusal s) (refuse_if (not (ltb k (dimension s + 1))) 12 0)

-- the part of the job that holds the body; empty for a refusal
unfoldable pub part_unless : ℕ → List ℕ → List ℕ
part_unless zero b = b
part_unless (suc r) b = []

unfoldable pub body_part : List ℕ → ℕ → List ℕ
body_part s k = part_unless (body_refusal s k) (body s k)

-- ---- Judge

-- 9 a vertex outside the box; 10 a vertex value not readable
unfoldable pub facet_refusal : List ℕ → Facet → ℕ
facet_refusal s f =
    refuse_if (not (every (field_of s).in_box (facet_vertices f))) 9
    (refuse_if (not (every (field_of s).readable (facet_vertices f))) 10 0)

unfoldable pub crossed_in : List ℕ → Facet → Bool
crossed_in s f = crossed_facet (dimension s) (field_of s) f

-- the place is not 3n bytes or is malformed
unfoldable pub place_bad : ℕ → List ℕ → Bool
place_bad n p = not (eqb (length p) (3 * n) && place_ok n (decode_place n p))

-- the facet of a place handed over as bytes
unfoldable pub facet_of : List ℕ → List ℕ → Facet
facet_of s p = (decode_place (dimension s) p).facet

unfoldable pub judge_refusal : List ℕ → List ℕ → ℕ
judge_refusal s p =
    first_refusal (open_refusal s) (refuse_if (place_bad (dimension s) p) 13 (facet_refusal s (facet_of s p)))

unfoldable pub judged : List ℕ → List ℕ → Answer Bool
judged s p = unless (judge_refusal s p) (crossed_in s (facet_of s p))

-- ---- Point

-- 13, 9, 10, then 11 not crossed
unfoldable pub point_refusal : List ℕ → List ℕ → ℕ
point_refusal s p = first_refusal (judge_refusal s p) (refuse_if (not (crossed_in s (facet_of s p))) 11 0)

unfoldable pub pointed : List ℕ → List ℕ → Answer (List ℤ)
pointed s p = unless (point_refusal s p) (point_of (dimension s) (field_of s) (facet_of s p))

-- ---- Step

unfoldable pub step_in : List ℕ → Place → Next Place Stop
step_in s x = step (dimension s) (field_of s) x

unfoldable pub stepped : List ℕ → List ℕ → Answer (Next Place Stop)
stepped s p = unless (point_refusal s p) (step_in s (decode_place (dimension s) p))

-- ---- Trace

-- the job's start
unfoldable pub start_of : List ℕ → Place
start_of s = decode_place (dimension s) (body s (dimension s))

-- 9, 10, 11 for the job's start
unfoldable pub trace_refusal : List ℕ → ℕ
trace_refusal s =
    first_refusal (open_refusal s)
    (first_refusal (facet_refusal s (start_of s).facet) (refuse_if (not (crossed_in s (start_of s).facet)) 11 0))

-- the next facet is the start's
unfoldable pub on_same_facet : Place → Place → Bool
on_same_facet x y = same_facet x.facet y.facet

-- verdict and places, with space for so many
unfoldable pub traced : List ℕ → ℕ → Answer (Trace Place Stop)
traced s space = unless (trace_refusal s) (trace (step_in s) on_same_facet (start_of s) space)

-- the number of places for which a buffer has space: its length divided by 3n, rounded down
unfoldable pub space_of : List ℕ → List ℕ → ℕ
space_of s buffer = length buffer / (3 * dimension s)

-- verdict and count
unfoldable pub verdict_and_count : Answer (Trace Place Stop) → Answer (Verdict Stop × ℕ)
verdict_and_count (refused k) = refused k
verdict_and_count (answered t) = answered (t.verdict, length t.places)

-- the places' bytes, one after another
unfoldable pub encode_places : List Place → List ℕ
encode_places [] = []
encode_places (p ∷ ps) = encode_place p ++ encode_places ps

-- the places written over a buffer from its front on; behind them stands what it held
unfoldable pub places_over : List Place → List ℕ → List ℕ
places_over ps buffer = encode_places ps ++ drop (length (encode_places ps)) buffer

-- the buffer at exit; a refusal touches nothing
unfoldable pub buffer_after : Answer (Trace Place Stop) → List ℕ → List ℕ
buffer_after (refused k) buffer = buffer
buffer_after (answered t) buffer = places_over t.places buffer
