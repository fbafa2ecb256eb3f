-- Inner loops before outer: document 02, request 2.14, from the bytes of a job and of a list of places on its loops.
use Rattle.std.specs.Prelude.{ℕ, zero, suc, ◌*◌, ◌%◌, Bool, true, false, not, ◌&&◌, ◌||◌, List, map, ℤ, length, eqb}
use Rattle.exact.specs.Crossed.{count_from}
use Rattle.curves.specs.Grid.{Facet, Place}
use Rattle.curves.specs.Walk.{Verdict, loop, stopped, full}
use Rattle.curves.specs.Step.{Stop}
use Rattle.paper.specs.Job.{dimension, body, high_end, decode_place, refuse_if, open_refusal}
use Rattle.paper.specs.Operations.{Answer, unless, first_refusal, point_refusal}
use Rattle.paper.specs.Demand3.{facets_of}
use Rattle.paper.specs.Pen.{place_bytes, place_count}
use Rattle.seamlist.specs.WholeTrace.{whole_trace}
use Rattle.nesting.specs.Inside.{among, inside}
use Rattle.nesting.specs.Standing.{Standing, some, standing}

-- ---- loops

unfoldable pub is_loop : Verdict Stop → Bool
is_loop loop = true
is_loop (stopped w) = false
is_loop full = false

-- the place's trace, given space enough, is a loop
unfoldable pub on_loop : List ℕ → Place → Bool
on_loop s p = is_loop (whole_trace s p).verdict

-- the facets of the place's loop: those that its trace lists, given space enough
unfoldable pub loop_of : List ℕ → Place → List Facet
loop_of s q = facets_of (whole_trace s q)

-- the loop of p is that of q
unfoldable pub same_loop : List ℕ → Place → Place → Bool
same_loop s p q = among (loop_of s q) p.facet

-- the high end of the box on axis 1
unfoldable pub row_end : List ℕ → ℤ
row_end s = high_end (body s 0) 0

-- the loop of p is inside that of q, a different one: the lowest vertex of the place p is
unfoldable pub loop_inside : List ℕ → Place → Place → Bool
loop_inside s p q = not (same_loop s p q) && inside (row_end s) (loop_of s q) p.facet.low

-- ---- the list

-- the place at a position of the list
unfoldable pub listed_at : List ℕ → List ℕ → ℕ → Place
listed_at s ps k = decode_place (dimension s) (place_bytes s ps k)

-- the places at the first k positions
unfoldable pub first_listed : List ℕ → List ℕ → ℕ → List Place
first_listed s ps k = map (listed_at s ps) (count_from 0 k)

-- ---- refusals

-- one position: 13, 9, 10 and 11 as Judge and Point have them; 18 if its trace is no loop or its loop already came
unfoldable pub position_refusal : List ℕ → List ℕ → ℕ → ℕ
position_refusal s ps k =
    first_refusal (point_refusal s (place_bytes s ps k))
    (refuse_if (not (on_loop s (listed_at s ps k)) || some (same_loop s (listed_at s ps k)) (first_listed s ps k)) 18 0)

-- the m positions from k on, all of one before the next
unfoldable pub positions_refusal : List ℕ → List ℕ → ℕ → ℕ → ℕ
positions_refusal s ps k zero = 0
positions_refusal s ps k (suc m) = first_refusal (position_refusal s ps k) (positions_refusal s ps (suc k) m)

-- Open's; 3 for another dimension; 13 if the list's length is not a multiple of 3n; then by position in the list
unfoldable pub order_refusal : List ℕ → List ℕ → ℕ
order_refusal s ps =
    first_refusal (open_refusal s)
    (refuse_if (not (eqb (dimension s) 2)) 3
    (refuse_if (not (eqb (length ps % (3 * dimension s)) 0)) 13 (positions_refusal s ps 0 (place_count s ps))))

-- ---- the operation

-- whether the proposed order of cutting stands
unfoldable pub ordered : List ℕ → List ℕ → Answer Standing
ordered s ps = unless (order_refusal s ps) (standing (loop_inside s) (first_listed s ps (place_count s ps)))
