-- Small cases of the order of cutting, each by computation from the definitions: the edges passed, inside a loop of six edges, which position is
-- answered, the one loop of case A in lists of none, one and two places, a loop inside another in both orders, and refusals.
use Prim.Native.Nat.{ℕ}
use mathlib.Core.Path.{◌≡◌, refl}
use mathlib.Core.Bool.{true, false}
use mathlib.Core.List.{List, [], ◌∷◌, flatten}
use lib.IntN.{ℤ, pos, negsuc}
use lib.Dec.{ltb}
use Rattle.curves.specs.Grid.{Facet, Place}
use Rattle.curves.specs.Box as Box
use Rattle.paper.specs.Operations as Operations
use Rattle.paper.specs.Operations.{Answer, refused, answered, encode_places}
use Rattle.paper.specs.Pen as Pen
use Rattle.paper.proofs.Cases.{body_offsets, case_a, case_c, case_j, one_term_job, unit_start, place}
use Rattle.paper.proofs.Jobs.{entries, job_of, double_word_bytes, term}
use Rattle.seamlist.proofs.Cases.{plane_job, two_lines, at_origin}
use Rattle.seamlist.specs.JobSeams as JobSeams
use Rattle.seamlist.specs.WholeTrace as WholeTrace
use Rattle.nesting.specs.Inside as Inside
use Rattle.nesting.specs.Inside.{edges_passed, inside}
use Rattle.nesting.specs.Standing as Standing
use Rattle.nesting.specs.Standing.{Standing, stands, broken_at, standing}
use Rattle.nesting.specs.CutOrder as CutOrder
use Rattle.nesting.specs.CutOrder.{ordered}

-- what this unfolds is all that the cases compute with
unfoldable pub order_of : List ℕ → List ℕ → Answer Standing
unfolding body_offsets flatten entries job_of double_word_bytes term one_term_job unit_start plane_job two_lines at_origin case_a case_c case_j
    Box.keep Box.pairs Box.lists_under Box.counted Box.span Box.between Box.box_vertices Box.chains Box.box_facets
    Operations.encode_places Pen.place_bytes Pen.place_count
    JobSeams.low_ends JobSeams.high_ends JobSeams.job_facets WholeTrace.whole_trace
    Inside.edge_from Inside.edges_passed Inside.among Inside.odd Inside.inside Standing.some Standing.standing_from Standing.standing
    CutOrder.is_loop CutOrder.on_loop CutOrder.loop_of CutOrder.same_loop CutOrder.row_end CutOrder.loop_inside CutOrder.listed_at CutOrder.first_listed
    CutOrder.position_refusal CutOrder.positions_refusal CutOrder.order_refusal CutOrder.ordered
order_of s ps = ordered s ps

abbrev edge : ℤ → ℤ → ℕ → Facet
edge x y m = record { low = x ∷ y ∷ []; masks = m ∷ [] }

-- ---- inside

-- from (1, 5) to the high end 3: two edges, that at the vertex's own left is none of them
pub two_passed : edges_passed (pos 3) (pos 1 ∷ pos 5 ∷ []) ≡ edge (pos 1) (pos 5) 1 ∷ edge (pos 2) (pos 5) 1 ∷ []
unfolding order_of
two_passed = refl

-- the six edges around (1, 1)
unfoldable pub around : List Facet
around =
    edge (pos 1) (pos 1) 1 ∷ edge (pos 1) (pos 1) 2 ∷ edge (pos 1) (pos 1) 3 ∷ edge (pos 0) (pos 1) 1 ∷ edge (pos 1) (pos 0) 2 ∷ edge (pos 0) (pos 0) 3 ∷ []

pub one_ahead : inside (pos 3) around (pos 1 ∷ pos 1 ∷ []) ≡ true
unfolding order_of around
one_ahead = refl

pub two_ahead : inside (pos 3) around (pos 0 ∷ pos 1 ∷ []) ≡ false
unfolding order_of around
two_ahead = refl

-- at its right, and in another row
pub none_ahead : inside (pos 3) around (pos 2 ∷ pos 1 ∷ []) ≡ false
unfolding order_of around
none_ahead = refl

pub other_row : inside (pos 3) around (pos 0 ∷ pos 0 ∷ []) ≡ false
unfolding order_of around
other_row = refl

-- ---- the position, where a smaller number is inside a larger

pub rising_order : standing ltb (1 ∷ 2 ∷ 3 ∷ []) ≡ stands
unfolding order_of
rising_order = refl

-- of two positions with a later one inside them the first
pub first_of_two : standing ltb (2 ∷ 5 ∷ 4 ∷ 3 ∷ []) ≡ broken_at 1
unfolding order_of
first_of_two = refl

-- ---- the loop of case A

abbrev on_a : Place
on_a = place (pos 0 ∷ pos 0 ∷ []) (1 ∷ []) 0

-- elsewhere on it, the other side
abbrev elsewhere : Place
elsewhere = place (negsuc 0 ∷ negsuc 0 ∷ []) (3 ∷ []) 1

pub empty_list : ordered case_a [] ≡ answered stands
unfolding order_of
empty_list = refl

pub one_loop : ordered case_a (encode_places (on_a ∷ [])) ≡ answered stands
unfolding order_of
one_loop = refl

-- the loop already came
pub came_already : ordered case_a (encode_places (on_a ∷ elsewhere ∷ [])) ≡ refused 18
unfolding order_of
came_already = refl

-- an open curve is no loop
pub open_curve : ordered (two_lines at_origin) (encode_places (on_a ∷ [])) ≡ refused 18
unfolding order_of
open_curve = refl

-- ---- a loop inside another

-- 2·r² − 7·r + 3 for r = x² + y², with box − 2 to 2: above 0 at the origin, under 0 around it, above 0 farther out
unfoldable pub ring : List ℕ
ring =
    plane_job (negsuc 1 ∷ pos 2 ∷ negsuc 1 ∷ pos 2 ∷ [])
    (term (pos 3) (0 ∷ 0 ∷ 0 ∷ 0 ∷ [])
    ∷ term (negsuc 6) (0 ∷ 2 ∷ 0 ∷ 0 ∷ [])
    ∷ term (pos 2) (0 ∷ 4 ∷ 0 ∷ 0 ∷ [])
    ∷ term (negsuc 6) (2 ∷ 0 ∷ 0 ∷ 0 ∷ [])
    ∷ term (pos 4) (2 ∷ 2 ∷ 0 ∷ 0 ∷ [])
    ∷ term (pos 2) (4 ∷ 0 ∷ 0 ∷ 0 ∷ [])
    ∷ [])
    on_a

abbrev outer : Place
outer = place (pos 1 ∷ pos 0 ∷ []) (1 ∷ []) 0

pub inner_first : ordered ring (encode_places (on_a ∷ outer ∷ [])) ≡ answered stands
unfolding order_of ring
inner_first = refl

pub outer_first : ordered ring (encode_places (outer ∷ elsewhere ∷ [])) ≡ answered (broken_at 0)
unfolding order_of ring
outer_first = refl

-- ---- refusals

-- two bytes too much; dimension 3; a job that does not open
pub uneven_length : ordered case_a (0 ∷ 0 ∷ 0 ∷ 0 ∷ 1 ∷ 0 ∷ 0 ∷ 0 ∷ []) ≡ refused 13
unfolding order_of
uneven_length = refl

pub dimension_3 : ordered case_c [] ≡ refused 3
unfolding order_of
dimension_3 = refl

pub not_opened : ordered case_j [] ≡ refused 6
unfolding order_of
not_opened = refl

-- not crossed at the first position, and malformed at the second: the first position's number, though it is 11
pub by_position : ordered case_a (encode_places (place (pos 1 ∷ pos 0 ∷ []) (2 ∷ []) 0 ∷ place (pos 0 ∷ pos 0 ∷ []) (0 ∷ []) 0 ∷ [])) ≡ refused 11
unfolding order_of
by_position = refl
