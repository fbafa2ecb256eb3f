-- Nothing shown of the grid is empty: a closed and an open curve in dimension 2 and in dimension 3, on fields given by polynomials
-- and a box, with their verdicts and their numbers of facets computed and the theorems applied to them.
use Prim.Native.Nat.{ℕ, ◌+◌, ◌<◌}
use native.Mathlib.Omega.{arith}
use mathlib.Core.Path.{◌≡◌, refl, ap, ◌∙◌, subst}
use mathlib.Core.Bool.{Bool, true}
use mathlib.Core.List.{[], ◌∷◌}
use lib.IntN.{ℤ, pos, negsuc}
use lib.ListN.{length, length-map, get_or}
use lib.Count.{ones_in, ones}
use lib.Signed.{le_z}
use Rattle.exact.specs.Int.{◌⊕◌, ◌⊖◌, ◌⊗◌, neg, 0ℤ, 1ℤ}
use Rattle.exact.specs.Sign.{sign, or_else, lex_sign, same_sign}
use Rattle.exact.specs.Det.{laplace, if_none, det, rows_from, determinant}
use Rattle.exact.specs.Crossed.{count_from, unit_column, coefficient, coefficients, all_have_sign, crossed, remove, other_crossed, exit}
use Rattle.curves.specs.Grid.{Vertex, Place, up, down, plus, axes_from, axes, holds, vertices, facet_vertices, chain, facet_ok, place_ok}
use Rattle.curves.specs.Grid.{same_vertex, same_masks, same_facet, turn, steps, last_mask, flat, missed, oriented, added, bend, downs, flat_side, bent_side}
use Rattle.curves.specs.Grid.{incidence, masks_from, side_of, place_at, place_of}
use Rattle.curves.specs.Walk.{Verdict, loop, stopped, after_test, after_step, trace_from, trace}
use Rattle.curves.specs.Step.{Stop, edge, limit, every, Field, column, columns, crossed_facet, readable_all, traceable, onward, step_through, step}
use Rattle.curves.specs.Joined.{Traceable, Closes, HasFacets}
use Rattle.curves.specs.GridDemand.{facet_of, trace_of, GridDemand3}
use Rattle.curves.specs.Box.{within}
use Rattle.curves.proofs.WalkTrace.{loop_not_full, stopped_not_full}
use Rattle.curves.proofs.WalkJoined.{not_full_traced}
use Rattle.curves.proofs.WalkCount.{loop_facets}
use Rattle.curves.proofs.WalkOpen.{stopped_facets}
use Rattle.curves.proofs.GridStep.{turn_traceable}
use Rattle.curves.proofs.GridWalk.{grid_walk}
use Rattle.curves.proofs.Demand.{grid_demand3, curve_finite, loop_closed, stopped_open}

-- ---- what is computed of an example

-- whether Step takes the start, and the verdicts and counts of the traces from the start and from the start turned
pub record Outline : Type 0 where
  pub taken : Bool
  pub verdict : Verdict Stop
  pub count : ℕ
  pub turned_verdict : Verdict Stop
  pub turned_count : ℕ

unfoldable pub outline : ℕ → Field → Place → ℕ → Outline
outline n φ s space = record {
  taken = traceable n φ s;
  verdict = (trace_of n φ s space).verdict;
  count = length (trace_of n φ s space).places;
  turned_verdict = (trace_of n φ (turn s) space).verdict;
  turned_count = length (trace_of n φ (turn s) space).places;
}

-- ---- the fields

-- the coordinates of a vertex
abbrev x : Vertex → ℤ
x v = get_or v 0 0ℤ

abbrev y : Vertex → ℤ
y v = get_or v 1 0ℤ

abbrev z : Vertex → ℤ
z v = get_or v 2 0ℤ

-- the start of both curves in the plane: from 0 0 to 1 0
unfoldable pub plane_start : Place
plane_start = record { facet = record { low = 0ℤ ∷ 0ℤ ∷ []; masks = 1 ∷ [] }; side = 0 }

-- 2x² + 2y² − 1 around the origin: closed
unfoldable pub circle_field : Field
circle_field = record {
  value = λ v. (pos 2 ⊗ (x v ⊗ x v) ⊕ pos 2 ⊗ (y v ⊗ y v) ⊖ 1ℤ) ∷ [];
  in_box = within (negsuc 0 ∷ negsuc 0 ∷ []) (1ℤ ∷ 1ℤ ∷ []);
  readable = λ v. true;
}

-- x, readable up to y = 1 in a box up to y = 2: stopped by what is not readable above and by the box below
unfoldable pub line_field : Field
line_field = record {
  value = λ v. x v ∷ [];
  in_box = within (negsuc 0 ∷ negsuc 0 ∷ []) (1ℤ ∷ pos 2 ∷ []);
  readable = λ v. le_z (y v) 1ℤ;
}

-- x and y in the unit cube: the marked case C, stopped by the box at both ends
unfoldable pub cross_field : Field
cross_field = record {
  value = λ v. x v ∷ y v ∷ [];
  in_box = within (0ℤ ∷ 0ℤ ∷ 0ℤ ∷ []) (1ℤ ∷ 1ℤ ∷ 1ℤ ∷ []);
  readable = λ v. true;
}

unfoldable pub cross_start : Place
cross_start = record { facet = record { low = 0ℤ ∷ 0ℤ ∷ 0ℤ ∷ []; masks = 1 ∷ 3 ∷ [] }; side = 0 }

-- 2x² + 2y² − 1 and z: the circle again, closed, in dimension 3
unfoldable pub ring_field : Field
ring_field = record {
  value = λ v. (pos 2 ⊗ (x v ⊗ x v) ⊕ pos 2 ⊗ (y v ⊗ y v) ⊖ 1ℤ) ∷ z v ∷ [];
  in_box = within (negsuc 0 ∷ negsuc 0 ∷ 0ℤ ∷ []) (1ℤ ∷ 1ℤ ∷ 1ℤ ∷ []);
  readable = λ v. true;
}

unfoldable pub ring_start : Place
ring_start = record { facet = record { low = 0ℤ ∷ 0ℤ ∷ 0ℤ ∷ []; masks = 1 ∷ 5 ∷ [] }; side = 0 }

-- ---- the outlines

abbrev closed : ℕ → Outline
closed k = record { taken = true; verdict = loop; count = k; turned_verdict = loop; turned_count = k }

abbrev stops : Stop → ℕ → Stop → ℕ → Outline
stops w k u l = record { taken = true; verdict = stopped w; count = k; turned_verdict = stopped u; turned_count = l }

-- space enough for each, and so little that a wrong step ends soon
abbrev space : ℕ
space = 12

record Outlines : Type 0 where
  circle : outline 2 circle_field plane_start space ≡ closed 6
  line : outline 2 line_field plane_start space ≡ stops limit 3 edge 3
  cross : outline 3 cross_field cross_start space ≡ stops edge 4 edge 1
  ring : outline 3 ring_field ring_start space ≡ closed 10

outlines : Outlines
unfolding outline plane_start circle_field line_field cross_field cross_start ring_field ring_start ◌⊕◌ ◌⊖◌ ◌⊗◌ neg within sign or_else lex_sign same_sign laplace if_none det rows_from determinant count_from unit_column coefficient coefficients all_have_sign crossed remove other_crossed exit up down plus axes_from axes holds vertices facet_vertices chain facet_ok place_ok same_vertex same_masks same_facet turn steps last_mask flat missed oriented added bend downs flat_side bent_side incidence masks_from side_of place_at place_of after_test after_step trace_from trace every column columns crossed_facet readable_all traceable onward step_through step ones_in ones
outlines = record { circle = refl; line = refl; cross = refl; ring = refl }

-- ---- what follows of a closed outline

pub record ClosedCurve (n : ℕ) (φ : Field) (s : Place) (k : ℕ) : Type 0 where
  pub start : Traceable n φ s
  pub closes : Closes n φ s.facet
  pub facets : HasFacets n φ s.facet k
  pub demand : (a b : ℕ) → GridDemand3 n φ s a b

outline_closed : (n : ℕ) (φ : Field) (s : Place) (space k : ℕ) → 0 < n → outline n φ s space ≡ closed k → ClosedCurve n φ s k
unfolding outline
outline_closed n φ s space k large e =
    let o : Traceable n φ s = ap (λ (t : Outline). t.taken) e in
    let l : (trace_of n φ s space).verdict ≡ loop = ap (λ (t : Outline). t.verdict) e in
    record {
      start = o;
      closes = loop_closed n φ large s o space l;
      facets =
          subst (HasFacets n φ s.facet) (length-map (trace_of n φ s space).places facet_of ∙ ap (λ (t : Outline). t.count) e)
          (loop_facets (grid_walk n φ large) o (not_full_traced (grid_walk n φ large) o space (loop_not_full l)) l);
      demand = grid_demand3 n φ large s o;
    }

-- ---- what follows of a stopped outline

pub record OpenCurve (n : ℕ) (φ : Field) (s : Place) (k : ℕ) : Type 0 where
  pub start : Traceable n φ s
  pub open_ended : ¬ Closes n φ s.facet
  pub facets : HasFacets n φ s.facet k
  pub demand : (a b : ℕ) → GridDemand3 n φ s a b

outline_open :
    (n : ℕ) (φ : Field) (s : Place) (space : ℕ) (w : Stop) (k : ℕ) (u : Stop) (l m : ℕ) → 0 < n →
    outline n φ s space ≡ stops w k u l → k + l ≡ m + 1 → OpenCurve n φ s m
unfolding outline
outline_open n φ s space w k u l m large e total =
    let o : Traceable n φ s = ap (λ (t : Outline). t.taken) e in
    let h : (trace_of n φ s space).verdict ≡ stopped w = ap (λ (t : Outline). t.verdict) e in
    let i : (trace_of n φ (turn s) space).verdict ≡ stopped u = ap (λ (t : Outline). t.turned_verdict) e in
    let c = stopped_facets (grid_walk n φ large) o
    (not_full_traced (grid_walk n φ large) o space (stopped_not_full h)) h
    (not_full_traced (grid_walk n φ large) (turn_traceable n φ s o) space (stopped_not_full i)) (stopped_not_full i) in
    let same : c.0 ≡ m = omega (arith, c.2, ap (λ (t : Outline). t.count) e, ap (λ (t : Outline). t.turned_count) e) in
    record {
      start = o;
      open_ended = stopped_open n φ large s o space w h;
      facets = subst (HasFacets n φ s.facet) same c.1;
      demand = grid_demand3 n φ large s o;
    }

-- ---- the four curves

pub circle_closed : ClosedCurve 2 circle_field plane_start 6
circle_closed = outline_closed 2 circle_field plane_start space 6 (omega arith) outlines.circle

pub line_open : OpenCurve 2 line_field plane_start 5
line_open = outline_open 2 line_field plane_start space limit 3 edge 3 5 (omega arith) outlines.line refl

pub cross_open : OpenCurve 3 cross_field cross_start 4
cross_open = outline_open 3 cross_field cross_start space edge 4 edge 1 4 (omega arith) outlines.cross refl

pub ring_closed : ClosedCurve 3 ring_field ring_start 10
ring_closed = outline_closed 3 ring_field ring_start space 10 (omega arith) outlines.ring

-- the box of a field bounds its curves too
pub ring_finite : (k : ℕ) × HasFacets 3 ring_field ring_start.facet k
unfolding ring_field
ring_finite = curve_finite 3 ring_field (omega arith) _ _ (λ v l e. e) ring_start ring_closed.start
