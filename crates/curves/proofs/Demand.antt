-- The third demand holds of the traces in the grid, for every dimension from 1 on, every field and every place that Step does
-- not refuse. Where the box has an end on each axis, each curve has a number of facets, and a trace has space enough for it.
use Prim.Native.Nat.{ℕ, ◌<◌, ◌≤◌}
use native.Mathlib.Omega.{arith}
use mathlib.Core.Path.{◌≡◌, sym}
use mathlib.Core.Bool.{true}
use mathlib.Core.List.Memᴰ
use mathlib.Core.List.{List, map}
use lib.IntN.{ℤ}
use lib.ListN.{length}
use lib.Dec.{ltb}
use Rattle.exact.proofs.AndTests.{and_left}
use Rattle.curves.specs.Grid.{Vertex, Facet, Place, facet_vertices, plus, facet_ok, place_ok}
use Rattle.curves.specs.Walk.{loop, stopped, full}
use Rattle.curves.specs.Box.{within, box_facets}
use Rattle.curves.specs.Curve.{◌∈◌}
use Rattle.curves.specs.Step.{Stop, Field, every, readable_all}
use Rattle.curves.specs.Joined.{Traceable, Closes, HasFacets}
use Rattle.curves.specs.GridDemand.{trace_of, GridDemand3}
use Rattle.curves.proofs.Vertices.{facet_low_length}
use Rattle.curves.proofs.Finite.{box_facets_listed}
use Rattle.curves.proofs.WalkLists.{no_dup_length}
use Rattle.curves.proofs.WalkTrace.{loop_not_full, loop_not_stopped, stopped_not_full}
use Rattle.curves.proofs.WalkJoined.{not_full_traced, joined_ok}
use Rattle.curves.proofs.WalkClosed.{loop_closes, closes_loop}
use Rattle.curves.proofs.WalkCount.{facets_exist, enough_not_full}
use Rattle.curves.proofs.WalkDemand.{demand3, demand3_closed}
use Rattle.curves.proofs.GridStep.{accepted}
use Rattle.curves.proofs.GridWalk.{grid_walk}
use Rattle.curves.proofs.ClosesSides.{closes_sides}

pub grid_demand3 : (n : ℕ) (φ : Field) → 0 < n → (s : Place) → Traceable n φ s → (a b : ℕ) → GridDemand3 n φ s a b
grid_demand3 n φ pos s o a b =
    let e = closes_sides n φ pos s o in
    demand3_closed e.0 e.1 (demand3 (grid_walk n φ pos) o a b)

-- ---- the number of facets

-- the lowest vertex of a place that Step does not refuse lies in the box
pub traceable_low : (n : ℕ) (φ : Field) (p : Place) → Traceable n φ p → φ.in_box p.facet.low ≡ true
unfolding readable_all facet_vertices every
traceable_low n φ p o =
    let vs : List Vertex = facet_vertices p.facet in
    and_left (φ.in_box p.facet.low) (every φ.in_box (map (plus p.facet.low) p.facet.masks))
    (and_left (every φ.in_box vs) (every φ.readable vs) (accepted n φ p o).readable)

-- the facet of such a place stands in the list of the box's facets, where all vertices of n coordinates in the box lie between its ends
pub traceable_listed :
    (n : ℕ) (φ : Field) (low high : List ℤ) → ((v : Vertex) → length v ≡ n → φ.in_box v ≡ true → within low high v ≡ true) →
    (p : Place) → Traceable n φ p → p.facet ∈ box_facets n low high
unfolding place_ok
traceable_listed n φ low high inside p o =
    let form : facet_ok n p.facet ≡ true = and_left (facet_ok n p.facet) (ltb p.side 2) (accepted n φ p o).form in
    box_facets_listed n low high p.facet form (inside p.facet.low (facet_low_length n p.facet form) (traceable_low n φ p o))

-- so each curve has a number of facets
pub curve_finite :
    (n : ℕ) (φ : Field) → 0 < n →
    (low high : List ℤ) → ((v : Vertex) → length v ≡ n → φ.in_box v ≡ true → within low high v ≡ true) →
    (s : Place) → Traceable n φ s → (k : ℕ) × HasFacets n φ s.facet k
curve_finite n φ pos low high inside s o = facets_exist (grid_walk n φ pos) o (box_facets n low high) (traceable_listed n φ low high inside)

-- a trace is not full if its space is the length of a list that has the facet of every place that Step does not refuse, or more
pub room_enough :
    (n : ℕ) (φ : Field) → 0 < n →
    (u : List Facet) → ((p : Place) → Traceable n φ p → p.facet ∈ u) →
    (s : Place) → Traceable n φ s → (space : ℕ) → length u ≤ space → ¬ ((trace_of n φ s space).verdict ≡ full)
room_enough n φ pos u listed s o space room =
    let w = grid_walk n φ pos in
    let c = facets_exist w o u listed in
    let few : length c.1.facets ≤ length u =
    no_dup_length c.1.no_repeat (λ f i. let t = joined_ok w o (c.1.only f i) in Memᴰ.cast (sym t.2) (listed t.0 t.1)) in
    enough_not_full w o c.1 space (omega (arith, c.1.count))

-- ---- the verdict tells whether the curve closes

module _ (n : ℕ) (φ : Field) (pos : 0 < n) (s : Place) (o : Traceable n φ s) (space : ℕ) where
  pub loop_closed : (trace_of n φ s space).verdict ≡ loop → Closes n φ s.facet
  loop_closed h =
      (closes_sides n φ pos s o).1
      (loop_closes (grid_walk n φ pos) o (not_full_traced (grid_walk n φ pos) o space (loop_not_full h)) h)

  pub stopped_open : (w : Stop) → (trace_of n φ s space).verdict ≡ stopped w → ¬ Closes n φ s.facet
  stopped_open w h c =
      let some : ¬ ((trace_of n φ s space).verdict ≡ full) = stopped_not_full h in
      loop_not_stopped
      (closes_loop (grid_walk n φ pos) o (not_full_traced (grid_walk n φ pos) o space some) some ((closes_sides n φ pos s o).0 c))
      h
