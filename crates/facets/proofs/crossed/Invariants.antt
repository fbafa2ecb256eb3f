-- `facets::crossed` meets its contract. At the head of the walk over the vertices every vertex before i was with D, so the answer is what the
-- vertices from i on say; at the head of the walk over the powers every coefficient before j was 0, so the vertex's sign is that of the rest.
use mathlib.Core.Path.{◌≡◌}
use Rattle.exact.specs.Crossed.{crossed}
use Rattle.determinants.specs.Cells.{facet_columns}
use Rattle.facets.proofs.CrossedWalk.{vertices_left, Passed}
use Rattle.facets.proofs.crossed.Given as goal

abbrev pub invariant-loop-j : goal.invariant-loop-j
invariant-loop-j l = (l.with ≡ l.i) × Passed l.n (facet_columns l.n l.cells l.out) l.i l.j

abbrev pub invariant-vertices : goal.invariant-vertices
invariant-vertices l =
    (l.with ≡ l.i) × (crossed l.n (facet_columns l.n l.cells l.out) ≡ vertices_left l.n (facet_columns l.n l.cells l.out) l.i)
