-- The simplex with a corner and a row's order, when the masks of its vertices are read from the table one by one.
use Prim.Native.Nat.{ℕ}
use mathlib.Core.Path.{◌≡◌, ◌∙◌}
use mathlib.Core.List.{List, [], ◌∷◌, map}
use lib.ListN.{take}
use Rattle.curves.specs.Grid.{plus, vertices}
use Rattle.places.specs.Held.{vertex_as}
use Rattle.paper.specs.declared.Vertex.{Vertex}
use Rattle.columns.specs.Vertices.{vertex_list, simplex_vertices}
use Rattle.table.specs.Table.{InTable, order_at, vertex_mask}
use Rattle.table.proofs.RowVertices.{row_vertices}

pub row_simplex : {n row : ℕ} {ms : List ℕ} (corner : Vertex) → InTable n row
    → ms ≡ vertex_mask (order_at n row) 1 ∷ vertex_mask (order_at n row) 2 ∷ vertex_mask (order_at n row) 3 ∷ vertex_mask (order_at n row) 4 ∷ []
    → simplex_vertices n corner ms ≡ vertices (vertex_as n corner) (order_at n row)
unfolding simplex_vertices vertex_list
row_simplex {n} {row} corner t e =
    (λ i. map (plus (vertex_as n corner)) (0 ∷ take n (e i))) ∙ row_vertices n row t (vertex_as n corner)
