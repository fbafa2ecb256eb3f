-- Corners: the corner of the simplex of a facet from the facet's lowest vertex, and back, and what the code holds of them.
use Rattle.std.specs.Prelude.{ℕ, zero, suc, ◌+◌, ◌≡◌, List, [], ◌∷◌}
use Rattle.curves.specs.Grid.{Place, up, down}
use Rattle.curves.specs.Grid as Grid
use Rattle.paper.specs.declared.Vertex.{Vertex}
use Rattle.paper.specs.declared.HeldPlace.{HeldPlace}
use Rattle.places.specs.Held.{vertex_as, place_as, VertexSize}
use Rattle.table.specs.Table.{order_at}

-- the corner of the simplex whose facet without a vertex has the lowest vertex v: one below on the first axis if that is vertex 0
unfoldable pub corner_under : Grid.Vertex → List ℕ → ℕ → Grid.Vertex
corner_under v [] i = v
corner_under v (a ∷ o) zero = down a v
corner_under v (a ∷ o) (suc i) = v

-- the lowest vertex of the facet without a vertex: one above the corner on the first axis if that is vertex 0
unfoldable pub low_over : Grid.Vertex → List ℕ → ℕ → Grid.Vertex
low_over c [] i = c
low_over c (a ∷ o) zero = up a c
low_over c (a ∷ o) (suc i) = c

-- r is the corner under a lowest vertex, in every dimension
pub record CornerIs (v : Vertex) (o : List ℕ) (i : ℕ) (r : Vertex) : Type 0 where
  pub is : (n : ℕ) → vertex_as n r ≡ corner_under (vertex_as n v) o i
  pub size : (m : ℕ) → VertexSize m v → VertexSize (m + 1) r

-- r is the lowest vertex over a corner, in every dimension
pub record LowIs (corner : Vertex) (o : List ℕ) (i : ℕ) (r : Vertex) : Type 0 where
  pub is : (n : ℕ) → vertex_as n r ≡ low_over (vertex_as n corner) o i
  pub size : (m : ℕ) → VertexSize m corner → VertexSize (m + 1) r

-- r is the place p, and its lowest vertex is that of the facet without vertex `out` of the simplex with a corner and a row's order
pub record PlaceIs (n : ℕ) (corner : Vertex) (row out : ℕ) (p : Place) (r : HeldPlace) : Type 0 where
  pub is : place_as n r ≡ p
  pub low : LowIs corner (order_at n row) out r.low
