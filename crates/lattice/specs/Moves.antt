-- Moved vertices: 1 added or taken off on each axis of a mask. A coordinate grows by at most 1, and what is moved is far inside 64 bits.
use Rattle.std.specs.Prelude.{ℕ, ◌+◌, ◌%◌, ◌/◌, ◌^◌, ◌≡◌, ℤ, pos, [], ◌∷◌}
use Rattle.exact.specs.Int.{◌⊕◌, ◌⊗◌}
use Rattle.curves.specs.Grid.{plus}
use Rattle.curves.specs.Grid as Grid
use Rattle.paper.specs.declared.Vertex.{Vertex}
use Rattle.places.specs.Held.{vertex_as, VertexSize}

-- the size of a coordinate up to which a vertex is moved
unfoldable pub move_limit : ℕ
move_limit = 2 ^ 21

-- a step added on each axis of a mask
unfoldable pub moved_by : ℤ → Grid.Vertex → ℕ → Grid.Vertex
moved_by s [] m = []
moved_by s (x ∷ v) m = (x ⊕ (s ⊗ pos (m % 2))) ∷ moved_by s v (m / 2)

-- r is v with 1 added on each axis of a mask, in every dimension
pub record Shifted (v : Vertex) (mask : ℕ) (r : Vertex) : Type 0 where
  pub is : (n : ℕ) → vertex_as n r ≡ plus (vertex_as n v) mask
  pub size : (m : ℕ) → VertexSize m v → VertexSize (m + 1) r

-- r is v with 1 taken off on each axis of a mask, in every dimension: with 1 added there it is v
pub record Lowered (v : Vertex) (mask : ℕ) (r : Vertex) : Type 0 where
  pub is : (n : ℕ) → vertex_as n v ≡ plus (vertex_as n r) mask
  pub size : (m : ℕ) → VertexSize m v → VertexSize (m + 1) r
