-- A vertex and a place as the code holds them, with room for four axes: what they stand for in dimension n, and how large their numbers are.
use Rattle.std.specs.Prelude.{ℕ, ◌-◌, ◌≡◌, cond, List, ltb, take, length, get_or}
use Rattle.exact.specs.Int.{0ℤ}
use Rattle.exact.specs.Size.{Size}
use Rattle.curves.specs.Grid.{Facet, Place}
use Rattle.curves.specs.Grid as Grid
use Rattle.paper.specs.declared.Vertex.{Vertex}
use Rattle.paper.specs.declared.HeldPlace.{HeldPlace}

-- number i if it is among the first n, which count, else d
unfoldable pub counted : {A : Type 0} → A → ℕ → ℕ → A → A
counted d n i x = cond (ltb i n) x d

-- the first n coordinates
unfoldable pub vertex_as : ℕ → Vertex → Grid.Vertex
vertex_as n v = take n v.coordinates

-- the first n − 1 masks
unfoldable pub masks_as : ℕ → HeldPlace → List ℕ
masks_as n p = take (n - 1) p.masks

unfoldable pub facet_as : ℕ → HeldPlace → Facet
facet_as n p = record { low = vertex_as n p.low; masks = masks_as n p }

unfoldable pub place_as : ℕ → HeldPlace → Place
place_as n p = record { facet = facet_as n p; side = p.side }

-- the coordinates, those that do not count too, are at most m in size
pub record VertexSize (m : ℕ) (v : Vertex) : Type 0 where
  pub count : length v.coordinates ≡ 4
  pub each : (a : ℕ) → Size m (get_or v.coordinates a 0ℤ)
