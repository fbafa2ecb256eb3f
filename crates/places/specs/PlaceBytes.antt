-- A place read from its 3n bytes, and one that its bytes can name.
use Rattle.std.specs.Prelude.{ℕ, ◌-◌, ◌≤◌, ◌<◌, ◌≡◌, true, List, length, get_or, take}
use Rattle.exact.specs.Int.{0ℤ}
use Rattle.curves.specs.Grid.{place_ok}
use Rattle.paper.specs.Job.{decode_place}
use Rattle.paper.proofs.ShortPlaces.{short_place}
use Rattle.bits.specs.Axes.{Axes}
use Rattle.places.specs.Held.{vertex_as, place_as, VertexSize}
use Rattle.paper.specs.declared.Vertex.{Vertex}
use Rattle.paper.specs.declared.HeldPlace.{HeldPlace}

-- ---- reading

-- the vertex of a place in 3n bytes; a coordinate that does not count is 0
pub record VertexRead (n : ℕ) (b : List ℕ) (r : Vertex) : Type 0 where
  pub is : vertex_as n r ≡ (decode_place n b).facet.low
  pub size : VertexSize 32768 r
  pub rest : (a : ℕ) → n ≤ a → get_or r.coordinates a 0ℤ ≡ 0ℤ

-- its masks; one that does not count is 0
pub record MasksRead (n : ℕ) (b : List ℕ) (r : List ℕ) : Type 0 where
  pub is : take (n - 1) r ≡ (decode_place n b).facet.masks
  pub count : length r ≡ 3
  pub each : (k : ℕ) → get_or r k 0 < 256
  pub rest : (k : ℕ) → n - 1 ≤ k → get_or r k 0 ≡ 0

-- the place in 3n bytes
pub record PlaceRead (n : ℕ) (b : List ℕ) (r : HeldPlace) : Type 0 where
  pub is : place_as n r ≡ decode_place n b
  pub size : VertexSize 32768 r.low
  pub mask_count : length r.masks ≡ 3
  pub masks : (k : ℕ) → get_or r.masks k 0 < 256
  pub side : r.side < 256

-- ---- writing

-- a well-formed place whose coordinates fit signed 16 bits
pub record FitsBytes (n : ℕ) (p : HeldPlace) : Type 0 where
  pub axes : Axes n
  pub form : place_ok n (place_as n p) ≡ true
  pub short : short_place (place_as n p) ≡ true
