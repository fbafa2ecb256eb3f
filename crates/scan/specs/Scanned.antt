-- A part of the scan, as the code answers it: the seams that it meets are written behind those that were met before, or there is no space for one of them.
use Rattle.std.specs.Prelude.{ℕ, ◌+◌, ◌*◌, ◌/◌, ◌≤◌, ◌≡◌, Bool, true, List, ◌∷◌, ◌++◌, map, ℤ, length, Option, Some, None}
use Rattle.std.proofs.lemmas.List.Edits.{sets}
use Rattle.curves.specs.Grid.{Facet, facet_ok}
use Rattle.paper.specs.Operations.{encode_places}
use Rattle.places.specs.Held.{vertex_as, facet_as, VertexSize}
use Rattle.paper.specs.declared.HeldPlace.{HeldPlace}
use Rattle.paper.specs.declared.Vertex.{Vertex}
use Rattle.job.specs.OpenJob.{JobOf}
use Rattle.step.specs.Held.{held_limit}
use Rattle.determinants.specs.Cells.{Cells}
use Rattle.cube.specs.Cube.{Within, Cube, MasksUnder}
use Rattle.seamlist.specs.Seams.{front}

-- the places for which a buffer has space
unfoldable pub space_for : ℕ → List ℕ → ℕ
space_for n buffer = length buffer / (3 * n)

-- the facets' places, with side 0, are written behind the first `count`, and then there are k
pub record Puts (n : ℕ) (before : List ℕ) (count : ℕ) (fs : List Facet) (after : List ℕ) (k : ℕ) : Type 0 where
  pub counted : k ≡ count + length fs
  pub bytes : length (encode_places (map front fs)) ≡ 3 * n * length fs
  pub stored : after ≡ sets before (count * (3 * n)) (encode_places (map front fs))

-- some are written, no space is left, and there is one more
pub record NoSpace (n : ℕ) (before : List ℕ) (count : ℕ) (fs : List Facet) (after : List ℕ) : Type 0 where
  pub listed : List Facet
  pub next : Facet
  pub rest : List Facet
  pub is : fs ≡ listed ++ (next ∷ rest)
  pub puts : Puts n before count listed after (space_for n before)

-- what a part of the scan answers, of the seams fs that it meets: the number of places written so far, or none where there is no space
abbrev pub ScannedIs : ℕ → List ℕ → ℕ → List Facet → List ℕ → Option ℕ → Type 0
ScannedIs n before count fs after (Some k) = Puts n before count fs after k × (k ≤ space_for n before)
ScannedIs n before count fs after None = NoSpace n before count fs after

-- a facet of the cube above its lowest vertex, with side 0
pub record OnCube (s : List ℕ) (n : ℕ) (p : HeldPlace) (values : List ℤ) (known : List Bool) : Type 0 where
  pub job : JobOf n s
  pub form : facet_ok n (facet_as n p) ≡ true
  pub masks : MasksUnder n p
  pub side : p.side ≡ 0
  pub size : VertexSize held_limit p.low
  pub one : List ℤ
  pub cube : Cube s n (vertex_as n p.low) values known one

-- the cube above a vertex
pub record CubeAt (s : List ℕ) (n : ℕ) (v : Vertex) (values : List ℤ) (known : List Bool) : Type 0 where
  pub job : JobOf n s
  pub size : VertexSize held_limit v
  pub one : List ℤ
  pub cube : Cube s n (vertex_as n v) values known one

-- room for the values of a cube
pub record CubeRoom (n : ℕ) (one values : List ℤ) (known : List Bool) : Type 0 where
  pub left : Cells n one
  pub within : Within n values
  pub room : length values ≡ 48
  pub tests : length known ≡ 16
