-- The chains of masks as the code holds them: the chains of two, of three and of four axes one after another, each as three hexadecimal digits.
use Rattle.std.specs.Prelude.{ℕ, ◌+◌, ◌-◌, ◌/◌, ◌%◌, ◌≡◌, cond, List, [], ◌∷◌, get_or, take, eqb}
use Rattle.curves.specs.Grid.{Facet}
use Rattle.curves.specs.Grid as Grid
use Rattle.paper.specs.declared.Vertex.{Vertex}
use Rattle.paper.specs.declared.HeldPlace.{HeldPlace}
use Rattle.places.specs.Held.{vertex_as, facet_as}

unfoldable pub chain_array : List ℕ
chain_array =
    0x100 ∷ 0x200 ∷ 0x300
    ∷ 0x130 ∷ 0x150 ∷ 0x170 ∷ 0x230 ∷ 0x260 ∷ 0x270
    ∷ 0x370 ∷ 0x450 ∷ 0x460 ∷ 0x470 ∷ 0x570 ∷ 0x670
    ∷ 0x137 ∷ 0x13B ∷ 0x13F ∷ 0x157 ∷ 0x15D ∷ 0x15F ∷ 0x17F ∷ 0x19B ∷ 0x19D ∷ 0x19F
    ∷ 0x1BF ∷ 0x1DF ∷ 0x237 ∷ 0x23B ∷ 0x23F ∷ 0x267 ∷ 0x26E ∷ 0x26F ∷ 0x27F ∷ 0x2AB
    ∷ 0x2AE ∷ 0x2AF ∷ 0x2BF ∷ 0x2EF ∷ 0x37F ∷ 0x3BF ∷ 0x457 ∷ 0x45D ∷ 0x45F ∷ 0x467
    ∷ 0x46E ∷ 0x46F ∷ 0x47F ∷ 0x4CD ∷ 0x4CE ∷ 0x4CF ∷ 0x4DF ∷ 0x4EF ∷ 0x57F ∷ 0x5DF
    ∷ 0x67F ∷ 0x6EF ∷ 0x89B ∷ 0x89D ∷ 0x89F ∷ 0x8AB ∷ 0x8AE ∷ 0x8AF ∷ 0x8BF ∷ 0x8CD
    ∷ 0x8CE ∷ 0x8CF ∷ 0x8DF ∷ 0x8EF ∷ 0x9BF ∷ 0x9DF ∷ 0xABF ∷ 0xAEF ∷ 0xCDF ∷ 0xCEF ∷ []

-- where those of n axes begin
unfoldable pub first_chain : ℕ → ℕ
first_chain n = cond (eqb n 2) 0 (cond (eqb n 3) 3 15)

-- chain j of n axes, as its digits
unfoldable pub chain_word : ℕ → ℕ → ℕ
chain_word n j = get_or chain_array (first_chain n + j) 0

-- the three digits of an entry
unfoldable pub digits : ℕ → List ℕ
digits w = w / 256 ∷ w / 16 % 16 ∷ w % 16 ∷ []

-- the first n − 1 digits
unfoldable pub chain_of : ℕ → ℕ → List ℕ
chain_of n w = take (n - 1) (digits w)

-- the facet with a lowest vertex and a chain
unfoldable pub facet_on : Grid.Vertex → List ℕ → Facet
facet_on v ms = record { low = v; masks = ms }

-- the place that the code makes of a vertex and a chain's digits
pub record PlaceOn (v : Vertex) (w : ℕ) (p : HeldPlace) : Type 0 where
  pub facet : (n : ℕ) → facet_as n p ≡ facet_on (vertex_as n v) (chain_of n w)
  pub low : p.low ≡ v
  pub masks : p.masks ≡ digits w
  pub side : p.side ≡ 0
