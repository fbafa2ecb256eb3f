-- Joined facets, curves and closing: document 01, section "Crossed", in its words, over the dimension and any field. Nothing
-- here speaks of the step.
use Rattle.std.specs.Prelude.{ℕ, ◌≤◌, ◌<◌, ◌≡◌, true, List, length}
use Rattle.curves.specs.Grid.{Vertex, Facet, Place, is_order, vertices, place_at, incidence}
use Rattle.curves.specs.Step.{Field, readable_all, crossed_facet, traceable}
use Rattle.curves.specs.Curve as Curve

-- a simplex: a corner and an order of the n axes
pub record IsSimplex (n : ℕ) (corner : Vertex) (order : List ℕ) : Type 0 where
  pub corner_length : length corner ≡ n
  pub order_ok : is_order n order ≡ true

-- the facet is the simplex without its vertex i
pub record IsFacetOf (n : ℕ) (corner : Vertex) (order : List ℕ) (f : Facet) : Type 0 where
  pub out : ℕ
  pub out_ok : out ≤ n
  pub same : f ≡ (place_at corner order out).facet

-- two crossed facets share a readable simplex
pub record Shares (n : ℕ) (φ : Field) (f g : Facet) : Type 0 where
  pub corner : Vertex
  pub order : List ℕ
  pub simplex : IsSimplex n corner order
  pub readable : readable_all φ (vertices corner order) ≡ true
  pub first : IsFacetOf n corner order f
  pub second : IsFacetOf n corner order g
  pub first_crossed : crossed_facet n φ f ≡ true
  pub second_crossed : crossed_facet n φ g ≡ true

-- a chain of crossed facets leads from one to the other, each sharing a readable simplex with the next; the facets joined to f
-- are what document 01 calls its *curve*
abbrev pub Joined : ℕ → Field → Facet → Facet → Type 0
Joined n φ f g = Curve.Joined (Shares n φ) f g

-- the curve of f, all the facets joined to it, has k facets
abbrev pub HasFacets : ℕ → Field → Facet → ℕ → Type 0
HasFacets n φ f k = Curve.HasFacets (Shares n φ) f k

-- the simplex on the place's side is readable
abbrev pub SideReadable : ℕ → Field → Place → Type 0
SideReadable n φ p = readable_all φ (vertices (incidence n p).corner (incidence n p).order) ≡ true

-- the curve of f closes: for each facet joined to f and each of its two sides, the simplex on that side is readable
abbrev pub Closes : ℕ → Field → Facet → Type 0
Closes n φ f = (g : Facet) → Joined n φ f g → (side : ℕ) → side < 2 → SideReadable n φ record { facet = g; side = side }

-- Nothing above speaks of this: the place is well-formed, its facet in the box, readable and crossed
abbrev pub Traceable : ℕ → Field → Place → Type 0
Traceable n φ p = traceable n φ p ≡ true
