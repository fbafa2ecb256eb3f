-- Inside a loop: document 02, request 2.14, in dimension 2. A loop is given by the list of its facets; nothing is assumed of it.
use Rattle.std.specs.Prelude.{ℕ, zero, suc, Bool, true, false, not, ◌||◌, List, [], ◌∷◌, map, ℤ, length}
use Rattle.exact.specs.Int.{◌⊖◌, 1ℤ}
use Rattle.curves.specs.Grid.{Vertex, Facet, same_facet}
use Rattle.curves.specs.Box.{keep, between}

-- the edge along axis 1 from (x, y) to (x + 1, y): the facet with mask 1
unfoldable pub edge_from : ℤ → ℤ → Facet
edge_from y x = record { low = x ∷ y ∷ []; masks = 1 ∷ [] }

-- the edges passed, going from a vertex along axis 1 to the high end of the box: from x to the high end less 1
unfoldable pub edges_passed : ℤ → Vertex → List Facet
edges_passed high [] = []
edges_passed high (x ∷ []) = []
edges_passed high (x ∷ y ∷ v) = map (edge_from y) (between x (high ⊖ 1ℤ))

-- the facet stands in a list
unfoldable pub among : List Facet → Facet → Bool
among [] f = false
among (g ∷ l) f = same_facet g f || among l f

unfoldable pub odd : ℕ → Bool
odd zero = false
odd (suc k) = not (odd k)

-- a lattice vertex is inside a loop if an odd number of the edges passed are facets of that loop
unfoldable pub inside : ℤ → List Facet → Vertex → Bool
inside high loop v = odd (length (keep (among loop) (edges_passed high v)))
