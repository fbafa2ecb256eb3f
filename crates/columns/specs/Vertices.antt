-- The vertices of a facet or a simplex as the code names them: a base, and a mask for each vertex, 0 for the base.
use Rattle.std.specs.Prelude.{ℕ, List, ◌∷◌, map, take}
use Rattle.curves.specs.Grid.{plus}
use Rattle.curves.specs.Grid as Grid
use Rattle.paper.specs.declared.Vertex.{Vertex}
use Rattle.places.specs.Held.{vertex_as}

unfoldable pub vertex_list : ℕ → Vertex → List ℕ → List Grid.Vertex
vertex_list n base masks = map (plus (vertex_as n base)) masks

-- the vertices of the simplex with a corner and the masks of the vertices behind it
unfoldable pub simplex_vertices : ℕ → Vertex → List ℕ → List Grid.Vertex
simplex_vertices n corner masks = vertex_list n corner (0 ∷ take n masks)
