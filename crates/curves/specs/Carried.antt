-- What a trace carries from step to step: the values at the vertices of the facet where it stands. A step into the simplex on the place's
-- side brings in one new vertex; all the others are the facet's, and their values are known.
use Rattle.std.specs.Prelude.{ℕ, suc, ◌≡◌, Bool, List, [], length, get_or}
use Rattle.exact.specs.Sign.{sign}
use Rattle.exact.specs.Det.{Column, determinant}
use Rattle.exact.specs.Crossed.{remove}
use Rattle.exact.specs.Compared.{sign_of}
use Rattle.curves.specs.Grid.{Vertex, Place, Incidence, facet_vertices, vertices, pivot}
use Rattle.curves.specs.Step.{Field, columns}

-- us are the columns carried at a place, one for each vertex of the simplex on its side. That of vertex `out`, which the facet leaves out, may
-- be anything (which vertex that is, the simplex says: `incidence`); the others are, vertex by vertex, the columns of the facet: 1 and the values there. `plus`: their determinant is above 0.
pub record Carried (n : ℕ) (φ : Field) (p : Place) (out : ℕ) (us : List Column) (plus : Bool) : Type 0 where
  pub size : length us ≡ suc n
  pub known : remove out us ≡ columns φ (facet_vertices p.facet)
  pub signed : sign (determinant n (columns φ (facet_vertices p.facet))) ≡ sign_of plus

-- the new vertex: the one that the facet leaves out
unfoldable pub new_vertex : Incidence → Vertex
new_vertex t = get_or (vertices t.corner t.order) t.out []

-- the simplex on the other side of the facet without vertex e
unfoldable pub beyond : Incidence → ℕ → Incidence
beyond t e = pivot record { corner = t.corner; order = t.order; out = e }
