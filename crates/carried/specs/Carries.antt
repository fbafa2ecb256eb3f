-- What the code carries along a trace, and what a step by it says.
use Rattle.std.specs.Prelude.{ℕ, ◌≡◌, List, ℤ, Result, Ok, Err}
use Rattle.exact.specs.Sign.{sign}
use Rattle.exact.specs.Det.{determinant}
use Rattle.exact.specs.Compared.{sign_of, plus_across}
use Rattle.curves.specs.Grid.{Place, Incidence, place_at, turn}
use Rattle.curves.specs.Grid as Grid
use Rattle.curves.specs.Walk.{stop}
use Rattle.curves.specs.Carried.{Carried, new_vertex}
use Rattle.paper.specs.Values.{field_of}
use Rattle.paper.specs.Operations.{step_in}
use Rattle.paper.specs.Answers.{stop_as}
use Rattle.places.specs.Held.{vertex_as, place_as}
use Rattle.paper.specs.declared.Vertex.{Vertex}
use Rattle.paper.specs.declared.HeldPlace.{HeldPlace}
use Rattle.paper.specs.declared.Stop.{Stop}
use Rattle.determinants.specs.Cells.{Cells, simplex_columns, facet_columns}
use Rattle.table.specs.Table.{order_at, NeighbourRow}
use Rattle.sides.specs.Corners.{PlaceIs}
use Rattle.simplices.specs.Search.{Found}
use Rattle.moves.specs.Columns.{new_index, ColumnsMoved}
use Rattle.step.specs.Held.{Held}
use Rattle.step.specs.Ahead.{Leads}
use Rattle.carried.specs.declared.Entered.{Entered}

-- what is carried at a place that Step does not refuse: the row and the vertex left out are those of the simplex on its side, and the cells
-- hold, for each vertex of the facet, the values of the job there: the sum of each polynomial, and then the bias
pub record Carries (s : List ℕ) (n : ℕ) (here : Entered) (cells : List ℤ) : Type 0 where
  pub held : Held s n here.place
  pub found : Found n (place_as n here.place) here.row here.out
  pub within : Cells n cells
  pub carried : Carried n (field_of s) (place_as n here.place) here.out (simplex_columns n cells) here.plus

-- the simplex with a corner and a row's order, of which a facet leaves out a vertex
unfoldable pub simplex_at : ℕ → Vertex → ℕ → ℕ → Incidence
simplex_at n corner row out = record { corner = vertex_as n corner; order = order_at n row; out = out }

unfoldable pub new_vertex_at : ℕ → Vertex → ℕ → ℕ → Grid.Vertex
new_vertex_at n corner row out = new_vertex (simplex_at n corner row out)

-- the simplex on a place's side is found, the facet's columns stand where it has its vertices, and the sign of their determinant is known
pub record Enters (n : ℕ) (p : HeldPlace) (before after : List ℤ) (r : Entered) : Type 0 where
  pub place : r.place ≡ p
  pub found : Found n (place_as n p) r.row r.out
  pub moved : ColumnsMoved n n r.out before after
  pub signed : sign (determinant n (facet_columns n before n)) ≡ sign_of r.plus

-- the place on the other side of the facet without vertex e of the simplex that was entered
pub record Beyond (n : ℕ) (corner : Vertex) (here : Entered) (e : ℕ) (r : Entered) : Type 0 where
  pub is_place : PlaceIs n corner here.row e (turn (place_at (vertex_as n corner) (order_at n here.row) e)) r.place
  pub is_row : NeighbourRow n here.row e r.row
  pub is_out : r.out ≡ new_index n e
  pub is_plus : r.plus ≡ plus_across here.plus here.out e

-- the step is the answer: edge, limit, or the next place, with what is carried there
abbrev pub AheadIs : List ℕ → ℕ → Place → Result Entered Stop → List ℤ → Type 0
AheadIs s n x (Err w) cells = step_in s x ≡ stop (stop_as w)
AheadIs s n x (Ok q) cells = Leads s n x q.place × Carries s n q cells
