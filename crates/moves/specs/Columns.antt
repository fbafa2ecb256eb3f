-- Columns moved in the cells, so that those of a facet stand where the next simplex has its vertices.
use Rattle.std.specs.Prelude.{ℕ, ◌≡◌, cond, List, ℤ, eqb}
use Rattle.determinants.specs.Cells.{Cells, facet_columns}

-- the vertex that is new in the simplex beyond the facet without vertex e: the last for the first, the first for the last, else the same
unfoldable pub new_index : ℕ → ℕ → ℕ
new_index n e = cond (eqb e 0) n (cond (eqb e n) 0 e)

-- the columns after the move, but for that of vertex `out`, are in their order the columns before it, but for that of vertex e
pub record ColumnsMoved (n e out : ℕ) (before after : List ℤ) : Type 0 where
  pub within : Cells n after
  pub columns : facet_columns n after out ≡ facet_columns n before e
