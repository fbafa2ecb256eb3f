-- What the search of the table finds: the row and the vertex left out of the simplex on a place's side.
use Rattle.std.specs.Prelude.{ℕ, ◌≤◌, ◌≡◌, Bool, true, false, ◌&&◌, Option, Some, None, eqb}
use Rattle.curves.specs.Grid.{Place, same_masks, incidence}
use Rattle.table.specs.Table.{order_at, InTable}
use Rattle.sides.specs.Facets.{masks_at, side_at}
use Rattle.sides.specs.Corners.{corner_under}

-- the facet without vertex `out` has the place's masks and side
unfoldable pub matches : ℕ → ℕ → ℕ → Place → Bool
matches n row out p = same_masks (masks_at n row out) p.facet.masks && eqb (side_at n row out) p.side

-- r is a vertex whose facet matches, or none if there is none in the row
pub record FoundOut (n row : ℕ) (p : Place) (r : Option ℕ) : Type 0 where
  pub found : (out : ℕ) → r ≡ Some out → (out ≤ n) × (matches n row out p ≡ true)
  pub none : r ≡ None → (k : ℕ) → k ≤ n → matches n row k p ≡ false

-- the simplex on the place's side has the row's order, and the facet leaves out vertex `out`
pub record Found (n : ℕ) (p : Place) (row out : ℕ) : Type 0 where
  pub table : InTable n row
  pub vertex : out ≤ n
  pub is : incidence n p ≡ record { corner = corner_under p.facet.low (order_at n row) out; order = order_at n row; out = out }
