-- The corner with the masks of a row's vertices added is the list of the simplex's vertices (`row_vertices`).
use Prim.Native.Nat.{ℕ}
use mathlib.Core.Path.{◌≡◌, refl, sym, ap₂, ◌∙◌}
use mathlib.Core.Bool.{Bool}
use mathlib.Core.List.{List, [], ◌∷◌, map}
use native.Mathlib.Omega.{arith}
use lib.ListN.{take}
use Rattle.curves.specs.Grid.{Vertex, plus, vertices, orders, masks_from, same_masks}
use Rattle.curves.proofs.OrderTests.{order_distinct}
use Rattle.curves.proofs.SameFacet.{same_masks_sound}
use Rattle.curves.proofs.Vertices.{plus_zero, vertices_masks}
use Rattle.paper.specs.Job.{all_from}
use Rattle.table.specs.Table.{order_at, vertex_mask, InTable}
use Rattle.table.proofs.Tested.{passes}
use Rattle.table.proofs.TableRows.{row_order_lem}

-- the masks of the vertices behind the corner, of which the first n count
abbrev pub vertex_masks : ℕ → ℕ → List ℕ
vertex_masks n row =
    vertex_mask (order_at n row) 1 ∷ vertex_mask (order_at n row) 2 ∷ vertex_mask (order_at n row) 3 ∷ vertex_mask (order_at n row) 4 ∷ []

right_masks : ℕ → ℕ → ℕ → Bool
right_masks n row k = same_masks (take n (vertex_masks n row)) (masks_from 0 (order_at n row))

row_masks : (n row : ℕ) → InTable n row → take n (vertex_masks n row) ≡ masks_from 0 (order_at n row)
unfolding right_masks vertex_mask masks_from order_at orders same_masks all_from
row_masks n row h =
    same_masks_sound (take n (vertex_masks n row)) (masks_from 0 (order_at n row)) (passes right_masks refl refl refl n row 0 h (omega arith))

pub row_vertices : (n row : ℕ) → InTable n row → (c : Vertex) → map (plus c) (0 ∷ take n (vertex_masks n row)) ≡ vertices c (order_at n row)
row_vertices n row h c =
    ap₂ (λ v ms. v ∷ map (plus c) ms) (plus_zero c) (row_masks n row h)
    ∙ sym (vertices_masks c (order_at n row) (order_distinct n (order_at n row) (row_order_lem n row h)))
