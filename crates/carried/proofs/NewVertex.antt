-- The new vertex is the corner with its mask added.
use Prim.Native.Nat.{ℕ, suc, zero, ◌≤◌, ◌<◌}
use native.Mathlib.Omega.{arith}
use mathlib.Core.Path.{◌≡◌, refl, sym, ap, ◌∙◌}
use mathlib.Core.List.{List, [], ◌∷◌, map}
use lib.ListN.{length, get_or}
use Rattle.curves.specs.Grid.{plus, masks_from}
use Rattle.curves.specs.Grid as Grid
use Rattle.curves.specs.Carried.{new_vertex}
use Rattle.curves.proofs.OrderTests.{order_distinct}
use Rattle.curves.proofs.Vertices.{plus_zero, vertices_masks}
use Rattle.curves.proofs.IncidenceOk.{length_masks}
use Rattle.paper.specs.declared.Vertex.{Vertex}
use Rattle.places.specs.Held.{vertex_as}
use Rattle.lattice.specs.Moves.{Shifted}
use Rattle.table.specs.Table.{InTable, order_at, vertex_mask}
use Rattle.table.proofs.TableRows.{row_order_lem, row_length}
use Rattle.carried.specs.Carries.{simplex_at, new_vertex_at}

-- the member of a mapped list
mapped : (c : Grid.Vertex) (ms : List ℕ) (i : ℕ) → i < length ms → get_or (map (plus c) ms) i [] ≡ plus c (get_or ms i 0)
mapped c [] i l = absurd (omega arith)
mapped c (m ∷ ms) zero l = refl
mapped c (m ∷ ms) (suc i) l = mapped c ms i (omega arith)

-- a vertex, the corner too, is the corner with its mask added
vertex_of : (c : Grid.Vertex) (ms : List ℕ) (i : ℕ) → i ≤ length ms → get_or (c ∷ map (plus c) ms) i [] ≡ plus c (get_or (0 ∷ ms) i 0)
vertex_of c ms zero l = sym (plus_zero c)
vertex_of c ms (suc i) l = mapped c ms i l

pub new_vertex_is :
    (n row out : ℕ) {corner v : Vertex} {m : ℕ} → InTable n row → out ≤ n → m ≡ vertex_mask (order_at n row) out → Shifted corner m v
    → vertex_as n v ≡ new_vertex_at n corner row out
unfolding new_vertex_at simplex_at new_vertex vertex_mask
new_vertex_is n row out {corner} t l e h =
    let o = order_at n row in
    h.is n ∙ ap (plus (vertex_as n corner)) e
    ∙ sym
    (ap (λ vs. get_or vs out []) (vertices_masks (vertex_as n corner) o (order_distinct n o (row_order_lem n row t)))
    ∙ vertex_of (vertex_as n corner) (masks_from 0 o) out (omega (arith, length_masks 0 o, row_length n row t)))
