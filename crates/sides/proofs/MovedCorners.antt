-- A corner and a facet's lowest vertex as vertices moved by a mask, and the coordinates that do not count, which neither changes.
use Prim.Native.Nat.{ℕ, suc, zero, ◌+◌, ◌-◌, ◌<◌}
use mathlib.Core.Path.{◌≡◌, refl, sym, ap, ◌∙◌, subst}
use mathlib.Core.Bool.{Bool, true, false}
use mathlib.Core.List.{List, [], ◌∷◌}
use native.Mathlib.Omega.{arith}
use native.Mathlib.Nat.{not-suc-le-zero}
use lib.ListN.{length, get_or, drop}
use Rattle.std.proofs.lemmas.List.{take_all}
use lib.Seq.{get_or-take, get_or-drop}
use lib.Dec.{ltb}
use borrow.Author.Tests.{ltb-true, ltb-false}
use Rattle.exact.specs.Int.{0ℤ}
use Rattle.exact.specs.Minors.{skip}
use Rattle.exact.specs.Size.{Size}
use Rattle.curves.specs.Grid.{up, plus, vertices, absent, distinct, masks_from}
use Rattle.curves.specs.Grid as Grid
use Rattle.curves.proofs.Vertices.{plus_zero, vertices_masks}
use Rattle.paper.specs.declared.Vertex.{Vertex}
use Rattle.places.specs.Held.{vertex_as, VertexSize}
use Rattle.lattice.specs.Moves.{Shifted, Lowered}
use Rattle.lattice.proofs.Moves.{vertex_wider}
use Rattle.table.specs.Table.{order_at, axis_at, vertex_mask, InTable}
use Rattle.sides.specs.Corners.{corner_under, low_over, CornerIs, LowIs}
use Rattle.table.proofs.TableRows.{axis_under_lem}
use Rattle.sides.proofs.Anywhere.{low_corner, corner_low}

-- ---- sizes

-- with four coordinates, all of them count in dimension 4
whole : {m : ℕ} {v : Vertex} → VertexSize m v → vertex_as 4 v ≡ v.coordinates
unfolding vertex_as
whole {m} {v} s = take_all 4 v.coordinates (omega (arith, s.count))

-- ---- corner and lowest vertex

-- the facet's lowest vertex is the first of the simplex that is not left out
low_plus : (c : Grid.Vertex) (o : List ℕ) (i : ℕ) → plus c (vertex_mask o (skip i 0)) ≡ low_over c o i
unfolding low_over vertex_mask masks_from skip vertices distinct absent
low_plus c [] zero = plus_zero c
low_plus c [] (suc i) = plus_zero c
low_plus c (a ∷ o) zero = ap (λ l. get_or l 1 []) (sym (vertices_masks c (a ∷ []) refl))
low_plus c (a ∷ o) (suc i) = plus_zero c

corner_other : (v : Grid.Vertex) (o : List ℕ) (i : ℕ) → (i ≡ 0 → ⊥) → corner_under v o i ≡ v
unfolding corner_under
corner_other v [] i k = refl
corner_other v (a ∷ o) zero k = absurd (k refl)
corner_other v (a ∷ o) (suc i) k = refl

module _ (v : Vertex) (o : List ℕ) (i : ℕ) where
  pub low_shifted : {m : ℕ} {r : Vertex} → m ≡ vertex_mask o (skip i 0) → Shifted v m r → LowIs v o i r
  low_shifted e h =
      record { is = λ n. h.is n ∙ ap (plus (vertex_as n v)) e ∙ low_plus (vertex_as n v) o i; size = h.size }

  -- without vertex 0 the corner is one below the facet's lowest vertex, vertex 1
  pub corner_lowered : {m : ℕ} {r : Vertex} → i ≡ 0 → m ≡ vertex_mask o 1 → Lowered v m r → CornerIs v o i r
  unfolding skip
  corner_lowered {m} {r} z e h =
      let mask : m ≡ vertex_mask o (skip i 0) = e ∙ ap (λ k. vertex_mask o (skip k 0)) (sym z) in
      record {
        is =
            λ n.
            sym (corner_low (vertex_as n r) o i)
            ∙ ap (λ u. corner_under u o i) (sym (h.is n ∙ ap (plus (vertex_as n r)) mask ∙ low_plus (vertex_as n r) o i));
        size = h.size;
      }

  pub corner_same : (i ≡ 0 → ⊥) → CornerIs v o i v
  corner_same k = record { is = λ n. sym (corner_other (vertex_as n v) o i k); size = λ m s. vertex_wider s (omega arith) }

-- ---- the coordinates that do not count

drop_up : (n a : ℕ) (v : Grid.Vertex) → a < n → drop n (up a v) ≡ drop n v
unfolding up
drop_up zero a v l = absurd (not-suc-le-zero l)
drop_up (suc n) a [] l = refl
drop_up (suc n) zero (x ∷ v) l = refl
drop_up (suc n) (suc a) (x ∷ v) l = drop_up n a v (omega arith)

drop_low : (n : ℕ) (v : Grid.Vertex) (o : List ℕ) (i : ℕ) → get_or o 0 0 < n → drop n (low_over v o i) ≡ drop n v
unfolding low_over
drop_low n v [] i l = refl
drop_low n v (a ∷ o) zero l = drop_up n a v l
drop_low n v (a ∷ o) (suc i) l = refl

drop_corner : (n : ℕ) (v : Grid.Vertex) (o : List ℕ) (i : ℕ) → get_or o 0 0 < n → drop n (corner_under v o i) ≡ drop n v
drop_corner n v o i l = sym (drop_low n (corner_under v o i) o i l) ∙ ap (drop n) (low_corner v o i)

module _ (n row : ℕ) (h : InTable n row) (v : Vertex) (i : ℕ) (r : Vertex) where
  first_under : get_or (order_at n row) 0 0 < n
  unfolding axis_at
  first_under = axis_under_lem n row 0 h (omega (arith, h.axes.low))

  pub corner_rest : CornerIs v (order_at n row) i r → drop n (vertex_as 4 r) ≡ drop n (vertex_as 4 v)
  corner_rest c = ap (drop n) (c.is 4) ∙ drop_corner n (vertex_as 4 v) (order_at n row) i first_under

  pub low_rest : LowIs v (order_at n row) i r → drop n (vertex_as 4 r) ≡ drop n (vertex_as 4 v)
  low_rest c = ap (drop n) (c.is 4) ∙ drop_low n (vertex_as 4 v) (order_at n row) i first_under

pub first_coordinates : (n : ℕ) (r : Vertex) (k : ℕ) → k < n → get_or (vertex_as n r) k 0ℤ ≡ get_or r.coordinates k 0ℤ
unfolding vertex_as
first_coordinates n r k l = get_or-take n r.coordinates k 0ℤ l

-- a vertex of four coordinates is at most m in size if its first n coordinates are and the others are those of such a vertex
pub size_parts :
    (n m : ℕ) (v r : Vertex) → length r.coordinates ≡ 4 → drop n (vertex_as 4 r) ≡ drop n (vertex_as 4 v) → VertexSize m v
    → ((k : ℕ) → k < n → Size m (get_or (vertex_as n r) k 0ℤ)) → VertexSize m r
unfolding vertex_as
size_parts n m v r c e s h = record { count = c; each = λ k. go k (ltb k n) refl }
  where
    same : drop n v.coordinates ≡ drop n r.coordinates
    same =
        ap (drop n) (sym (whole s)) ∙ sym e ∙ ap (drop n) (take_all 4 r.coordinates (omega (arith, c)))

    go : (k : ℕ) (t : Bool) → ltb k n ≡ t → Size m (get_or r.coordinates k 0ℤ)
    go k true q = subst (Size m) (first_coordinates n r k (ltb-true k n q)) (h k (ltb-true k n q))
    go k false q =
        let behind : n + (k - n) ≡ k = omega (arith, ltb-false k n q) in
        rw behind at
        (subst (Size m)
        (sym (get_or-drop n v.coordinates (k - n) 0ℤ) ∙ ap (λ l. get_or l (k - n) 0ℤ) same ∙ get_or-drop n r.coordinates (k - n) 0ℤ)
        (s.each (n + (k - n))))
