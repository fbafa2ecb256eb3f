-- The vertices of a simplex are its corner with masks added, and a facet's vertices are the simplex's without the one left out.
-- One up and one down undo each other; numbers of vertices and of coordinates too. Over every dimension: of an order only that no axis
-- stands twice is used.
use Prim.Native.Nat.{ℕ, suc, zero, ◌+◌, ◌/◌, ◌%◌, ◌^◌, ◌<◌}
use mathlib.Core.Path.{◌≡◌, refl, sym, ap, ◌∙◌}
use mathlib.Core.Bool.{true}
use mathlib.Core.List.Memᴰ
use mathlib.Core.List.{List, [], ◌∷◌, map, Memᴰ}
use mathlib.Core.Logic.{⊎_elim}
use native.Mathlib.Omega.{arith}
use lib.ListN.{length}
use borrow.Author.Tests.{eqb-true}
use Rattle.exact.proofs.AndTests.{and_left}
use Rattle.exact.specs.Crossed.{remove}
use Rattle.exact.proofs.Ring.{add-zero, add_neg, neg_add, add_assoc, sub_eq}
use Rattle.exact.proofs.Simplex.{remove_map}
use Rattle.curves.specs.Grid.{Vertex, Facet, up, down, plus, vertices, absent, distinct, is_order, masks_from, place_at, facet_vertices, facet_ok}
use Rattle.curves.proofs.MaskBits.{bit, bit_zero, half_add, parity_add, bit_add_other}
use Rattle.curves.proofs.OrderTests.{order_length, order_distinct, distinct_head, distinct_tail, absent_head, absent_tail}

-- ---- one up and one down
pub down_up : (a : ℕ) (v : Vertex) → down a (up a v) ≡ v
unfolding up down
down_up a [] = refl
down_up zero (x ∷ v) = rw (sub_eq, add_assoc, add_neg, add-zero)
down_up (suc a) (x ∷ v) = ap (λ w. x ∷ w) (down_up a v)

pub up_down : (a : ℕ) (v : Vertex) → up a (down a v) ≡ v
unfolding up down
up_down a [] = refl
up_down zero (x ∷ v) = rw (sub_eq, add_assoc, neg_add, add-zero)
up_down (suc a) (x ∷ v) = ap (λ w. x ∷ w) (up_down a v)

-- ---- masks added to a vertex
pub plus_zero : (c : Vertex) → plus c 0 ≡ c
unfolding plus
plus_zero [] = refl
plus_zero (x ∷ c) = rw (add-zero x, plus_zero c)

plus_bit : (a m : ℕ) (c : Vertex) → bit a m ≡ 0 → plus c (m + 2 ^ a) ≡ up a (plus c m)
unfolding plus up bit
plus_bit a m [] z = refl
plus_bit zero m (x ∷ c) z =
    let odd : (m + 1) % 2 ≡ 1 = omega arith in
    let half : (m + 1) / 2 ≡ m / 2 = omega arith in
    let even : m % 2 ≡ 0 = z in
    rw (odd, half, even, add-zero x)
plus_bit (suc a) m (x ∷ c) z = rw (parity_add, half_add, plus_bit a (m / 2) c z)

-- each axis of a list is free in a mask
abbrev Free : ℕ → List ℕ → Type 0
Free m [] = Unit
Free m (a ∷ o) = (bit a m ≡ 0) × Free m o

free_zero : (o : List ℕ) → Free 0 o
free_zero [] = tt
free_zero (a ∷ o) = (bit_zero a, free_zero o)

free_add : (a m : ℕ) (o : List ℕ) → bit a m ≡ 0 → absent a o ≡ true → Free m o → Free (m + 2 ^ a) o
free_add a m [] z e f = tt
free_add a m (b ∷ o) z e f =
    (bit_add_other b a m (λ q. absent_head a b o e (sym q)) z ∙ f.0, free_add a m o z (absent_tail a b o e) f.1)

-- ---- the vertices of a simplex
vertices_plus : (m : ℕ) (c : Vertex) (o : List ℕ) → distinct o ≡ true → Free m o → vertices (plus c m) o ≡ plus c m ∷ map (plus c) (masks_from m o)
unfolding vertices masks_from
vertices_plus m c [] d f = refl
vertices_plus m c (a ∷ o) d f =
    rw (← plus_bit a m c f.0, vertices_plus (m + 2 ^ a) c o (distinct_tail a o d) (free_add a m o f.0 (distinct_head a o d) f.1))

-- the vertices behind the corner are the corner with the masks of the order added
pub vertices_masks : (c : Vertex) (o : List ℕ) → distinct o ≡ true → vertices c o ≡ c ∷ map (plus c) (masks_from 0 o)
vertices_masks c o d = rw plus_zero at (vertices_plus 0 c o d (free_zero o))

facet_vertices_distinct : (c : Vertex) (o : List ℕ) (i : ℕ) → distinct o ≡ true → 0 < length o →
    facet_vertices (place_at c o i).facet ≡ remove i (vertices c o)
unfolding facet_vertices place_at remove vertices
facet_vertices_distinct c [] i d p = absurd (omega arith)
facet_vertices_distinct c (a ∷ o) zero d p = sym (vertices_masks (up a c) o (distinct_tail a o d))
facet_vertices_distinct c (a ∷ o) (suc i) d p =
    ap (λ l. c ∷ l) (sym (remove_map (plus c) i (masks_from 0 (a ∷ o)))) ∙ sym (ap (remove (suc i)) (vertices_masks c (a ∷ o) d))

-- the vertices of a simplex's facet are those of the simplex without the one left out
pub facet_vertices_lem : (n : ℕ) (c : Vertex) (o : List ℕ) (i : ℕ) → is_order n o ≡ true → 0 < n →
    facet_vertices (place_at c o i).facet ≡ remove i (vertices c o)
facet_vertices_lem n c o i e p = facet_vertices_distinct c o i (order_distinct n o e) (rw (order_length n o e) p)

-- ---- numbers of vertices and of coordinates
pub length_vertices : (c : Vertex) (o : List ℕ) → length (vertices c o) ≡ suc (length o)
unfolding vertices
length_vertices c [] = refl
length_vertices c (a ∷ o) = ap suc (length_vertices (up a c) o)

pub length_up : (a : ℕ) (c : Vertex) → length (up a c) ≡ length c
unfolding up
length_up a [] = refl
length_up zero (x ∷ c) = refl
length_up (suc a) (x ∷ c) = ap suc (length_up a c)

pub length_down : (a : ℕ) (c : Vertex) → length (down a c) ≡ length c
unfolding down
length_down a [] = refl
length_down zero (x ∷ c) = refl
length_down (suc a) (x ∷ c) = ap suc (length_down a c)

pub length_plus : (c : Vertex) (m : ℕ) → length (plus c m) ≡ length c
unfolding plus
length_plus [] m = refl
length_plus (x ∷ c) m = ap suc (length_plus c (m / 2))

-- every vertex of a simplex has as many coordinates as its corner
pub vertex_length : (c : Vertex) (o : List ℕ) (v : Vertex) → Memᴰ v (vertices c o) → length v ≡ length c
unfolding vertices
vertex_length c [] v m = ap length (Memᴰ.eq_of_singleton m)
vertex_length c (a ∷ o) v m =
    ⊎_elim (λ e. ap length e) (λ k. vertex_length (up a c) o v k ∙ length_up a c) (Memᴰ.cases_cons m)

pub facet_low_length : (n : ℕ) (f : Facet) → facet_ok n f ≡ true → length f.low ≡ n
unfolding facet_ok
facet_low_length n f e = eqb-true (length f.low) n (and_left _ _ e)
