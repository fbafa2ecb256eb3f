-- The grid: document 01, section "The grid", over the dimension n. Axis j of the paper is the number j − 1 here, so that
-- bit a of a mask stands for axis a. Values and boxes have no part in it.
use Rattle.std.specs.Prelude.{ℕ, suc, zero, ◌+◌, ◌-◌, ◌/◌, ◌%◌, ◌^◌, Bool, true, false, not, cond, ◌&&◌, List, [], ◌∷◌, ◌++◌, map, reverse, ℤ, pos, length, leb, ltb, eqb}
use Rattle.std.specs.Int.Signed.{le_z}
use Rattle.std.specs.Int.Count.{ones}
use Rattle.exact.specs.Int.{◌⊕◌, ◌⊖◌, 1ℤ}
use Rattle.exact.specs.Crossed.{remove}

-- ---- vertices and masks

-- a lattice vertex: its whole coordinates, axis by axis
abbrev pub Vertex : Type 0
Vertex = List ℤ

-- the vertex with 1 added on axis a
unfoldable pub up : ℕ → Vertex → Vertex
up a [] = []
up zero (x ∷ v) = (x ⊕ 1ℤ) ∷ v
up (suc a) (x ∷ v) = x ∷ up a v

-- the vertex with 1 taken off on axis a
unfoldable pub down : ℕ → Vertex → Vertex
down a [] = []
down zero (x ∷ v) = (x ⊖ 1ℤ) ∷ v
down (suc a) (x ∷ v) = x ∷ down a v

-- the vertex with 1 added on each axis of a mask
unfoldable pub plus : Vertex → ℕ → Vertex
plus [] m = []
plus (x ∷ v) m = (x ⊕ pos (m % 2)) ∷ plus v (m / 2)

-- the axes of a mask from axis k on, lowest first, of the d bits looked at
unfoldable pub axes_from : ℕ → ℕ → ℕ → List ℕ
axes_from zero k m = []
axes_from (suc d) k m = cond (eqb (m % 2) 1) (k ∷ axes_from d (suc k) (m / 2)) (axes_from d (suc k) (m / 2))

-- the axes of a mask, lowest first
unfoldable pub axes : ℕ → ℕ → List ℕ
axes n m = axes_from n 0 m

-- every axis of the mask l, of n, is one of m
unfoldable pub holds : ℕ → ℕ → ℕ → Bool
holds zero m l = true
holds (suc n) m l = leb (l % 2) (m % 2) && holds n (m / 2) (l / 2)

-- ---- simplices

-- the vertices of the simplex with a corner and an order of the axes: each later vertex adds 1 on the next axis of the order
unfoldable pub vertices : Vertex → List ℕ → List Vertex
vertices c [] = c ∷ []
vertices c (a ∷ o) = c ∷ vertices (up a c) o

-- a number does not stand in a list
unfoldable pub absent : ℕ → List ℕ → Bool
absent a [] = true
absent a (b ∷ o) = not (eqb a b) && absent a o

-- no number stands twice
unfoldable pub distinct : List ℕ → Bool
distinct [] = true
distinct (a ∷ o) = absent a o && distinct o

-- each number is under n
unfoldable pub under : ℕ → List ℕ → Bool
under n [] = true
under n (a ∷ o) = ltb a n && under n o

-- an order of the n axes: each of them once
unfoldable pub is_order : ℕ → List ℕ → Bool
is_order n o = eqb (length o) n && (under n o && distinct o)

-- ---- facets and places

-- a facet: its lowest vertex, and each other vertex's difference from the lowest as a mask
pub record Facet : Type 0 where
  pub low : Vertex
  pub masks : List ℕ

-- a place: a facet with a side, 0 or 1
pub record Place : Type 0 where
  pub facet : Facet
  pub side : ℕ

-- the facet's vertices, lowest first
unfoldable pub facet_vertices : Facet → List Vertex
facet_vertices f = f.low ∷ map (plus f.low) f.masks

-- each mask has no bit for an axis above n, and strictly holds the one before; the first strictly holds 0, so it is not 0
unfoldable pub chain : ℕ → ℕ → List ℕ → Bool
chain n before [] = true
chain n before (m ∷ ms) = ltb m (2 ^ n) && (holds n m before && (not (eqb m before) && chain n m ms))

-- the form of a facet and of a place in dimension n
unfoldable pub facet_ok : ℕ → Facet → Bool
facet_ok n f = eqb (length f.low) n && (eqb (suc (length f.masks)) n && chain n 0 f.masks)

unfoldable pub place_ok : ℕ → Place → Bool
place_ok n p = facet_ok n p.facet && ltb p.side 2

-- tests of equality
unfoldable pub same_vertex : Vertex → Vertex → Bool
same_vertex [] [] = true
same_vertex [] (y ∷ w) = false
same_vertex (x ∷ v) [] = false
same_vertex (x ∷ v) (y ∷ w) = le_z x y && (le_z y x && same_vertex v w)

unfoldable pub same_masks : List ℕ → List ℕ → Bool
same_masks [] [] = true
same_masks [] (m ∷ ms) = false
same_masks (l ∷ ls) [] = false
same_masks (l ∷ ls) (m ∷ ms) = eqb l m && same_masks ls ms

unfoldable pub same_facet : Facet → Facet → Bool
same_facet f g = same_vertex f.low g.low && same_masks f.masks g.masks

-- the same facet with the other side: document 01 calls this the place *turned*
unfoldable pub turn : Place → Place
turn p = record { facet = p.facet; side = 1 - p.side }

-- ---- the simplex on a place's side

-- a simplex and one of its vertices, by its index: the facet is the simplex without that vertex
pub record Incidence : Type 0 where
  pub corner : Vertex
  pub order : List ℕ
  pub out : ℕ

-- what each step of the chain adds, as masks
unfoldable pub steps : ℕ → List ℕ → List ℕ
steps before [] = []
steps before (m ∷ ms) = (m - before) ∷ steps m ms

-- the last mask of a chain
unfoldable pub last_mask : ℕ → List ℕ → ℕ
last_mask before [] = before
last_mask before (m ∷ ms) = last_mask m ms

-- flat: the last mask has n − 1 ones, and the facet misses one axis. Else it has n ones and the facet is bent
unfoldable pub flat : ℕ → List ℕ → Bool
flat n ms = eqb (suc (ones (last_mask 0 ms))) n

-- the axis that a flat facet misses
unfoldable pub missed : ℕ → List ℕ → List ℕ
missed n ms = axes n (2 ^ n - 1 - last_mask 0 ms)

-- the axes that the steps add: a step of two axes adds the lower-numbered first on side 0, the higher first on side 1
unfoldable pub oriented : ℕ → List ℕ → List ℕ
oriented zero os = os
oriented (suc s) os = reverse os

unfoldable pub added : ℕ → ℕ → List ℕ → List ℕ
added n s [] = []
added n s (d ∷ ds) = oriented s (axes n d) ++ added n s ds

-- the index of the vertex that a bent facet leaves out: between the two axes of the step that adds two
unfoldable pub bend : List ℕ → ℕ
bend [] = 0
bend (d ∷ ds) = cond (eqb (ones d) 2) 1 (suc (bend ds))

-- 1 taken off on each axis of a list
unfoldable pub downs : List ℕ → Vertex → Vertex
downs [] v = v
downs (a ∷ o) v = downs o (down a v)

-- side 0 of a flat facet: the extra vertex is the highest; side 1: it is the lowest
unfoldable pub flat_side : ℕ → Facet → ℕ → Incidence
flat_side n f zero = record { corner = f.low; order = added n 0 (steps 0 f.masks) ++ missed n f.masks; out = n }
flat_side n f (suc s) = record {
  corner = downs (missed n f.masks) f.low;
  order = missed n f.masks ++ added n 0 (steps 0 f.masks);
  out = 0;
}

-- the sides of a bent facet differ in the order of the two axes
unfoldable pub bent_side : ℕ → Facet → ℕ → Incidence
bent_side n f s = record { corner = f.low; order = added n s (steps 0 f.masks); out = bend (steps 0 f.masks) }

-- the simplex on a place's side, with the vertex that the facet leaves out
unfoldable pub incidence : ℕ → Place → Incidence
incidence n p = cond (flat n p.facet.masks) (flat_side n p.facet p.side) (bent_side n p.facet p.side)

-- ---- the place of a simplex without one vertex

-- the masks of the vertices behind the first, which are those of an order
unfoldable pub masks_from : ℕ → List ℕ → List ℕ
masks_from m [] = []
masks_from m (a ∷ o) = (m + 2 ^ a) ∷ masks_from (m + 2 ^ a) o

-- the side on which a simplex with this order lies of its facet without vertex i + 1: the last vertex is the highest (0);
-- else the lower-numbered of the axes before and behind it comes first (0) or last (1)
unfoldable pub side_of : ℕ → List ℕ → ℕ
side_of i [] = 0
side_of zero (a ∷ []) = 0
side_of zero (a ∷ b ∷ o) = cond (ltb a b) 0 1
side_of (suc i) (a ∷ o) = side_of i o

-- the place whose side is the simplex and whose facet leaves out the given vertex
unfoldable pub place_at : Vertex → List ℕ → ℕ → Place
place_at c [] i = record { facet = record { low = c; masks = [] }; side = 0 }
place_at c (a ∷ o) zero = record { facet = record { low = up a c; masks = masks_from 0 o }; side = 1 }
place_at c (a ∷ o) (suc i) = record { facet = record { low = c; masks = remove i (masks_from 0 (a ∷ o)) }; side = side_of i (a ∷ o) }

unfoldable pub place_of : Incidence → Place
place_of t = place_at t.corner t.order t.out

-- ---- neighbours: the P rule of document 002, section 5

-- the axes at positions i and i + 1 of the order exchanged
unfoldable pub exchange : ℕ → List ℕ → List ℕ
exchange i [] = []
exchange zero (a ∷ []) = a ∷ []
exchange zero (a ∷ b ∷ o) = b ∷ a ∷ o
exchange (suc i) (a ∷ o) = a ∷ exchange i o

-- the last axis of an order, and the order without it
unfoldable pub last_axis : List ℕ → ℕ
last_axis [] = 0
last_axis (a ∷ []) = a
last_axis (a ∷ b ∷ o) = last_axis (b ∷ o)

unfoldable pub but_last : List ℕ → List ℕ
but_last [] = []
but_last (a ∷ []) = []
but_last (a ∷ b ∷ o) = a ∷ but_last (b ∷ o)

-- vertex 0 goes: the corner moves + 1 on the first axis, which goes last
unfoldable pub pivot_first : Vertex → List ℕ → Incidence
pivot_first c [] = record { corner = c; order = []; out = 0 }
pivot_first c (a ∷ o) = record { corner = up a c; order = o ++ (a ∷ []); out = length (a ∷ o) }

-- vertex n goes: the corner moves − 1 on the last axis, which goes first
unfoldable pub pivot_last : Vertex → List ℕ → Incidence
pivot_last c o = record { corner = down (last_axis o) c; order = last_axis o ∷ but_last o; out = 0 }

-- the neighbour that shares the facet: for 0 < i < n axes i and i + 1 of the order change places
unfoldable pub pivot_at : Vertex → List ℕ → ℕ → Incidence
pivot_at c o zero = pivot_first c o
pivot_at c o (suc i) =
    cond (eqb (suc i) (length o)) (pivot_last c o) (record { corner = c; order = exchange i o; out = suc i })

unfoldable pub pivot : Incidence → Incidence
pivot t = pivot_at t.corner t.order t.out

-- ---- the table of orders

-- the orders of two, of three and of four axes, each in rising order of its entries
unfoldable pub orders : ℕ → List (List ℕ)
orders n =
    cond (eqb n 2) ((0 ∷ 1 ∷ []) ∷ (1 ∷ 0 ∷ []) ∷ [])
    (cond (eqb n 3)
    ((0 ∷ 1 ∷ 2 ∷ []) ∷ (0 ∷ 2 ∷ 1 ∷ []) ∷ (1 ∷ 0 ∷ 2 ∷ []) ∷ (1 ∷ 2 ∷ 0 ∷ []) ∷ (2 ∷ 0 ∷ 1 ∷ []) ∷ (2 ∷ 1 ∷ 0 ∷ []) ∷ [])
    (cond (eqb n 4)
    ((0 ∷ 1 ∷ 2 ∷ 3 ∷ []) ∷ (0 ∷ 1 ∷ 3 ∷ 2 ∷ []) ∷ (0 ∷ 2 ∷ 1 ∷ 3 ∷ []) ∷ (0 ∷ 2 ∷ 3 ∷ 1 ∷ []) ∷ (0 ∷ 3 ∷ 1 ∷ 2 ∷ []) ∷ (0 ∷ 3 ∷ 2 ∷ 1 ∷ [])
    ∷ (1 ∷ 0 ∷ 2 ∷ 3 ∷ []) ∷ (1 ∷ 0 ∷ 3 ∷ 2 ∷ []) ∷ (1 ∷ 2 ∷ 0 ∷ 3 ∷ []) ∷ (1 ∷ 2 ∷ 3 ∷ 0 ∷ []) ∷ (1 ∷ 3 ∷ 0 ∷ 2 ∷ []) ∷ (1 ∷ 3 ∷ 2 ∷ 0 ∷ [])
    ∷ (2 ∷ 0 ∷ 1 ∷ 3 ∷ []) ∷ (2 ∷ 0 ∷ 3 ∷ 1 ∷ []) ∷ (2 ∷ 1 ∷ 0 ∷ 3 ∷ []) ∷ (2 ∷ 1 ∷ 3 ∷ 0 ∷ []) ∷ (2 ∷ 3 ∷ 0 ∷ 1 ∷ []) ∷ (2 ∷ 3 ∷ 1 ∷ 0 ∷ [])
    ∷ (3 ∷ 0 ∷ 1 ∷ 2 ∷ []) ∷ (3 ∷ 0 ∷ 2 ∷ 1 ∷ []) ∷ (3 ∷ 1 ∷ 0 ∷ 2 ∷ []) ∷ (3 ∷ 1 ∷ 2 ∷ 0 ∷ []) ∷ (3 ∷ 2 ∷ 0 ∷ 1 ∷ []) ∷ (3 ∷ 2 ∷ 1 ∷ 0 ∷ []) ∷ [])
    []))
