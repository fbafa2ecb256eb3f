-- Masks and side of a simplex's facet (`place_anywhere`) and the order of a neighbour (`pivot_order`) do not depend on its corner, corner
-- and lowest vertex give each other back (`low_corner`, `corner_low`), and lowest vertex, masks and side of a row's facet are the place
-- (`place_is`).
use Prim.Native.Nat.{ℕ, suc, zero, ◌-◌, ◌≤◌}
use mathlib.Core.Path.{◌≡◌, refl, sym, ap, ap₂, ◌∙◌}
use mathlib.Core.Bool.{Bool, true, false, cond}
use mathlib.Core.List.{List, [], ◌∷◌}
use lib.ListN.{length, take}
use lib.Dec.{eqb}
use Rattle.curves.specs.Grid.{Place, place_at, exchange, pivot_first, pivot_last, pivot_at}
use Rattle.curves.specs.Grid as Grid
use Rattle.curves.proofs.Vertices.{up_down, down_up}
use Rattle.paper.specs.declared.Vertex.{Vertex}
use Rattle.paper.specs.declared.HeldPlace.{HeldPlace}
use Rattle.places.specs.Held.{vertex_as, masks_as, facet_as, place_as}
use Rattle.table.specs.Table.{order_at, InTable}
use Rattle.sides.specs.Facets.{masks_at, side_at, facet_masks}
use Rattle.sides.specs.Corners.{corner_under, low_over, LowIs, PlaceIs}
use Rattle.sides.proofs.FacetMasks.{masks_are}

-- a place
abbrev pub placed : Grid.Vertex → List ℕ → ℕ → Place
placed v ms s = record { facet = record { low = v; masks = ms }; side = s }

pub place_anywhere :
    (c : Grid.Vertex) (o : List ℕ) (i : ℕ)
    → place_at c o i ≡ placed (low_over c o i) (place_at [] o i).facet.masks (place_at [] o i).side
unfolding place_at low_over
place_anywhere c [] i = refl
place_anywhere c (a ∷ o) zero = refl
place_anywhere c (a ∷ o) (suc i) = refl

pub low_corner : (v : Grid.Vertex) (o : List ℕ) (i : ℕ) → low_over (corner_under v o i) o i ≡ v
unfolding low_over corner_under
low_corner v [] i = refl
low_corner v (a ∷ o) zero = up_down a v
low_corner v (a ∷ o) (suc i) = refl

pub corner_low : (c : Grid.Vertex) (o : List ℕ) (i : ℕ) → corner_under (low_over c o i) o i ≡ c
unfolding low_over corner_under
corner_low c [] i = refl
corner_low c (a ∷ o) zero = down_up a c
corner_low c (a ∷ o) (suc i) = refl

-- the neighbour's order does not depend on the corner
pub pivot_order : (c : Grid.Vertex) (o : List ℕ) (i : ℕ) → (pivot_at c o i).order ≡ (pivot_at [] o i).order
unfolding pivot_at pivot_first pivot_last
pivot_order c [] zero = refl
pivot_order c (a ∷ o) zero = refl
pivot_order c o (suc i) = go (eqb (suc i) (length o))
  where
    go :
        (b : Bool)
        → (cond b (pivot_last c o) (record { corner = c; order = exchange i o; out = suc i })).order
        ≡ (cond b (pivot_last [] o) (record { corner = []; order = exchange i o; out = suc i })).order
    go true = refl
    go false = refl

pub place_is :
    (n : ℕ) (corner : Vertex) (row out : ℕ) (r : HeldPlace) → InTable n row → out ≤ n
    → LowIs corner (order_at n row) out r.low
    → r.masks ≡ facet_masks n row out → r.side ≡ side_at n row out
    → PlaceIs n corner row out (place_at (vertex_as n corner) (order_at n row) out) r
unfolding place_as facet_as masks_as masks_at side_at
place_is n corner row out r h l e m s =
    record {
      is =
          ap₂ (λ v ms. placed v ms r.side) (e.is n)
          (ap (take (n - 1)) m ∙ sym (masks_are n row out h l))
          ∙ ap (placed (low_over (vertex_as n corner) (order_at n row) out) (masks_at n row out)) s
          ∙ sym (place_anywhere (vertex_as n corner) (order_at n row) out);
      low = e;
    }
