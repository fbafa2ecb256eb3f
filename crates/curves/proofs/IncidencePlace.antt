-- The place of a simplex without one vertex leads back to that simplex and vertex (`incidence_place`): the facet without the first
-- or the last vertex is flat, and the facet without another is bent.
use Prim.Native.Nat.{ℕ, suc, zero, ◌+◌, ◌-◌, ◌^◌, ◌≤◌, ◌<◌}
use mathlib.Core.Path.{◌≡◌, refl, sym, ap, ap₂, ◌∙◌}
use mathlib.Core.Bool.{Bool, true, false, cond}
use mathlib.Core.List.{List, [], ◌∷◌, ◌++◌}
use native.Mathlib.Nat.{not-suc-le-zero}
use native.Mathlib.Omega.{arith}
use lib.ListN.{length, length-append}
use lib.Dec.{ltb}
use lib.Count.{ones}
use borrow.Author.Tests.{eq-eqb, ne_eqb}
use Rattle.exact.specs.Crossed.{remove}
use Rattle.curves.specs.Grid.{Vertex, Place, up, down, downs, axes, masks_from, last_mask, steps, flat, missed, added, bend, flat_side, bent_side, incidence, side_of, place_at, is_order}
use Rattle.curves.proofs.OrderTests.{order_length}
use Rattle.curves.proofs.Vertices.{down_up}
use Rattle.curves.proofs.MaskBits.{bit, bit_add_same, ones_zero}
use Rattle.curves.proofs.MaskAxes.{axes_power}
use Rattle.curves.proofs.MaskOrder.{Fresh, next, weight, weight_append, order_fresh, fresh_zero, fresh_front, fresh_back, fresh_ones, fresh_full}
use Rattle.curves.proofs.MaskSteps.{powers, last_masks, steps_masks, added_powers, remove_end, side_end, side_between, last_between, steps_between, oriented_two, added_between, ones_powers, bend_between}

-- ---- places and the two forms of an incidence

abbrev pub place : Vertex → List ℕ → ℕ → Place
place c ms s = record { facet = record { low = c; masks = ms }; side = s }

-- the place without a vertex behind the first
pub place_behind : (c : Vertex) (o : List ℕ) (i : ℕ) → place_at c o (suc i) ≡ place c (remove i (masks_from 0 o)) (side_of i o)
unfolding place_at remove masks_from side_of
place_behind c [] i = refl
place_behind c (a ∷ o) i = refl

incidence_flat : (n : ℕ) (p : Place) → flat n p.facet.masks ≡ true → incidence n p ≡ flat_side n p.facet p.side
unfolding incidence
incidence_flat n p e = ap (λ (t : Bool). cond t (flat_side n p.facet p.side) (bent_side n p.facet p.side)) e

pub incidence_bent : (n : ℕ) (p : Place) → flat n p.facet.masks ≡ false → incidence n p ≡ bent_side n p.facet p.side
unfolding incidence
incidence_bent n p e = ap (λ (t : Bool). cond t (flat_side n p.facet p.side) (bent_side n p.facet p.side)) e

-- ---- flat: all axes but one

-- a list of all axes but one is flat, and misses that axis
flat_masks : (n : ℕ) (o : List ℕ) → Fresh n 0 o → suc (length o) ≡ n → flat n (masks_from 0 o) ≡ true
unfolding flat
flat_masks n o f e = eq-eqb (suc (ones (last_mask 0 (masks_from 0 o)))) n (ap suc (ap ones (last_masks 0 o) ∙ fresh_ones f) ∙ omega (arith, ones_zero))

missed_masks : (n : ℕ) (o : List ℕ) (a : ℕ) → a < n → suc (weight o + 2 ^ a) ≡ 2 ^ n → missed n (masks_from 0 o) ≡ a ∷ []
unfolding missed
missed_masks n o a l e =
    ap (axes n) (ap (λ (x : ℕ). 2 ^ n - 1 - x) (last_masks 0 o) ∙ omega arith) ∙ axes_power n a l

-- what the two sides of a flat facet give
flat_low : (n : ℕ) (c : Vertex) (ms o : List ℕ) (a : ℕ) → flat n ms ≡ true → added n 0 (steps 0 ms) ≡ o → missed n ms ≡ a ∷ []
    → incidence n (place c ms 0) ≡ record { corner = c; order = o ++ a ∷ []; out = n }
unfolding flat_side
flat_low n c ms o a e p q =
    incidence_flat n (place c ms 0) e ∙ ap₂ (λ (x y : List ℕ). record { corner = c; order = x ++ y; out = n }) p q

flat_high : (n : ℕ) (c : Vertex) (ms o : List ℕ) (a : ℕ) → flat n ms ≡ true → added n 0 (steps 0 ms) ≡ o → missed n ms ≡ a ∷ []
    → incidence n (place c ms 1) ≡ record { corner = down a c; order = a ∷ o; out = 0 }
unfolding flat_side downs
flat_high n c ms o a e p q =
    incidence_flat n (place c ms 1) e ∙ ap₂ (λ (x y : List ℕ). record { corner = downs y c; order = y ++ x; out = 0 }) p q

-- without the first vertex
incidence_first : (n : ℕ) (c : Vertex) (a : ℕ) (o : List ℕ) → is_order n (a ∷ o) ≡ true
    → incidence n (place_at c (a ∷ o) 0) ≡ record { corner = c; order = a ∷ o; out = 0 }
unfolding place_at weight
incidence_first n c a o h = go (order_fresh n (a ∷ o) h)
  where
    go : Fresh n 0 (a ∷ o) → incidence n (place_at c (a ∷ o) 0) ≡ record { corner = c; order = a ∷ o; out = 0 }
    go (next l z r) =
        let f : Fresh n 0 o = fresh_zero r in
        let full : suc (2 ^ a + weight o) ≡ 2 ^ n = fresh_full n (a ∷ o) (next l z r) (order_length n (a ∷ o) h) in
        flat_high n (up a c) (masks_from 0 o) o a (flat_masks n o f (order_length n (a ∷ o) h))
        (ap (added n 0) (steps_masks 0 o) ∙ added_powers 0 f)
        (missed_masks n o a l (omega arith))
        ∙ ap (λ (v : Vertex). record { corner = v; order = a ∷ o; out = 0 }) (down_up a c)

-- without the last vertex
incidence_last : (n : ℕ) (c : Vertex) (a : ℕ) (o : List ℕ) → is_order n (o ++ a ∷ []) ≡ true
    → incidence n (place_at c (o ++ a ∷ []) (suc (length o))) ≡ record { corner = c; order = o ++ a ∷ []; out = suc (length o) }
unfolding weight
incidence_last n c a o h = go (fresh_back o (a ∷ []) whole)
  where
    whole : Fresh n 0 (o ++ a ∷ [])
    whole = order_fresh n (o ++ a ∷ []) h

    size : suc (length o) ≡ n
    size = omega (arith, length-append o (a ∷ []), order_length n (o ++ a ∷ []) h)

    full : suc (weight o + 2 ^ a) ≡ 2 ^ n
    full = omega (arith, weight_append o (a ∷ []), fresh_full n (o ++ a ∷ []) whole (order_length n (o ++ a ∷ []) h))

    go : Fresh n (0 + weight o) (a ∷ [])
        → incidence n (place_at c (o ++ a ∷ []) (suc (length o))) ≡ record { corner = c; order = o ++ a ∷ []; out = suc (length o) }
    go (next l z r) =
        let f : Fresh n 0 o = fresh_front o (a ∷ []) whole in
        ap (incidence n)
        (place_behind c (o ++ a ∷ []) (length o)
        ∙ ap₂ (place c) (remove_end 0 o a) (side_end o a))
        ∙ flat_low n c (masks_from 0 o) o a (flat_masks n o f size) (ap (added n 0) (steps_masks 0 o) ∙ added_powers 0 f)
        (missed_masks n o a l full)
        ∙ ap (λ (x : ℕ). record { corner = c; order = o ++ a ∷ []; out = x }) (sym size)

-- ---- bent: all axes, two of them in one step

-- the masks of all axes are not flat, also with one mask before the last taken out
bent_masks : (n : ℕ) (o : List ℕ) (a b : ℕ) (p : List ℕ) → is_order n (o ++ a ∷ b ∷ p) ≡ true
    → flat n (remove (length o) (masks_from 0 (o ++ a ∷ b ∷ p))) ≡ false
unfolding flat
bent_masks n o a b p h =
    let last : ones (last_mask 0 (remove (length o) (masks_from 0 (o ++ a ∷ b ∷ p)))) ≡ n
    = ap ones (last_between 0 o a b p) ∙ fresh_ones (order_fresh n (o ++ a ∷ b ∷ p) h)
    ∙ omega (arith, ones_zero, order_length n (o ++ a ∷ b ∷ p) h) in
    ne_eqb (suc (ones (last_mask 0 (remove (length o) (masks_from 0 (o ++ a ∷ b ∷ p)))))) n (λ e. omega arith)

-- without a vertex between
incidence_between : (n : ℕ) (c : Vertex) (a b : ℕ) (o p : List ℕ) → is_order n (o ++ a ∷ b ∷ p) ≡ true
    → incidence n (place_at c (o ++ a ∷ b ∷ p) (suc (length o))) ≡ record { corner = c; order = o ++ a ∷ b ∷ p; out = suc (length o) }
unfolding bent_side
incidence_between n c a b o p h = go (fresh_back o (a ∷ b ∷ p) whole)
  where
    whole : Fresh n 0 (o ++ a ∷ b ∷ p)
    whole = order_fresh n (o ++ a ∷ b ∷ p) h

    ms : List ℕ
    ms = remove (length o) (masks_from 0 (o ++ a ∷ b ∷ p))

    go : Fresh n (0 + weight o) (a ∷ b ∷ p)
        → incidence n (place_at c (o ++ a ∷ b ∷ p) (suc (length o))) ≡ record { corner = c; order = o ++ a ∷ b ∷ p; out = suc (length o) }
    go (next l z (next k y r)) =
        let other : ¬ (a ≡ b)
        = λ e. omega (arith, bit_add_same a (0 + weight o) z, ap (λ (x : ℕ). bit x (0 + weight o + 2 ^ a)) e) in
        let axes' : added n (cond (ltb a b) 0 1) (steps 0 ms) ≡ o ++ a ∷ b ∷ p
        = ap (added n (cond (ltb a b) 0 1)) (steps_between 0 o a b p)
        ∙ added_between (cond (ltb a b) 0 1) o (2 ^ a + 2 ^ b) p (fresh_front o (a ∷ b ∷ p) whole)
        ∙ ap₂ (λ (x y : List ℕ). o ++ (x ++ y)) (oriented_two n a b l k other) (added_powers (cond (ltb a b) 0 1) r) in
        ap (incidence n)
        (place_behind c (o ++ a ∷ b ∷ p) (length o)
        ∙ ap (place c ms) (side_between o a b p))
        ∙ incidence_bent n (place c ms (cond (ltb a b) 0 1)) (bent_masks n o a b p h)
        ∙ ap₂ (λ (x : List ℕ) (y : ℕ). record { corner = c; order = x; out = y }) axes'
        (ap bend (steps_between 0 o a b p) ∙ bend_between o (2 ^ a + 2 ^ b) (powers p) (ones_powers a b other))

-- ---- all together

-- an index in a list: the last, or one that another follows
pub data At : ℕ → List ℕ → Type 0 where
  end : (o : List ℕ) (a : ℕ) → At (length o) (o ++ a ∷ [])
  between : (o : List ℕ) (a b : ℕ) (p : List ℕ) → At (length o) (o ++ a ∷ b ∷ p)

pub at : (i : ℕ) (o : List ℕ) → i < length o → At i o
at i [] l = absurd (not-suc-le-zero l)
at zero (a ∷ []) l = end [] a
at zero (a ∷ b ∷ o) l = between [] a b o
at (suc i) (x ∷ o) l = go (at i o (omega arith))
  where
    go : {j : ℕ} {q : List ℕ} → At j q → At (suc j) (x ∷ q)
    go (end q a) = end (x ∷ q) a
    go (between q a b p) = between (x ∷ q) a b p

incidence_behind : (n : ℕ) (c : Vertex) {i : ℕ} {o : List ℕ} → At i o → is_order n o ≡ true
    → incidence n (place_at c o (suc i)) ≡ record { corner = c; order = o; out = suc i }
incidence_behind n c (end o a) h = incidence_last n c a o h
incidence_behind n c (between o a b p) h = incidence_between n c a b o p h

pub incidence_place : (n : ℕ) (c : Vertex) (o : List ℕ) (i : ℕ) → 0 < n → is_order n o ≡ true → i ≤ n
    → incidence n (place_at c o i) ≡ record { corner = c; order = o; out = i }
incidence_place n c [] i p h l = absurd (omega (arith, order_length n [] h))
incidence_place n c (a ∷ o) zero p h l = incidence_first n c a o h
incidence_place n c (a ∷ o) (suc i) p h l = incidence_behind n c (at i (a ∷ o) (omega (arith, order_length n (a ∷ o) h))) h
