-- The neighbour that shares a facet, by `pivot`: it is a simplex again, its neighbour is the simplex it came from, and its place is
-- the place turned.
use Prim.Native.Nat.{ℕ, suc, zero, ◌+◌, ◌-◌, ◌^◌, ◌<◌, ◌≤◌}
use mathlib.Core.Path.{◌≡◌, refl, sym, ap, ◌∙◌, subst}
use mathlib.Core.Bool.{Bool, true, false, cond}
use mathlib.Core.List.{List, [], ◌∷◌, ◌++◌}
use native.Mathlib.Omega.{arith}
use lib.ListN.{length}
use lib.Dec.{eqb, ltb}
use borrow.Author.Tests.{eqb-true, eqb-false, eq-eqb, ne_eqb, ltb-true, ltb-false, lt-ltb, le-ltb}
use Rattle.exact.specs.Crossed.{remove}
use Rattle.curves.specs.Grid.{Vertex, Incidence, up, down, distinct, is_order, masks_from, side_of, place_at}
use Rattle.curves.specs.Grid.{place_of, turn, exchange, last_axis, but_last, pivot_first, pivot_last, pivot_at, pivot}
use Rattle.curves.proofs.OrderTests.{order_length, order_distinct, distinct_head, distinct_tail}
use Rattle.curves.proofs.OrderTests.{absent_head, length_snoc, order_snoc, length_exchange, order_exchange}
use Rattle.curves.proofs.Vertices.{up_down, down_up, length_up, length_down}
use Rattle.curves.proofs.MaskSteps.{remove_end, side_end}
use Rattle.curves.proofs.IncidencePlace.{place_behind}
use Rattle.curves.proofs.IncidenceOf.{Valid}

-- ---- the last axis of an order
pub last_axis_snoc : (a : ℕ) (o : List ℕ) → last_axis (o ++ (a ∷ [])) ≡ a
unfolding last_axis
last_axis_snoc a [] = refl
last_axis_snoc a (b ∷ []) = refl
last_axis_snoc a (b ∷ x ∷ o) = last_axis_snoc a (x ∷ o)

pub but_last_snoc : (a : ℕ) (o : List ℕ) → but_last (o ++ (a ∷ [])) ≡ o
unfolding but_last
but_last_snoc a [] = refl
but_last_snoc a (b ∷ []) = refl
but_last_snoc a (b ∷ x ∷ o) = ap (λ l. b ∷ l) (but_last_snoc a (x ∷ o))

-- an order that is not empty is what stands before its last axis, then that axis
pub snoc_last : (o : List ℕ) → 0 < length o → but_last o ++ (last_axis o ∷ []) ≡ o
unfolding last_axis but_last
snoc_last [] p = absurd (omega arith)
snoc_last (a ∷ []) p = refl
snoc_last (a ∷ b ∷ o) p = ap (λ l. a ∷ l) (snoc_last (b ∷ o) (omega arith))

pub exchange_exchange : (i : ℕ) (o : List ℕ) → exchange i (exchange i o) ≡ o
unfolding exchange
exchange_exchange i [] = refl
exchange_exchange zero (a ∷ []) = refl
exchange_exchange zero (a ∷ b ∷ o) = refl
exchange_exchange (suc i) (a ∷ o) = ap (λ l. a ∷ l) (exchange_exchange i o)

-- ---- the cases of the pivot
pub pivot_first_lem : (c : Vertex) (a : ℕ) (o : List ℕ) → pivot_at c (a ∷ o) 0 ≡ record { corner = up a c; order = o ++ (a ∷ []); out = length (a ∷ o) }
unfolding pivot_at pivot_first
pivot_first_lem c a o = refl

pub pivot_last_lem : (c : Vertex) (a : ℕ) (o : List ℕ) → pivot_at c (o ++ (a ∷ [])) (suc (length o)) ≡ record { corner = down a c; order = a ∷ o; out = 0 }
unfolding pivot_at pivot_last
pivot_last_lem c a o = rw (eq-eqb (suc (length o)) (length (o ++ (a ∷ []))) (sym (length_snoc a o)), last_axis_snoc a o, but_last_snoc a o)

pub pivot_middle : (c : Vertex) (o : List ℕ) (i : ℕ) → (suc i ≡ length o → ⊥) →
    pivot_at c o (suc i) ≡ record { corner = c; order = exchange i o; out = suc i }
unfolding pivot_at
pivot_middle c o i h = rw (ne_eqb (suc i) (length o) h)

-- what holds of the pivot in each of its cases holds of it: at the first vertex, at the last, at another
module _ (P : Vertex → List ℕ → ℕ → Type 0)
    (first : (c : Vertex) (a : ℕ) (o : List ℕ) → P c (a ∷ o) 0)
    (last : (c : Vertex) (a : ℕ) (o : List ℕ) → P c (o ++ (a ∷ [])) (suc (length o)))
    (middle : (c : Vertex) (o : List ℕ) (i : ℕ) → suc i < length o → P c o (suc i)) where
  pub pivot_cases : (c : Vertex) (o : List ℕ) (i : ℕ) → 0 < length o → i ≤ length o → P c o i
  pivot_cases c [] zero p h = absurd (omega arith)
  pivot_cases c (a ∷ o) zero p h = first c a o
  pivot_cases c o (suc i) p h = go (eqb (suc i) (length o)) refl
    where
      go : (t : Bool) → eqb (suc i) (length o) ≡ t → P c o (suc i)
      go true e =
          let s : but_last o ++ (last_axis o ∷ []) ≡ o = snoc_last o p in
          let k : suc i ≡ length o = eqb-true (suc i) (length o) e in
          let l : length o ≡ suc (length (but_last o)) = ap length (sym s) ∙ length_snoc (last_axis o) (but_last o) in
          subst (λ x. P c x (suc i)) s (subst (λ j. P c (but_last o ++ (last_axis o ∷ [])) j) (sym (k ∙ l)) (last c (last_axis o) (but_last o)))
      go false e = middle c o i (omega (arith, eqb-false (suc i) (length o) e))

-- ---- the pivot is a simplex again

pivot_at_valid : (n : ℕ) (c : Vertex) (o : List ℕ) (i : ℕ) → 0 < n → is_order n o ≡ true → length c ≡ n → i ≤ n → Valid n (pivot_at c o i)
pivot_at_valid n c o i p e l h = pivot_cases P first last middle c o i (omega (arith, order_length n o e)) (omega (arith, order_length n o e)) e l
  where
    P : Vertex → List ℕ → ℕ → Type 0
    P c o i = is_order n o ≡ true → length c ≡ n → Valid n (pivot_at c o i)

    first : (c : Vertex) (a : ℕ) (o : List ℕ) → P c (a ∷ o) 0
    first c a o e l =
        rw (pivot_first_lem c a o)
        record {
          order_is = order_snoc n a o ∙ e;
          corner_length = length_up a c ∙ l;
          out_bound = omega (arith, order_length n (a ∷ o) e);
        }

    last : (c : Vertex) (a : ℕ) (o : List ℕ) → P c (o ++ (a ∷ [])) (suc (length o))
    last c a o e l =
        rw (pivot_last_lem c a o)
        record {
          order_is = sym (order_snoc n a o) ∙ e;
          corner_length = length_down a c ∙ l;
          out_bound = omega arith;
        }

    middle : (c : Vertex) (o : List ℕ) (i : ℕ) → suc i < length o → P c o (suc i)
    middle c o i h e l =
        rw (pivot_middle c o i (omega arith))
        record {
          order_is = order_exchange n i o ∙ e;
          corner_length = l;
          out_bound = omega (arith, order_length n o e);
        }

-- the neighbour of a simplex is a simplex
pub pivot_valid : (n : ℕ) (t : Incidence) → 0 < n → Valid n t → Valid n (pivot t)
unfolding pivot
pivot_valid n t p w = pivot_at_valid n t.corner t.order t.out p w.order_is w.corner_length w.out_bound

-- ---- the pivot undoes itself
pivot_at_pivot : (c : Vertex) (o : List ℕ) (i : ℕ) → 0 < length o → i ≤ length o → pivot (pivot_at c o i) ≡ record { corner = c; order = o; out = i }
unfolding pivot
pivot_at_pivot = pivot_cases P first last middle
  where
    P : Vertex → List ℕ → ℕ → Type 0
    P c o i = pivot (pivot_at c o i) ≡ record { corner = c; order = o; out = i }

    first : (c : Vertex) (a : ℕ) (o : List ℕ) → P c (a ∷ o) 0
    first c a o = rw (pivot_first_lem c a o, pivot_last_lem (up a c) a o, down_up a c)

    last : (c : Vertex) (a : ℕ) (o : List ℕ) → P c (o ++ (a ∷ [])) (suc (length o))
    last c a o = rw (pivot_last_lem c a o, pivot_first_lem (down a c) a o, up_down a c)

    middle : (c : Vertex) (o : List ℕ) (i : ℕ) → suc i < length o → P c o (suc i)
    middle c o i h = rw (pivot_middle c o i (omega arith), pivot_middle c (exchange i o) i (omega (arith, length_exchange i o)), exchange_exchange i o)

-- the neighbour's neighbour over the same facet is the simplex itself
pub pivot_pivot : (n : ℕ) (t : Incidence) → 0 < n → Valid n t → pivot (pivot t) ≡ t
unfolding pivot
pivot_pivot n t p w =
    pivot_at_pivot t.corner t.order t.out
    (omega (arith, order_length n t.order w.order_is))
    (omega (arith, w.out_bound, order_length n t.order w.order_is))

-- ---- the pivot is the other side of the same facet

place_first : (c : Vertex) (a : ℕ) (o : List ℕ) → place_at c (a ∷ o) 0 ≡ record { facet = record { low = up a c; masks = masks_from 0 o }; side = 1 }
unfolding place_at
place_first c a o = refl

place_last : (c : Vertex) (a : ℕ) (o : List ℕ) →
    place_at c (o ++ (a ∷ [])) (suc (length o)) ≡ record { facet = record { low = c; masks = masks_from 0 o }; side = 0 }
place_last c a o = rw (place_behind c (o ++ (a ∷ [])) (length o), remove_end 0 o a, side_end o a)

masks_exchange : (m i : ℕ) (o : List ℕ) → remove i (masks_from m (exchange i o)) ≡ remove i (masks_from m o)
unfolding remove masks_from exchange
masks_exchange m i [] = refl
masks_exchange m zero (a ∷ []) = refl
masks_exchange m zero (a ∷ b ∷ o) = ap (λ k. k ∷ masks_from k o) (omega arith)
masks_exchange m (suc i) (a ∷ o) = ap (λ l. (m + 2 ^ a) ∷ l) (masks_exchange (m + 2 ^ a) i o)

side_exchange : (i : ℕ) (o : List ℕ) → distinct o ≡ true → suc i < length o → side_of i (exchange i o) ≡ 1 - side_of i o
unfolding side_of exchange
side_exchange i [] d h = absurd (omega arith)
side_exchange zero (a ∷ []) d h = absurd (omega arith)
side_exchange zero (a ∷ b ∷ o) d h = go (ltb a b) refl
  where
    go : (t : Bool) → ltb a b ≡ t → cond (ltb b a) 0 1 ≡ 1 - cond t 0 1
    go true e = rw (le-ltb b a (omega (arith, ltb-true a b e)))
    go false e = rw (lt-ltb b a (omega (arith, ltb-false a b e, absent_head a b o (distinct_head a (b ∷ o) d))))
side_exchange (suc i) (a ∷ o) d h = side_exchange i o (distinct_tail a o d) (omega arith)

pivot_at_turns : (c : Vertex) (o : List ℕ) (i : ℕ) → 0 < length o → i ≤ length o → distinct o ≡ true → place_of (pivot_at c o i) ≡ turn (place_at c o i)
unfolding place_of turn
pivot_at_turns = pivot_cases P first last middle
  where
    P : Vertex → List ℕ → ℕ → Type 0
    P c o i = distinct o ≡ true → place_of (pivot_at c o i) ≡ turn (place_at c o i)

    first : (c : Vertex) (a : ℕ) (o : List ℕ) → P c (a ∷ o) 0
    first c a o d = rw (pivot_first_lem c a o, place_first c a o, place_last (up a c) a o)

    last : (c : Vertex) (a : ℕ) (o : List ℕ) → P c (o ++ (a ∷ [])) (suc (length o))
    last c a o d = rw (pivot_last_lem c a o, place_last c a o, place_first (down a c) a o, up_down a c)

    middle : (c : Vertex) (o : List ℕ) (i : ℕ) → suc i < length o → P c o (suc i)
    middle c o i h d =
        rw (pivot_middle c o i (omega arith), place_behind c o i, place_behind c (exchange i o) i, masks_exchange 0 i o, side_exchange i o d h)

-- the neighbour's place is the same facet with the other side
pub pivot_turns : (n : ℕ) (t : Incidence) → 0 < n → Valid n t → place_of (pivot t) ≡ turn (place_of t)
unfolding pivot place_of
pivot_turns n t p w =
    pivot_at_turns t.corner t.order t.out
    (omega (arith, order_length n t.order w.order_is))
    (omega (arith, w.out_bound, order_length n t.order w.order_is))
    (order_distinct n t.order w.order_is)
