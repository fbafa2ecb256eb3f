-- The place of a simplex without one vertex is well-formed (`place_ok_lem`).
use Prim.Native.Nat.{ℕ, suc, zero, ◌+◌, ◌^◌, ◌≤◌, ◌<◌}
use mathlib.Core.Path.{◌≡◌, refl, ap, ◌∙◌}
use mathlib.Core.Bool.{Bool, true, false, cond}
use mathlib.Core.List.{List, [], ◌∷◌}
use native.Mathlib.Omega.{arith}
use lib.ListN.{length}
use lib.Dec.{ltb}
use lib.Pow.{pow_pos}
use borrow.Author.Tests.{eq-eqb, lt-ltb}
use Rattle.exact.proofs.AndTests.{and-true}
use Rattle.exact.specs.Crossed.{remove}
use Rattle.exact.proofs.Position.{length_remove}
use Rattle.curves.specs.Grid.{Vertex, up, chain, masks_from, side_of, place_at, is_order, facet_ok, place_ok}
use Rattle.curves.proofs.OrderTests.{order_length}
use Rattle.curves.proofs.Vertices.{length_up}
use Rattle.curves.proofs.MaskOrder.{Fresh, next, order_fresh, fresh_zero}
use Rattle.curves.proofs.MaskChain.{fresh_chain, chain_remove}
use Rattle.curves.proofs.IncidencePlace.{place}

-- ---- lengths

pub length_masks : (m : ℕ) (o : List ℕ) → length (masks_from m o) ≡ length o
unfolding masks_from
length_masks m [] = refl
length_masks m (a ∷ o) = ap suc (length_masks (m + 2 ^ a) o)

-- ---- sides

pub side_of_under : (i : ℕ) (o : List ℕ) → side_of i o < 2
unfolding side_of
side_of_under i [] = omega arith
side_of_under zero (a ∷ []) = omega arith
side_of_under zero (a ∷ b ∷ o) = go (ltb a b)
  where
    go : (t : Bool) → cond t 0 1 < 2
    go true = omega arith
    go false = omega arith
side_of_under (suc i) (a ∷ o) = side_of_under i o

-- ---- the place

pub place_form : (n : ℕ) (c : Vertex) (ms : List ℕ) (s : ℕ) → length c ≡ n → suc (length ms) ≡ n → chain n 0 ms ≡ true → s < 2
    → place_ok n (place c ms s) ≡ true
unfolding place_ok facet_ok
place_form n c ms s p q h l = and-true (and-true (eq-eqb (length c) n p) (and-true (eq-eqb (suc (length ms)) n q) h)) (lt-ltb s 2 l)

pub place_ok_lem : (n : ℕ) (c : Vertex) (o : List ℕ) (i : ℕ) → 0 < n → is_order n o ≡ true → length c ≡ n → i ≤ n
    → place_ok n (place_at c o i) ≡ true
unfolding place_at
place_ok_lem n c [] i p h e l = absurd (omega (arith, order_length n [] h))
place_ok_lem n c (a ∷ o) zero p h e l = go (order_fresh n (a ∷ o) h)
  where
    go : Fresh n 0 (a ∷ o) → place_ok n (place_at c (a ∷ o) zero) ≡ true
    go (next k z r) =
        place_form n (up a c) (masks_from 0 o) 1 (length_up a c ∙ e) (ap suc (length_masks 0 o) ∙ order_length n (a ∷ o) h)
        (fresh_chain (pow_pos n) (fresh_zero r)) (omega arith)
place_ok_lem n c (a ∷ o) (suc i) p h e l =
    let size : length (masks_from 0 (a ∷ o)) ≡ n = length_masks 0 (a ∷ o) ∙ order_length n (a ∷ o) h in
    place_form n c (remove i (masks_from 0 (a ∷ o))) (side_of i (a ∷ o)) e
    (length_remove i (masks_from 0 (a ∷ o)) (omega arith) ∙ size)
    (chain_remove n i 0 (masks_from 0 (a ∷ o)) (pow_pos n) (fresh_chain (pow_pos n) (order_fresh n (a ∷ o) h)))
    (side_of_under i (a ∷ o))
