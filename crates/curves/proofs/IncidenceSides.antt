-- The facets of one simplex differ (`facet_out`), and the simplices on which a facet lies are just the two of its sides
-- (`side_facet`, `sides_differ`, `facet_sides`).
use Prim.Native.Nat.{ℕ, suc, zero, ◌+◌, ◌^◌, ◌≤◌, ◌<◌}
use mathlib.Core.Path.{◌≡◌, refl, sym, ap, ap₂, ◌∙◌}
use mathlib.Core.Bool.{true}
use mathlib.Core.Logic.{◌⊎◌, inl, inr}
use mathlib.Core.List.{List, [], ◌∷◌}
use native.Mathlib.Nat.{not-suc-le-zero}
use native.Mathlib.Omega.{arith}
use lib.IntN.{ℤ}
use lib.ListN.{length}
use lib.Pow.{pow_pos}
use borrow.Author.Tests.{lt-ltb}
use Rattle.exact.proofs.AndTests.{and-true}
use Rattle.exact.specs.Int.{◌⊕◌, neg, 0ℤ, 1ℤ}
use Rattle.exact.proofs.Ring.{add_assoc, zero-add, neg_add}
use Rattle.exact.specs.Crossed.{remove}
use Rattle.curves.specs.Grid.{Vertex, Facet, Place, Incidence, up, masks_from, place_at, place_of, incidence, is_order, facet_ok, place_ok}
use Rattle.curves.proofs.OrderTests.{order_length}
use Rattle.curves.proofs.MaskOrder.{Fresh, next, order_fresh}
use Rattle.curves.proofs.IncidenceOf.{place_formed, place_incidence, Valid, incidence_ok, incidence_of_place, place_of_ok}

-- ---- the facets of one simplex

order_head : (n a : ℕ) (o : List ℕ) (c : Vertex) → is_order n (a ∷ o) ≡ true → length c ≡ n → a < length c
order_head n a o c h e = go (order_fresh n (a ∷ o) h)
  where
    go : Fresh n 0 (a ∷ o) → a < length c
    go (next l z r) = omega arith

-- a sum with 1 is another number
add_one_changes : (x : ℤ) → ¬ (x ⊕ 1ℤ ≡ x)
add_one_changes x e =
    let same : 1ℤ ≡ 0ℤ
    = sym (zero-add 1ℤ) ∙ ap (λ (y : ℤ). y ⊕ 1ℤ) (sym (neg_add x)) ∙ add_assoc (neg x) x 1ℤ
    ∙ ap (λ (y : ℤ). neg x ⊕ y) e ∙ neg_add x in
    let z : ◌≡◌ {A = ℕ} 0 1 = cc in
    omega arith

pub up_changes : (a : ℕ) (v : Vertex) → a < length v → ¬ (up a v ≡ v)
unfolding up
up_changes a [] l e = absurd (not-suc-le-zero l)
up_changes zero (x ∷ v) l e = add_one_changes x (cc)
up_changes (suc a) (x ∷ v) l e = up_changes a v (omega arith) (cc)

remove_out : (m : ℕ) (o : List ℕ) (i j : ℕ) → i < length o → j < length o → remove i (masks_from m o) ≡ remove j (masks_from m o) → i ≡ j
unfolding remove masks_from
remove_out m [] i j l k e = absurd (not-suc-le-zero l)
remove_out m (a ∷ o) zero zero l k e = refl
remove_out m (a ∷ []) zero (suc j) l k e = absurd (omega arith)
remove_out m (a ∷ b ∷ o) zero (suc j) l k e =
    let q : m + 2 ^ a + 2 ^ b ≡ m + 2 ^ a = cc in
    absurd (omega (arith, pow_pos b))
remove_out m (a ∷ []) (suc i) zero l k e = absurd (omega arith)
remove_out m (a ∷ b ∷ o) (suc i) zero l k e =
    let q : m + 2 ^ a + 2 ^ b ≡ m + 2 ^ a = cc in
    absurd (omega (arith, pow_pos b))
remove_out m (a ∷ o) (suc i) (suc j) l k e = ap suc (remove_out (m + 2 ^ a) o i j (omega arith) (omega arith) (cc))

-- the facet tells which vertex is left out
pub facet_out : (n : ℕ) (c : Vertex) (o : List ℕ) (i j : ℕ) → 0 < n → is_order n o ≡ true → length c ≡ n → i ≤ n → j ≤ n
    → (place_at c o i).facet ≡ (place_at c o j).facet → i ≡ j
unfolding place_at
facet_out n c [] i j p h e l k q = absurd (omega (arith, order_length n [] h))
facet_out n c (a ∷ o) zero zero p h e l k q = refl
facet_out n c (a ∷ o) zero (suc j) p h e l k q =
    absurd (up_changes a c (order_head n a o c h e) (ap (λ (f : Facet). f.low) q))
facet_out n c (a ∷ o) (suc i) zero p h e l k q =
    absurd (up_changes a c (order_head n a o c h e) (ap (λ (f : Facet). f.low) (sym q)))
facet_out n c (a ∷ o) (suc i) (suc j) p h e l k q =
    ap suc
    (remove_out 0 (a ∷ o) i j (omega (arith, order_length n (a ∷ o) h)) (omega (arith, order_length n (a ∷ o) h))
    (ap (λ (f : Facet). f.masks) q))

-- ---- the simplices of one facet

-- the place of a facet with a side
abbrev pub sided : Facet → ℕ → Place
sided f s = record { facet = f; side = s }

pub sided_ok : (n : ℕ) (f : Facet) (s : ℕ) → facet_ok n f ≡ true → s < 2 → place_ok n (sided f s) ≡ true
unfolding place_ok
sided_ok n f s h l = and-true h (lt-ltb s 2 l)

-- the simplex on each side of a well-formed facet has that facet
pub side_facet : (n : ℕ) (f : Facet) (s : ℕ) → facet_ok n f ≡ true → s < 2
    → Valid n (incidence n (sided f s)) × ((place_of (incidence n (sided f s))).facet ≡ f)
side_facet n f s h l = (
  incidence_ok n (sided f s) (sided_ok n f s h l),
  ap (λ (p : Place). p.facet) (place_incidence n (sided f s) (sided_ok n f s h l)),
)

-- the two differ
pub sides_differ : (n : ℕ) (f : Facet) → facet_ok n f ≡ true → ¬ (incidence n (sided f 0) ≡ incidence n (sided f 1))
sides_differ n f h e =
    let q : sided f 0 ≡ sided f 1
    = sym (place_incidence n (sided f 0) (sided_ok n f 0 h (omega arith))) ∙ ap place_of e
    ∙ place_incidence n (sided f 1) (sided_ok n f 1 h (omega arith)) in
    let z : ◌≡◌ {A = ℕ} 0 1 = ap (λ (p : Place). p.side) q in
    omega arith

-- there is no other
pub facet_sides : (n : ℕ) (t : Incidence) (f : Facet) → 0 < n → Valid n t → (place_of t).facet ≡ f
    → (t ≡ incidence n (sided f 0)) ⊎ (t ≡ incidence n (sided f 1))
facet_sides n t f p v e = go (place_of t).side refl
  where
    here : t ≡ incidence n (place_of t)
    here = sym (incidence_of_place n t p v)

    go : (s : ℕ) → (place_of t).side ≡ s → (t ≡ incidence n (sided f 0)) ⊎ (t ≡ incidence n (sided f 1))
    go zero q = inl (here ∙ ap (incidence n) (ap₂ sided e q))
    go (suc zero) q = inr (here ∙ ap (incidence n) (ap₂ sided e q))
    go (suc (suc s)) q = absurd (omega (arith, (place_formed n (place_of t) (place_of_ok n t p v)).side_under))
