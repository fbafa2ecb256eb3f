-- The tests `same_vertex`, `same_masks` and `same_facet` are true exactly of equals; facets have decidable equality.
-- A place turned twice is the place, and turned once it is another.
use Prim.Native.Nat.{ℕ, ◌<◌}
use mathlib.Core.Path.{◌≡◌, refl, sym, ap, ◌∙◌}
use mathlib.Core.Bool.{Bool, true, false, ◌&&◌, false≢true}
use mathlib.Core.List.{List, [], ◌∷◌}
use mathlib.Core.Logic.{◌⊎◌, inl, inr}
use native.Mathlib.Omega.{arith}
use lib.IntN.{ℤ, pos, negsuc}
use lib.Dec.{eqb}
use lib.Signed.{le_z}
use borrow.Author.Tests.{leb-true, le-leb, eqb-true, eqb-false, eq-eqb}
use Rattle.exact.proofs.AndTests.{and_left, and_right, and-true}
use Rattle.curves.specs.Grid.{Vertex, Facet, Place, same_vertex, same_masks, same_facet, turn}

-- ---- whole numbers
pub le_z_refl : (x : ℤ) → le_z x x ≡ true
le_z_refl (pos a) = le-leb a a (omega arith)
le_z_refl (negsuc a) = le-leb a a (omega arith)

pub le_z_antisym : (x y : ℤ) → le_z x y ≡ true → le_z y x ≡ true → x ≡ y
le_z_antisym (pos a) (pos b) p q = ap pos (omega (arith, leb-true a b p, leb-true b a q))
le_z_antisym (pos a) (negsuc b) p q = absurd (false≢true p)
le_z_antisym (negsuc a) (pos b) p q = absurd (false≢true q)
le_z_antisym (negsuc a) (negsuc b) p q = ap negsuc (omega (arith, leb-true b a p, leb-true a b q))

-- ---- the tests
pub same_vertex_sound : (v w : Vertex) → same_vertex v w ≡ true → v ≡ w
unfolding same_vertex
same_vertex_sound [] [] e = refl
same_vertex_sound [] (y ∷ w) e = absurd (false≢true e)
same_vertex_sound (x ∷ v) [] e = absurd (false≢true e)
same_vertex_sound (x ∷ v) (y ∷ w) e =
    let r : le_z y x && same_vertex v w ≡ true = and_right (le_z x y) (le_z y x && same_vertex v w) e in
    let q : x ≡ y = le_z_antisym x y (and_left (le_z x y) (le_z y x && same_vertex v w) e) (and_left (le_z y x) (same_vertex v w) r) in
    let t : v ≡ w = same_vertex_sound v w (and_right (le_z y x) (same_vertex v w) r) in
    rw (q, t)

pub same_vertex_refl : (v : Vertex) → same_vertex v v ≡ true
unfolding same_vertex
same_vertex_refl [] = refl
same_vertex_refl (x ∷ v) = rw (le_z_refl x) (same_vertex_refl v)

pub same_masks_sound : (l m : List ℕ) → same_masks l m ≡ true → l ≡ m
unfolding same_masks
same_masks_sound [] [] e = refl
same_masks_sound [] (y ∷ w) e = absurd (false≢true e)
same_masks_sound (x ∷ v) [] e = absurd (false≢true e)
same_masks_sound (x ∷ v) (y ∷ w) e =
    let q : x ≡ y = eqb-true x y (and_left (eqb x y) (same_masks v w) e) in
    let t : v ≡ w = same_masks_sound v w (and_right (eqb x y) (same_masks v w) e) in
    rw (q, t)

pub same_masks_refl : (m : List ℕ) → same_masks m m ≡ true
unfolding same_masks
same_masks_refl [] = refl
same_masks_refl (x ∷ m) = rw (eq-eqb x x refl) (same_masks_refl m)

-- facets with equal lowest vertices and masks are equal
pub facet_path : (f g : Facet) → f.low ≡ g.low → f.masks ≡ g.masks → f ≡ g
facet_path f g p q = λ i. record { low = p i; masks = q i }

pub same_facet_sound : (f g : Facet) → same_facet f g ≡ true → f ≡ g
unfolding same_facet
same_facet_sound f g e =
    facet_path f g
    (same_vertex_sound f.low g.low (and_left (same_vertex f.low g.low) (same_masks f.masks g.masks) e))
    (same_masks_sound f.masks g.masks (and_right (same_vertex f.low g.low) (same_masks f.masks g.masks) e))

pub same_facet_complete : (f g : Facet) → f ≡ g → same_facet f g ≡ true
unfolding same_facet
same_facet_complete f g e = rw (← e) (and-true (same_vertex_refl f.low) (same_masks_refl f.masks))

pub same_masks_complete : (l m : List ℕ) → l ≡ m → same_masks l m ≡ true
same_masks_complete l m e = rw (← e) (same_masks_refl l)

-- a test that fails tells two facets apart
pub same_facet_apart : (f g : Facet) → same_facet f g ≡ false → f ≡ g → ⊥
same_facet_apart f g e q = false≢true (sym e ∙ same_facet_complete f g q)

-- ---- turned places

-- places with equal facets and sides are equal
pub place_path : (p q : Place) → p.facet ≡ q.facet → p.side ≡ q.side → p ≡ q
place_path p q e s = λ i. record { facet = e i; side = s i }

pub turn_turn : (p : Place) → p.side < 2 → turn (turn p) ≡ p
unfolding turn
turn_turn p h = place_path (turn (turn p)) p refl (omega arith)

pub turn_moves : (p : Place) → p.side < 2 → turn p ≡ p → ⊥
unfolding turn
turn_moves p h e = omega (arith, ap (λ q. q.side) e)

pub turn_facet : (p : Place) → (turn p).facet ≡ p.facet
unfolding turn
turn_facet p = refl

-- two places of one facet are equal or turned
pub same_facet_places : (p q : Place) → p.side < 2 → q.side < 2 → p.facet ≡ q.facet → (p ≡ q) ⊎ (p ≡ turn q)
unfolding turn
same_facet_places p q h k e = go (eqb p.side q.side) refl
  where
    go : (t : Bool) → eqb p.side q.side ≡ t → (p ≡ q) ⊎ (p ≡ turn q)
    go true s = inl (place_path p q e (eqb-true p.side q.side s))
    go false s = inr (place_path p (turn q) e (omega (arith, eqb-false p.side q.side s)))
