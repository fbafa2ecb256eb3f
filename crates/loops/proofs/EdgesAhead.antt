-- What the numbers of a held place say of edges ahead in a row.
use Rattle.std.proofs.Common.{◌≡◌, ℕ, Bool, true, false, ◌&&◌, List, [], ◌∷◌, length, take, get_or, ℤ, eqb, refl, sym, ap, subst, ◌∙◌, ◌⊎◌, inl, inr, arith}
use Rattle.std.specs.Int.Signed.{le_z}
use Rattle.std.proofs.lemmas.Bool.Decides.{eqb_tells}
use mir.Syntax.{w64}
use mir.Val.{SFits, of_z, to_z}
use mir.ValLaws.{to_z-of_z}
use Rattle.exact.specs.Int.{0ℤ}
use Rattle.exact.proofs.Bits.{back}
use Rattle.exact.proofs.AndTests.{and-true}
use Rattle.curves.specs.Grid.{same_masks}
use Rattle.curves.proofs.SameFacet.{le_z_refl, le_z_antisym}
use Rattle.paper.specs.declared.Vertex.{Vertex}
use Rattle.paper.specs.declared.HeldPlace.{HeldPlace}
use Rattle.places.specs.Held.{vertex_as, masks_as, facet_as}
use Rattle.loops.specs.Past.{ahead_in_row, edge_ahead}

-- ---- two coordinates

first_two : (c : List ℤ) → length c ≡ 4 → take 2 c ≡ get_or c 0 0ℤ ∷ get_or c 1 0ℤ ∷ []
first_two [] h = absurd (omega arith)
first_two (x ∷ []) h = absurd (omega arith)
first_two (x ∷ y ∷ c) h = refl

pub plane_vertex : (v : Vertex) → length v.coordinates ≡ 4 → vertex_as 2 v ≡ get_or v.coordinates 0 0ℤ ∷ get_or v.coordinates 1 0ℤ ∷ []
unfolding vertex_as
plane_vertex v h = first_two v.coordinates h

-- ---- numbers compared by their bits

not_both : (p q : Bool) → (p ≡ true → q ≡ true → ⊥) → p && q ≡ false
not_both true true h = absurd (h refl refl)
not_both true false h = refl
not_both false q h = refl

same_bits : (x y : ℤ) → SFits w64 x → SFits w64 y → eqb (of_z w64 x) (of_z w64 y) ≡ (le_z x y && le_z y x)
same_bits x y f g = by_test (eqb_tells (of_z w64 x) (of_z w64 y))
  where
    by_test : ((eqb (of_z w64 x) (of_z w64 y) ≡ true) × (of_z w64 x ≡ of_z w64 y)) ⊎ ((eqb (of_z w64 x) (of_z w64 y) ≡ false) × (of_z w64 x ≡ of_z w64 y → ⊥))
        → eqb (of_z w64 x) (of_z w64 y) ≡ (le_z x y && le_z y x)
    by_test (inl e) =
        let is : x ≡ y = sym (to_z-of_z w64 x f) ∙ ap (to_z w64) e.1 ∙ to_z-of_z w64 y g in
        e.0 ∙ sym (subst (λ z. le_z x z && le_z z x ≡ true) is (and-true (le_z_refl x) (le_z_refl x)))
    by_test (inr e) = e.0 ∙ sym (not_both (le_z x y) (le_z y x) (λ h k. e.1 (ap (of_z w64) (le_z_antisym x y h k))))

module _ (v w : Vertex) (four : length v.coordinates ≡ 4) (also : length w.coordinates ≡ 4) where
  abbrev x : ℤ
  x = get_or v.coordinates 0 0ℤ

  abbrev y : ℤ
  y = get_or v.coordinates 1 0ℤ

  abbrev a : ℤ
  a = get_or w.coordinates 0 0ℤ

  abbrev b : ℤ
  b = get_or w.coordinates 1 0ℤ

  in_row : ahead_in_row (vertex_as 2 v) (vertex_as 2 w) ≡ (le_z x a && (le_z y b && le_z b y))
  unfolding ahead_in_row
  in_row = rw (plane_vertex v four, plane_vertex w also)

  module _ (f : SFits w64 x) (g : SFits w64 a) where
    low_end : le_z (back x) (back a) ≡ le_z x a
    low_end = λ i. le_z (to_z-of_z w64 x f i) (to_z-of_z w64 a g i)

    pub row_behind : le_z (back x) (back a) ≡ false → false ≡ ahead_in_row (vertex_as 2 v) (vertex_as 2 w)
    row_behind h = rw (in_row, ← low_end, h)

    pub row_compared : le_z (back x) (back a) ≡ true → SFits w64 y → SFits w64 b → eqb (of_z w64 y) (of_z w64 b) ≡ ahead_in_row (vertex_as 2 v) (vertex_as 2 w)
    row_compared h k l = rw (in_row, ← low_end, h) (same_bits y b k l)

-- ---- an edge

first_mask : (m : List ℕ) → length m ≡ 3 → take 1 m ≡ get_or m 0 0 ∷ []
first_mask [] h = absurd (omega arith)
first_mask (k ∷ m) h = refl

module _ (here : HeldPlace) (low : Vertex) (three : length here.masks ≡ 3) where
  plane_edge : edge_ahead (vertex_as 2 low) (facet_as 2 here)
      ≡ (same_masks (get_or here.masks 0 0 ∷ []) (1 ∷ []) && ahead_in_row (vertex_as 2 low) (vertex_as 2 here.low))
  unfolding edge_ahead facet_as masks_as
  plane_edge = ap (λ m. same_masks m (1 ∷ []) && ahead_in_row (vertex_as 2 low) (vertex_as 2 here.low)) (first_mask here.masks three)

  -- another mask
  pub edge_other : eqb (get_or here.masks 0 0) 1 ≡ false → eqb (get_or here.masks 0 0) 1 ≡ edge_ahead (vertex_as 2 low) (facet_as 2 here)
  unfolding same_masks
  edge_other h = h ∙ sym (plane_edge ∙ rw h)

  -- mask 1: the row decides
  pub edge_row : {r : Bool} → get_or here.masks 0 0 ≡ 1 → r ≡ ahead_in_row (vertex_as 2 low) (vertex_as 2 here.low)
      → r ≡ edge_ahead (vertex_as 2 low) (facet_as 2 here)
  unfolding same_masks
  edge_row h e = e ∙ sym (plane_edge ∙ rw h)
