-- Vertices and lists of masks compared by the library are compared as the grid has it: both tests decide whether they are equal.
use Rattle.std.proofs.Common.{ℕ, ◌≡◌, sym, ap, ◌∙◌, arith, Bool, ◌&&◌, true, false, List, ℤ, get_or}
use Rattle.std.specs.Ordering.{int_eq}
use Rattle.std.specs.Cmp.Rules.{signed_items}
use Rattle.std.specs.Cmp.Lexicographic.{bytes_decides}
use Rattle.std.proofs.lemmas.Bool.{cases_Bool}
use Rattle.std.proofs.lemmas.Bool.Decides.{same_from_decides}
use Rattle.std.proofs.lemmas.List.{get_or-take}
use Rattle.std.proofs.Math.Logic.{⊎_elim}
use lib.Dec.{eqb}
use lib.Pointwise.{pointwise}
use Rattle.exact.specs.Int.{0ℤ}
use Rattle.curves.specs.Grid.{same_vertex, same_masks, same_facet}
use Rattle.curves.proofs.SameFacet.{same_vertex_sound, same_vertex_refl, same_masks_sound, same_masks_refl}
use Rattle.paper.specs.Operations.{on_same_facet}
use Rattle.paper.specs.declared.HeldPlace.{HeldPlace}
use Rattle.bits.specs.Axes.{Axes}
use Rattle.places.specs.Held.{vertex_as, masks_as, facet_as, place_as}

pub coordinates_compared : (v w : List ℤ) → pointwise int_eq v w ≡ same_vertex v w
coordinates_compared v w =
    same_from_decides (pointwise int_eq v w) (same_vertex v w) (signed_items v w)
    (same_vertex_sound v w, λ e. ap (same_vertex v) (sym e) ∙ same_vertex_refl v)

pub masks_compared : (l m : List ℕ) → pointwise eqb l m ≡ same_masks l m
masks_compared l m =
    same_from_decides (pointwise eqb l m) (same_masks l m) (bytes_decides l m)
    (same_masks_sound l m, λ e. ap (same_masks l) (sym e) ∙ same_masks_refl l)

-- ---- facets

module _ (n : ℕ) (p q : HeldPlace) where
  abbrev vertices : Bool
  vertices = pointwise int_eq (vertex_as n p.low) (vertex_as n q.low)

  -- vertices that differ on axis 1 differ
  same_first : Axes n → vertices ≡ true → get_or p.low.coordinates 0 0ℤ ≡ get_or q.low.coordinates 0 0ℤ
  unfolding vertex_as
  same_first a e =
      sym (get_or-take n p.low.coordinates 0 0ℤ (omega (arith, a.low)))
      ∙ ap (λ v. get_or v 0 0ℤ)
      (same_vertex_sound (vertex_as n p.low) (vertex_as n q.low) (sym (coordinates_compared (vertex_as n p.low) (vertex_as n q.low)) ∙ e))
      ∙ get_or-take n q.low.coordinates 0 0ℤ (omega (arith, a.low))

  pub first_differs : Axes n → (get_or p.low.coordinates 0 0ℤ ≡ get_or q.low.coordinates 0 0ℤ → ⊥) → vertices ≡ false
  first_differs a h = ⊎_elim (λ e. absurd (h (same_first a e))) (λ e. e) (cases_Bool vertices)

  facets_compared : on_same_facet (place_as n p) (place_as n q) ≡ (vertices && pointwise eqb (masks_as n p) (masks_as n q))
  unfolding on_same_facet same_facet place_as facet_as
  facets_compared = rw (coordinates_compared (vertex_as n p.low) (vertex_as n q.low), masks_compared (masks_as n p) (masks_as n q))

  pub vertices_differ : vertices ≡ false → false ≡ on_same_facet (place_as n p) (place_as n q)
  vertices_differ h = sym (facets_compared ∙ rw h)

  pub masks_decide : vertices ≡ true → pointwise eqb (masks_as n p) (masks_as n q) ≡ on_same_facet (place_as n p) (place_as n q)
  masks_decide h = sym (facets_compared ∙ rw h)
