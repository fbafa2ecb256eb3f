-- The search of the table is right and never in vain: what matches is the simplex on the place's side (`found`), and for a well-formed
-- place some row and vertex match (`some_match`), since every order is a row.
use Prim.Native.Nat.{ℕ, suc, ◌-◌, ◌≤◌, ◌<◌}
use mathlib.Core.Path.{◌≡◌, refl, sym, ap, ap₂, subst, ◌∙◌}
use mathlib.Core.Bool.{Bool, true, false, ◌&&◌, ◌||◌, false≢true}
use mathlib.Core.List.Memᴰ
use mathlib.Core.List.{List, [], ◌∷◌}
use mathlib.Core.Logic.{⊎_elim}
use native.Mathlib.Omega.{arith}
use lib.ListN.{length, get_or, take}
use lib.Dec.{eqb, leb}
use borrow.Author.Tests.{eqb-true, eq-eqb}
use Rattle.exact.proofs.AndTests.{and_left, and_right, and-true}
use Rattle.curves.specs.Grid.{Place, Incidence, place_at, place_of, place_ok, incidence, same_masks, orders}
use Rattle.curves.specs.Curve.{◌∈◌}
use Rattle.curves.proofs.SameFacet.{same_masks_sound, same_masks_complete}
use Rattle.curves.proofs.IncidencePlace.{incidence_place}
use Rattle.curves.proofs.IncidenceOf.{Valid, incidence_ok, place_incidence}
use Rattle.curves.proofs.Orders.{orders_complete}
use Rattle.paper.specs.Limits.{dimension_ok}
use Rattle.paper.specs.Job.{all_from}
use Rattle.bits.specs.Axes.{Axes}
use Rattle.bits.proofs.EachDimension.{each_axes}
use Rattle.paper.proofs.Tests.{dimension_range}
use Rattle.paper.specs.declared.HeldPlace.{HeldPlace}
use lib.Pointwise.{pointwise}
use Rattle.places.proofs.SameNumbers.{masks_compared}
use Rattle.places.specs.Held.{masks_as, facet_as, place_as}
use Rattle.table.specs.Table.{order_at, InTable}
use Rattle.sides.specs.Facets.{masks_at, side_at, facet_masks}
use Rattle.sides.specs.Corners.{corner_under, low_over}
use Rattle.table.proofs.TableRows.{row_order_lem}
use Rattle.sides.proofs.FacetMasks.{masks_are}
use Rattle.sides.proofs.Anywhere.{placed, place_anywhere, low_corner}
use Rattle.simplices.specs.Search.{matches, Found}

-- ---- the masks, and then the side

-- three masks compared one after the other, of which the first n - 1 count
three_compared : (a b c d e f n : ℕ) → Axes n
    → all_from (λ k. leb (n - 1) k || eqb (get_or (a ∷ b ∷ c ∷ []) k 0) (get_or (d ∷ e ∷ f ∷ []) k 0)) 0 3
    ≡ same_masks (take (n - 1) (a ∷ b ∷ c ∷ [])) (take (n - 1) (d ∷ e ∷ f ∷ []))
unfolding all_from same_masks
three_compared a b c d e f n h =
    each_axes
    (λ n.
    all_from (λ k. leb (n - 1) k || eqb (get_or (a ∷ b ∷ c ∷ []) k 0) (get_or (d ∷ e ∷ f ∷ []) k 0)) 0 3
    ≡ same_masks (take (n - 1) (a ∷ b ∷ c ∷ [])) (take (n - 1) (d ∷ e ∷ f ∷ [])))
    refl refl refl n h

-- a list of three by its members
three : (xs : List ℕ) → length xs ≡ 3 → get_or xs 0 0 ∷ get_or xs 1 0 ∷ get_or xs 2 0 ∷ [] ≡ xs
three [] e = absurd (omega arith)
three (a ∷ []) e = absurd (omega arith)
three (a ∷ b ∷ []) e = absurd (omega arith)
three (a ∷ b ∷ c ∷ []) e = refl
three (a ∷ b ∷ c ∷ d ∷ l) e = absurd (omega arith)

three_tested : (n : ℕ) → Axes n → (xs ys : List ℕ) → length xs ≡ 3 → length ys ≡ 3
    → all_from (λ k. leb (n - 1) k || eqb (get_or xs k 0) (get_or ys k 0)) 0 3 ≡ same_masks (take (n - 1) xs) (take (n - 1) ys)
three_tested n h xs ys c d =
    subst (λ zs. all_from (λ k. leb (n - 1) k || eqb (get_or zs k 0) (get_or ys k 0)) 0 3 ≡ same_masks (take (n - 1) zs) (take (n - 1) ys)) (three xs c)
    (subst
    (λ zs.
    all_from (λ k. leb (n - 1) k || eqb (get_or (get_or xs 0 0 ∷ get_or xs 1 0 ∷ get_or xs 2 0 ∷ []) k 0) (get_or zs k 0)) 0 3
    ≡ same_masks (take (n - 1) (get_or xs 0 0 ∷ get_or xs 1 0 ∷ get_or xs 2 0 ∷ [])) (take (n - 1) zs))
    (three ys d) (three_compared _ _ _ _ _ _ n h))

-- the masks that count, as the table has them
module _ {n row out : ℕ} (p : HeldPlace) (h : InTable n row) (l : out ≤ n) {masks : List ℕ} (e : masks ≡ facet_masks n row out) where
  read : take (n - 1) masks ≡ masks_at n row out
  read = ap (take (n - 1)) e ∙ sym (masks_are n row out h l)

  -- compared as lists
  pub masks_decide : pointwise eqb (take (n - 1) masks) (masks_as n p) ≡ same_masks (masks_at n row out) (masks_as n p)
  masks_decide = masks_compared (take (n - 1) masks) (masks_as n p) ∙ ap (λ ms. same_masks ms (masks_as n p)) read

  -- the code tests three masks, and those from n - 1 on pass
  abbrev test : ℕ → Bool
  test k = leb (n - 1) k || eqb (get_or masks k 0) (get_or p.masks k 0)

  pub masks_tested : length masks ≡ 3 → length p.masks ≡ 3 → all_from test 0 3 ≡ same_masks (masks_at n row out) (masks_as n p)
  unfolding masks_as
  masks_tested c d = three_tested n h.axes masks p.masks c d ∙ ap (λ ms. same_masks ms (masks_as n p)) read

module _
    (n row out : ℕ) (p : HeldPlace) {same : Bool} (is_same : same ≡ same_masks (masks_at n row out) (masks_as n p)) where
  pub matches_by_side : same ≡ true → {s : ℕ} → s ≡ side_at n row out → eqb s p.side ≡ matches n row out (place_as n p)
  unfolding matches place_as facet_as
  matches_by_side t e = ap (λ s. eqb s p.side) e ∙ ap (λ t. t && eqb (side_at n row out) p.side) (sym t ∙ is_same)

  pub other_masks : same ≡ false → false ≡ matches n row out (place_as n p)
  unfolding matches place_as facet_as
  other_masks f = ap (λ t. t && eqb (side_at n row out) p.side) (sym f ∙ is_same)

-- ---- what matches is right

module _ (n row out : ℕ) (p : Place) where
  matches_masks : matches n row out p ≡ true → masks_at n row out ≡ p.facet.masks
  unfolding matches
  matches_masks e =
      same_masks_sound (masks_at n row out) p.facet.masks
      (and_left (same_masks (masks_at n row out) p.facet.masks) (eqb (side_at n row out) p.side) e)

  matches_side : matches n row out p ≡ true → side_at n row out ≡ p.side
  unfolding matches
  matches_side e =
      eqb-true (side_at n row out) p.side
      (and_right (same_masks (masks_at n row out) p.facet.masks) (eqb (side_at n row out) p.side) e)

  matches_of : masks_at n row out ≡ p.facet.masks → side_at n row out ≡ p.side → matches n row out p ≡ true
  unfolding matches
  matches_of e s = and-true (same_masks_complete (masks_at n row out) p.facet.masks e) (eq-eqb (side_at n row out) p.side s)

  -- the place is that of the simplex under its lowest vertex
  place_is : matches n row out p ≡ true → place_at (corner_under p.facet.low (order_at n row) out) (order_at n row) out ≡ p
  unfolding masks_at side_at
  place_is e =
      place_anywhere (corner_under p.facet.low (order_at n row) out) (order_at n row) out
      ∙ ap (λ v. placed v (masks_at n row out) (side_at n row out)) (low_corner p.facet.low (order_at n row) out)
      ∙ ap₂ (placed p.facet.low) (matches_masks e) (matches_side e)

  pub found : InTable n row → out ≤ n → matches n row out p ≡ true → Found n p row out
  found h l e =
      record {
        table = h;
        vertex = l;
        is =
            ap (incidence n) (sym (place_is e))
            ∙ incidence_place n (corner_under p.facet.low (order_at n row) out) (order_at n row) out (omega (arith, h.axes.low)) (row_order_lem n row h) l;
      }

-- ---- something matches

-- a member of a list stands at an index
listed_at : (x : List ℕ) (l : List (List ℕ)) → x ∈ l → (k : ℕ) × (k < length l) × (get_or l k [] ≡ x)
listed_at x [] m = absurd (Memᴰ.not-nil m)
listed_at x (y ∷ l) m = ⊎_elim (λ e. (0, omega arith, sym e)) (λ r. go (listed_at x l r)) (Memᴰ.cases_cons m)
  where
    go : (k : ℕ) × (k < length l) × (get_or l k [] ≡ x) → (k : ℕ) × (k < suc (length l)) × (get_or (y ∷ l) k [] ≡ x)
    go (k, b, e) = (suc k, omega arith, e)

module _ (n : ℕ) (d : dimension_ok n ≡ true) (p : Place) (w : place_ok n p ≡ true) where
  simplex : Incidence
  simplex = incidence n p

  valid : Valid n simplex
  unfolding simplex
  valid = incidence_ok n p w

  its_place :
      placed (low_over simplex.corner simplex.order simplex.out) (place_at [] simplex.order simplex.out).facet.masks
      (place_at [] simplex.order simplex.out).side
      ≡ p
  unfolding simplex place_of
  its_place = sym (place_anywhere simplex.corner simplex.order simplex.out) ∙ place_incidence n p w

  pub some_match : ((row : ℕ) → row < length (orders n) → (out : ℕ) → out ≤ n → matches n row out p ≡ false) → ⊥
  unfolding masks_at side_at order_at
  some_match none =
      let range = dimension_range n d in
      let (row, b, e) = listed_at simplex.order (orders n) (orders_complete n range.low range.high simplex.order valid.order_is) in
      false≢true
      (sym (none row b simplex.out valid.out_bound)
      ∙ matches_of n row simplex.out p
      (ap (λ o. (place_at [] o simplex.out).facet.masks) e ∙ ap (λ q. q.facet.masks) its_place)
      (ap (λ o. (place_at [] o simplex.out).side) e ∙ ap (λ q. q.side) its_place))
