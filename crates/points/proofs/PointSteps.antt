-- What `point` asks of `coordinate` and what it gets, for the cells of a crossed facet; and the definition's point, axis by axis.
use Prim.Native.Nat.{ℕ, suc, zero, ◌+◌, ◌<◌}
use mathlib.Core.Path.{◌≡◌, refl, sym, ap, ap₂, ◌∙◌, subst}
use mathlib.Core.Bool.{Bool, true, false}
use mathlib.Core.List.{List, [], ◌∷◌}
use native.Mathlib.Omega.{arith}
use native.Mathlib.Nat.{le_refl}
use lib.IntN.{ℤ}
use lib.Dec.{lit≤, eqb, ltb}
use lib.ListN.{length, get_or, set, take, length-set}
use lib.Seq.{get_or-set_same, get_or-set_other}
use borrow.Author.Tests.{eqb-true, eqb-false, ltb-true, ltb-false}
use Rattle.exact.specs.Int.{0ℤ}
use Rattle.exact.specs.Size.{Size, Is}
use Rattle.exact.specs.Det.{Column, determinant}
use Rattle.exact.specs.Crossed.{crossed}
use Rattle.exact.proofs.SizeLaws.{size_weaken}
use Rattle.exact.proofs.Bits.{back, back_is, back_size, holds_call}
use Rattle.paper.specs.Values.{weight_sum, coordinate_steps, point_from}
use Rattle.paper.specs.Answers.{padded}
use Rattle.bits.specs.Axes.{Axes}
use Rattle.bits.proofs.EachDimension.{each_axes}
use Rattle.paper.specs.declared.Vertex.{Vertex}
use Rattle.paper.specs.declared.HeldPlace.{HeldPlace}
use Rattle.places.specs.Held.{counted, vertex_as, masks_as}
use Rattle.places.proofs.PlaceStored.{masks_length}
use Rattle.places.proofs.Counted.{number_counts, number_absent}
use Rattle.determinants.specs.Cells.{Cells, facet_columns}
use Rattle.determinants.specs.Entries.{determinant_limit}
use Rattle.determinants.proofs.FacetMinors.{facet_length, facet_ones}
use Rattle.points.specs.Shares.{Share, denominator_limit, low_limit}
use Rattle.points.proofs.Rounded.{coordinate_size}
use Rattle.points.proofs.Shares.{crossed_share}

-- ---- an axis
module _ {n : ℕ} {cells : List ℤ} (h : Cells n cells) (x : crossed n (facet_columns n cells n) ≡ true) (p : HeldPlace) (three : length p.masks ≡ 3) (axis : ℕ) where
  abbrev D : ℤ
  D = determinant n (facet_columns n cells n)

  abbrev W : ℤ
  W = weight_sum n (facet_columns n cells n) 1 (masks_as n p) axis

  share : Share W D
  share =
      crossed_share n (facet_columns n cells n) (omega (arith, h.axes.low)) (facet_length n cells n (le_refl n))
      (facet_ones n cells n (le_refl n)) x (masks_as n p) (masks_length p n h.axes three) axis

  module _ {low d w : ℤ} (s : Size low_limit low) (ed : Is determinant_limit D d) (ew : Is determinant_limit W w) where
    d_back : back d ≡ D
    d_back = (holds_call ed (lit≤ tt)).is

    w_back : back w ≡ W
    w_back = (holds_call ew (lit≤ tt)).is

    D-size : Size denominator_limit D
    D-size = size_weaken ed.size (lit≤ tt)

    pub asks : (Size low_limit (back low)) × ((Size denominator_limit (back d)) × (Share (back w) (back d)))
    asks =
        let held : Share W (back d) = subst (λ z. Share W z) (sym d_back) share in
        (back_size s (lit≤ tt), (subst (Size denominator_limit) (sym d_back) D-size, subst (λ z. Share z (back d)) (sym w_back) held))

    pub gives : {q : ℤ} → q ≡ coordinate_steps (back low) (back w) (back d) → back q ≡ coordinate_steps low W D
    gives {q} e =
        (holds_call
        (record {
          is = e ∙ ap₂ (λ a b. coordinate_steps (back low) a b) w_back d_back ∙ ap (λ a. coordinate_steps a W D) (back_is s (lit≤ tt));
          size = coordinate_size (s, (D-size, share));
        })
        (lit≤ tt)).is

-- ---- the point
-- the coordinates of the axes before `axis` are those of the definition's point, the others 0
pub record PointBefore (n : ℕ) (cs : List Column) (ms : List ℕ) (v : Vertex) (axis : ℕ) (steps : List ℤ) : Type 0 where
  pub count : length steps ≡ 4
  pub each :
      (k : ℕ) → k < 4
      → get_or steps k 0ℤ ≡ counted 0ℤ axis k (coordinate_steps (get_or v.coordinates k 0ℤ) (weight_sum n cs 1 ms k) (determinant n cs))

four_zeros : (k : ℕ) → get_or (0ℤ ∷ 0ℤ ∷ 0ℤ ∷ 0ℤ ∷ []) k 0ℤ ≡ 0ℤ
four_zeros zero = refl
four_zeros (suc zero) = refl
four_zeros (suc (suc zero)) = refl
four_zeros (suc (suc (suc zero))) = refl
four_zeros (suc (suc (suc (suc k)))) = refl

four : {A : Type 0} (d : A) (l : List A) → length l ≡ 4 → l ≡ get_or l 0 d ∷ get_or l 1 d ∷ get_or l 2 d ∷ get_or l 3 d ∷ []
four d [] h = absurd (omega arith)
four d (a ∷ []) h = absurd (omega arith)
four d (a ∷ b ∷ []) h = absurd (omega arith)
four d (a ∷ b ∷ c ∷ []) h = absurd (omega arith)
four d (a ∷ b ∷ c ∷ e ∷ []) h = refl
four d (a ∷ b ∷ c ∷ e ∷ f ∷ l) h = absurd (omega arith)

module _ (n : ℕ) (cs : List Column) (ms : List ℕ) (v : Vertex) where
  -- the coordinate on an axis
  abbrev at : ℕ → ℤ
  at k = coordinate_steps (get_or v.coordinates k 0ℤ) (weight_sum n cs 1 ms k) (determinant n cs)

  pub point_begin : PointBefore n cs ms v 0 (0ℤ ∷ 0ℤ ∷ 0ℤ ∷ 0ℤ ∷ [])
  point_begin = record { count = refl; each = λ k l. four_zeros k ∙ number_absent 0ℤ 0 k (at k) (omega arith) }

  pub point_next : {axis : ℕ} {steps : List ℤ} {q : ℤ} → axis < 4 → PointBefore n cs ms v axis steps → q ≡ at axis
      → PointBefore n cs ms v (axis + 1) (set steps axis q)
  point_next {axis} {steps} {q} l p e =
      record { count = length-set steps axis q ∙ p.count; each = λ k b. go k b (eqb k axis) refl }
    where
      go : (k : ℕ) → k < 4 → (t : Bool) → eqb k axis ≡ t → get_or (set steps axis q) k 0ℤ ≡ counted 0ℤ (axis + 1) k (at k)
      go k b true t =
          let here : k ≡ axis = eqb-true k axis t in
          ap (λ j. get_or (set steps axis q) j 0ℤ) here ∙ get_or-set_same steps axis q 0ℤ (omega (arith, p.count))
          ∙ e ∙ ap at (sym here) ∙ number_counts 0ℤ (axis + 1) k (at k) (omega arith)
      go k b false t =
          get_or-set_other steps axis k q 0ℤ (eqb-false k axis t) ∙ p.each k b ∙ same (ltb k axis) refl
        where
          same : (s : Bool) → ltb k axis ≡ s → counted 0ℤ axis k (at k) ≡ counted 0ℤ (axis + 1) k (at k)
          same true s =
              sym (number_counts 0ℤ axis k (at k) (ltb-true k axis s)) ∙ number_counts 0ℤ (axis + 1) k (at k) (omega (arith, ltb-true k axis s))
          same false s =
              sym (number_absent 0ℤ axis k (at k) (ltb-false k axis s))
              ∙ number_absent 0ℤ (axis + 1) k (at k) (omega (arith, ltb-false k axis s, eqb-false k axis t))

  -- the coordinate on an axis, if it is one of m
  abbrev among : ℕ → ℕ → ℤ → ℤ
  among m axis low = counted 0ℤ m axis (coordinate_steps low (weight_sum n cs 1 ms axis) (determinant n cs))

  four_is : (x y z w : ℤ) (m : ℕ) → Axes m
      → among m 0 x ∷ among m 1 y ∷ among m 2 z ∷ among m 3 w ∷ [] ≡ padded 0ℤ 4 (point_from n cs ms 0 (take m (x ∷ y ∷ z ∷ w ∷ [])))
  unfolding counted padded point_from
  four_is x y z w =
      each_axes
      (λ m. among m 0 x ∷ among m 1 y ∷ among m 2 z ∷ among m 3 w ∷ [] ≡ padded 0ℤ 4 (point_from n cs ms 0 (take m (x ∷ y ∷ z ∷ w ∷ []))))
      refl refl refl

  pub point_is : {axis : ℕ} {steps : List ℤ} → Axes n → length v.coordinates ≡ 4 → axis ≡ n → PointBefore n cs ms v axis steps
      → steps ≡ padded 0ℤ 4 (point_from n cs ms 0 (vertex_as n v))
  unfolding vertex_as
  point_is {axis} {steps} a count e p =
      four 0ℤ steps p.count
      ∙ (λ i. p.each 0 (omega arith) i ∷ p.each 1 (omega arith) i ∷ p.each 2 (omega arith) i ∷ p.each 3 (omega arith) i ∷ [])
      ∙ ap (λ m. among m 0 (x 0) ∷ among m 1 (x 1) ∷ among m 2 (x 2) ∷ among m 3 (x 3) ∷ []) e
      ∙ four_is (x 0) (x 1) (x 2) (x 3) n a
      ∙ ap (λ l. padded 0ℤ 4 (point_from n cs ms 0 (take n l))) (sym (four 0ℤ v.coordinates count))
    where
      x : ℕ → ℤ
      x k = get_or v.coordinates k 0ℤ
