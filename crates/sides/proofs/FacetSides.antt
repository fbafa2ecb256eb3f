-- The side of a row's facet, by the ones of its last mask: a flat facet leaves out the first vertex (side 1) or the last (side 0); a bent
-- one another, and its side says which of the axes before and behind that vertex is the lower. The same by the masks of the row's
-- vertices (`side_of_digits`).
use Prim.Native.Nat.{ℕ, suc, ◌+◌, ◌-◌, ◌≤◌, ◌<◌}
use mathlib.Core.Path.{◌≡◌, refl, ap, ◌∙◌, sym}
use mathlib.Core.Bool.{Bool, true, false, cond, ◌&&◌, ◌||◌}
use native.Mathlib.Omega.{arith}
use lib.Dec.{eqb, leb, ltb}
use mir.Val.{bool_byte}
use lib.Count.{ones, ones_in}
use borrow.Author.Tests.{eqb-true, ltb-true, ltb-false, le-leb, lt-leb, eq-eqb, ne_eqb}
use Rattle.exact.proofs.AndTests.{and_left, and_right}
use Rattle.exact.specs.Minors.{skip}
use Rattle.curves.specs.Grid.{place_at, masks_from, side_of, orders}
use Rattle.paper.specs.Job.{all_from}
use Rattle.table.specs.Table.{digit_at, order_at, axis_at, vertex_mask, InTable, MasksAre}
use Rattle.sides.specs.Facets.{side_at, facet_mask}
use Rattle.table.proofs.Tested.{passes}

-- the facet is flat
abbrev pub flat_at : ℕ → ℕ → ℕ → Bool
flat_at n row out = eqb (suc (ones (facet_mask n row out (n - 1)))) n

-- the side by the paper's rule
abbrev side_rule : ℕ → ℕ → ℕ → ℕ
side_rule n row out =
    cond (flat_at n row out) (cond (eqb out 0) 1 0) (cond (ltb (axis_at n row (out - 1)) (axis_at n row out)) 0 1)

right_side : ℕ → ℕ → ℕ → Bool
right_side n row out = eqb (side_at n row out) (side_rule n row out)

between : ℕ → ℕ → ℕ → Bool
between n row out = flat_at n row out || (ltb 0 out && ltb out n)

-- a test as a side
bit_if : (b : Bool) → bool_byte b ≡ cond b 1 0
bit_if true = refl
bit_if false = refl

bit_at_most : (x y : ℕ) → bool_byte (leb y x) ≡ cond (ltb x y) 0 1
bit_at_most x y = go (ltb x y) refl
  where
    go : (b : Bool) → ltb x y ≡ b → bool_byte (leb y x) ≡ cond b 0 1
    go true e = ap bool_byte (lt-leb y x (ltb-true x y e))
    go false e = ap bool_byte (le-leb y x (ltb-false x y e))

module _ {n row out : ℕ} (pre : InTable n row × (out ≤ n)) where
  pub side_is : side_at n row out ≡ side_rule n row out
  unfolding right_side side_at facet_mask skip vertex_mask axis_at order_at orders place_at masks_from side_of ones ones_in all_from
  side_is = eqb-true (side_at n row out) (side_rule n row out) (passes right_side refl refl refl n row out pre.0 pre.1)

  pub flat_side : flat_at n row out ≡ true → bool_byte (eqb out 0) ≡ side_at n row out
  flat_side e = bit_if (eqb out 0) ∙ sym (side_is ∙ rw e)

  pub bent_side : flat_at n row out ≡ false → bool_byte (leb (axis_at n row out) (axis_at n row (out - 1))) ≡ side_at n row out
  bent_side e = bit_at_most (axis_at n row (out - 1)) (axis_at n row out) ∙ sym (side_is ∙ rw e)

  -- a bent facet leaves out a vertex between the first and the last
  lies_between : flat_at n row out ≡ false → (ltb 0 out && ltb out n) ≡ true
  unfolding between facet_mask skip vertex_mask order_at orders masks_from ones ones_in all_from
  lies_between e = ap (λ t. t || (ltb 0 out && ltb out n)) (sym e) ∙ passes between refl refl refl n row out pre.0 pre.1

  pub bent_low : flat_at n row out ≡ false → 0 < out
  bent_low e = ltb-true 0 out (and_left (ltb 0 out) (ltb out n) (lies_between e))

  pub bent_high : flat_at n row out ≡ false → out < n
  bent_high e = ltb-true out n (and_right (ltb 0 out) (ltb out n) (lies_between e))

-- ---- by the masks of the vertices

-- the side by the masks of the vertex left out and of the vertices before and behind it: the lower axis comes first if
-- at − below < above − at
abbrev mask_rule : ℕ → ℕ → ℕ → ℕ → ℕ → ℕ
mask_rule n out below at above = cond (eqb out 0) 1 (cond (eqb out n) 0 (cond (ltb (at + at) (below + above)) 0 1))

-- with the masks of a row's vertices
abbrev row_rule : ℕ → ℕ → ℕ → ℕ
row_rule n row out =
    mask_rule n out (vertex_mask (order_at n row) (out - 1)) (vertex_mask (order_at n row) out) (vertex_mask (order_at n row) (out + 1))

same_side : ℕ → ℕ → ℕ → Bool
same_side n row out = eqb (side_at n row out) (row_rule n row out)

module _ (n row out : ℕ) (h : InTable n row) where
  pub side_by_masks : out ≤ n → side_at n row out ≡ row_rule n row out
  unfolding same_side side_at vertex_mask order_at orders place_at masks_from side_of all_from
  side_by_masks l = eqb-true (side_at n row out) (row_rule n row out) (passes same_side refl refl refl n row out h l)

  pub side_first : out ≤ n → out ≡ 0 → 1 ≡ side_at n row out
  side_first l e = sym (side_by_masks l ∙ rw (eq-eqb out 0 e))

  pub side_last : out ≤ n → (out ≡ 0 → ⊥) → out ≡ n → 0 ≡ side_at n row out
  side_last l d e = sym (side_by_masks l ∙ rw (ne_eqb out 0 d, eq-eqb out n e))

  -- between the first vertex and the last the three masks are digits
  pub side_of_digits :
      {x below at above : ℕ} → MasksAre n row x → out ≤ n → (out ≡ 0 → ⊥) → (out ≡ n → ⊥)
      → below ≡ digit_at x (out - 1) → at ≡ digit_at x out → above ≡ digit_at x (out + 1)
      → bool_byte (leb (below + above) (at + at)) ≡ side_at n row out
  side_of_digits {x} {below} {at} {above} d l first last e f g =
      bit_at_most (at + at) (below + above)
      ∙ sym (side_by_masks l
      ∙ rw (
        ne_eqb out 0 first,
        ne_eqb out n last,
        sym (e ∙ d.at (out - 1) (omega (arith, h.axes.high))),
        sym (f ∙ d.at out (omega (arith, h.axes.high))),
        sym (g ∙ d.at (out + 1) (omega (arith, h.axes.high))),
      ))

pub bit_small : (b : Bool) → bool_byte b < 2
bit_small true = omega arith
bit_small false = omega arith
