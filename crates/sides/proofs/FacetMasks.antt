-- The masks of a row's facet are differences of vertex masks (`masks_are`) and of digits (`mask_of_digits`).
use Prim.Native.Nat.{ℕ, ◌-◌, ◌≤◌, ◌<◌}
use mathlib.Core.Path.{◌≡◌, refl, ap₂, ◌∙◌}
use mathlib.Core.Bool.{Bool}
use mathlib.Core.List.{[], ◌∷◌}
use native.Mathlib.Omega.{arith}
use lib.ListN.{take, get_or}
use Rattle.exact.specs.Crossed.{remove}
use Rattle.exact.specs.Minors.{skip}
use Rattle.exact.proofs.Position.{skip_le}
use Rattle.curves.specs.Grid.{place_at, masks_from, same_masks, orders}
use Rattle.curves.proofs.SameFacet.{same_masks_sound}
use Rattle.paper.specs.Job.{all_from}
use Rattle.table.specs.Table.{digit_at, order_at, vertex_mask, InTable, MasksAre}
use Rattle.sides.specs.Facets.{masks_at, facet_mask, facet_masks}
use Rattle.bits.proofs.EachDimension.{each_axes}
use Rattle.table.proofs.Tested.{passes}

right_masks : ℕ → ℕ → ℕ → Bool
right_masks n row out = same_masks (masks_at n row out) (take (n - 1) (facet_masks n row out))

module _ (n row out : ℕ) (h : InTable n row) (l : out ≤ n) where
  pub masks_are : masks_at n row out ≡ take (n - 1) (facet_masks n row out)
  unfolding right_masks facet_masks facet_mask skip vertex_mask masks_at order_at orders place_at masks_from remove same_masks all_from
  masks_are =
      same_masks_sound (masks_at n row out) (take (n - 1) (facet_masks n row out)) (passes right_masks refl refl refl n row out h l)

  -- a mask from the digits of the row's masks
  pub mask_of_digits :
      {x base : ℕ} → MasksAre n row x → base ≡ vertex_mask (order_at n row) (skip out 0)
      → (i : ℕ) → i < 4 → digit_at x (skip out i) - base ≡ facet_mask n row out i
  unfolding facet_mask
  mask_of_digits d b i u = ap₂ (λ v w. v - w) (d.at (skip out i) (skip_le 4 out i (omega (arith, h.axes.high)) u)) b

  pub masks_of_digits :
      {x base a b c : ℕ} → MasksAre n row x → base ≡ vertex_mask (order_at n row) (skip out 0)
      → a ≡ digit_at x (skip out 1) - base → b ≡ digit_at x (skip out 2) - base → c ≡ digit_at x (skip out 3) - base
      → a ∷ b ∷ c ∷ [] ≡ facet_masks n row out
  unfolding facet_masks
  masks_of_digits d base_is e f g =
      rw (e ∙ mask_of_digits d base_is 1 (omega arith), f ∙ mask_of_digits d base_is 2 (omega arith), g ∙ mask_of_digits d base_is 3 (omega arith))

  -- the last mask that counts
  pub last_mask : 2 ≤ n → get_or (facet_masks n row out) (n - 2) 0 ≡ facet_mask n row out (n - 1)
  unfolding facet_masks
  last_mask b = each_axes (λ n'. get_or (facet_mask n row out 1 ∷ facet_mask n row out 2 ∷ facet_mask n row out 3 ∷ []) (n' - 2) 0 ≡ facet_mask n row out (n' - 1)) refl refl refl n h.axes
