-- What `coordinate` computes: the share num / d lies from 0 to 1, so the steps are 0 to 1024, and the sum is the definition's coordinate.
use Prim.Native.Nat.{ℕ, ◌≤◌, ◌<◌}
use mathlib.Core.Path.{◌≡◌, refl, sym, ap, ap₂, ◌∙◌, subst}
use native.Mathlib.Omega.{arith}
use lib.IntN.{ℤ, pos, nat_abs, ◌+ℤ◌, ◌*ℤ◌}
use lib.Dec.{lit≤, leb→le}
use lib.Signed.{◌≤ℤ◌, pos-nat_abs, yes_non_neg}
use mir.Syntax.{w64}
use mir.Val.{SFits, to_z}
use Rattle.exact.specs.Int.{◌⊕◌, ◌⊗◌}
use Rattle.exact.specs.Size.{Size, Is}
use Rattle.exact.proofs.SizeLaws.{size_weaken, size_pos, size_add, size_mul, size_fits_64}
use Rattle.exact.proofs.Bits.{holds, back, back_is, back_size, fits_add, fits_mul, holds_add, holds_mul}
use Rattle.paper.specs.Limits.{steps_per_unit}
use Rattle.paper.specs.Values.{round_steps, over_size, share_steps, coordinate_steps}
use Rattle.paper.proofs.Rounding.{nat_abs_over_size, share_few}
use Rattle.points.specs.Shares.{Share, denominator_limit, low_limit, steps_limit}

pos_le : (a b : ℕ) → pos a ≤ℤ pos b → a ≤ b
pos_le a b h = leb→le a b h.le

share_is : (num d : ℤ) → Share num d → over_size num d ≡ pos (nat_abs num)
share_is num d sh = sym (pos-nat_abs (over_size num d) (yes_non_neg sh.least)) ∙ ap pos (nat_abs_over_size num d)

-- a share's numerator is no larger than its denominator
share_most : (num d : ℤ) → Share num d → nat_abs num ≤ nat_abs d
share_most num d sh = pos_le (nat_abs num) (nat_abs d) (subst (λ z. z ≤ℤ pos (nat_abs d)) (share_is num d sh) sh.most)

pub share_size : (num d : ℤ) → Share num d → Size steps_per_unit (share_steps num d)
share_size num d sh = share_few num d sh.nonzero (share_most num d sh)

-- the share of the sizes is the share
sizes_steps : (num d : ℤ) → Share num d → share_steps (pos (nat_abs num)) (pos (nat_abs d)) ≡ share_steps num d
unfolding share_steps over_size
sizes_steps num d sh = ap (λ z. round_steps (pos steps_per_unit ⊗ z) (nat_abs d)) (sym (share_is num d sh))

module _ {low num d : ℤ} (pre : Size low_limit low × (Size denominator_limit d × Share num d)) where
  most : nat_abs num ≤ nat_abs d
  most = share_most num d pre.1.1

  num_size : Size denominator_limit num
  num_size = record { size = omega (arith, most, pre.1.0.size) }

  pub coordinate_size : Size steps_limit (coordinate_steps low num d)
  unfolding coordinate_steps steps_per_unit
  coordinate_size = size_weaken (size_add (size_mul (size_pos 1024) pre.0) (share_size num d pre.1.1)) (lit≤ tt)

  -- ---- what the callees are asked
  pub asks_num : Size denominator_limit (back num)
  asks_num = back_size num_size (lit≤ tt)

  pub asks_d : Size denominator_limit (back d)
  asks_d = back_size pre.1.0 (lit≤ tt)

  module _ {a den : ℕ} (ea : a ≡ nat_abs (back num)) (ed : den ≡ nat_abs (back d)) where
    a_is : a ≡ nat_abs num
    a_is = ea ∙ ap nat_abs (back_is num_size (lit≤ tt))

    den_is : den ≡ nat_abs d
    den_is = ed ∙ ap nat_abs (back_is pre.1.0 (lit≤ tt))

    pub asks_round : (0 < den) × ((a ≤ den) × (den ≤ denominator_limit))
    asks_round =
        rw (a_is, den_is) (pre.1.1.nonzero, (most, omega (arith, pre.1.0.size)))

    -- ---- what they give
    module _ {r : ℕ} (er : pos r ≡ share_steps (pos a) (pos den)) where
      steps_is : pos r ≡ share_steps num d
      steps_is = er ∙ ap₂ (λ x y. share_steps (pos x) (pos y)) a_is den_is ∙ sizes_steps num d pre.1.1

      steps_size : Size 1024 (pos r)
      unfolding steps_per_unit
      steps_size = subst (Size 1024) (sym steps_is) (share_size num d pre.1.1)

      pub fits_steps : SFits w64 (pos r)
      fits_steps = size_fits_64 (size_weaken steps_size (lit≤ tt))

      unit_held : Is 1024 (pos 1024) (pos 1024)
      unit_held = record { is = refl; size = size_pos 1024 }

      pub fits_low : SFits w64 (pos 1024 *ℤ back low)
      fits_low = fits_mul unit_held (holds pre.0 (lit≤ tt)) (lit≤ tt)

      pub fits_coordinate : SFits w64 (back (pos 1024 *ℤ back low) +ℤ to_z w64 r)
      fits_coordinate = fits_add (holds_mul unit_held (holds pre.0 (lit≤ tt)) (lit≤ tt)) (holds steps_size (lit≤ tt)) (lit≤ tt)

      pub coordinate_is : back (back (pos 1024 *ℤ back low) +ℤ to_z w64 r) ≡ coordinate_steps low num d
      unfolding coordinate_steps steps_per_unit
      coordinate_is =
          (holds_add (holds_mul unit_held (holds pre.0 (lit≤ tt)) (lit≤ tt)) (holds steps_size (lit≤ tt)) (lit≤ tt)).is
          ∙ ap (λ z. pos 1024 ⊗ low ⊕ z) steps_is
