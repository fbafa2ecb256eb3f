-- One axis of a box: its ends, how many vertices it has, and how many there are from it on.
use mathlib.Core.Path.{◌≡◌, refl, ap, ◌∙◌}
use mathlib.Core.List.{List}
use Prim.Native.Nat.{ℕ, ◌-◌, ◌^◌, ◌≤◌, ◌<◌}
use native.Mathlib.Omega.{arith}
use lib.IntN.{ℤ, pos, negsuc, nat_abs, ◌+ℤ◌, ◌-ℤ◌}
use lib.Dec.{T, lit≤, leb→le}
use lib.Signed.{non_neg, ◌≤ℤ◌, ◌<ℤ◌}
use mir.Syntax.{w64}
use mir.Val.{Fits}
use Rattle.exact.specs.Int.{◌⊕◌, ◌⊖◌, neg, 1ℤ}
use Rattle.exact.specs.Size.{Size, Is}
use Rattle.exact.proofs.Linear.{split, linear}
use Rattle.exact.proofs.SizeLaws.{size_pos}
use Rattle.exact.proofs.Bits.{back, holds_call, holds_add, holds_sub}
use Rattle.curves.specs.Box as Box
use Rattle.curves.specs.Box.{span}
use Rattle.curves.proofs.SameFacet.{le_z_refl}
use Rattle.paper.specs.Limits.{coordinate_limit}
use Rattle.paper.specs.Job.{low_end, high_end}
use Rattle.paper.proofs.Terms.{AxisRange, box_axis, between_size}
use Rattle.seamlist.proofs.FacetOrder.{less_le}
use Rattle.numbered.specs.Frame.{axis_most, BoxOf, AxisSize}

-- ---- the vertices of an axis

-- a number from 1 to m, as a count
record Counts (m : ℕ) (z : ℤ) : Type 0 where
  pub is : z ≡ pos (Box.counted z)
  pub some : 1 ≤ Box.counted z
  pub few : Box.counted z ≤ m

counts : (m : ℕ) (z : ℤ) → 1ℤ ≤ℤ z → z ≤ℤ pos m → Counts m z
unfolding Box.counted
counts m (pos a) p q = record { is = refl; some = leb→le 1 a p.le; few = leb→le a m q.le }
counts m (negsuc a) p q = absurd p.le

above : (l h : ℤ) → l <ℤ h → 1ℤ ≤ℤ h ⊕ 1ℤ ⊖ l
above l h = rw (split l, split h) (simp linear (omega arith))

under : (l h : ℤ) → neg (pos 256) ≤ℤ l → h ≤ℤ pos 256 → h ⊕ 1ℤ ⊖ l ≤ℤ pos 513
under l h = rw (split l, split h) (simp linear (omega arith))

module _ {b : List ℕ} {a : ℕ} (r : AxisRange b a) where
  axis_counts : Counts axis_most (high_end b a ⊕ 1ℤ ⊖ low_end b a)
  unfolding coordinate_limit
  axis_counts =
      counts axis_most (high_end b a ⊕ 1ℤ ⊖ low_end b a) (above (low_end b a) (high_end b a) (record { lt = rw r.rising tt }))
      (under (low_end b a) (high_end b a) (record { le = rw r.low tt }) (record { le = rw r.high tt }))

  low_size : Size coordinate_limit (low_end b a)
  low_size =
      record {
        size =
            between_size coordinate_limit (low_end b a) (high_end b a) (low_end b a) r.low (le_z_refl (low_end b a))
            (less_le (low_end b a) (high_end b a) (record { lt = rw r.rising tt })) r.high;
      }

-- ---- the low end

pub limit_whole : coordinate_limit ≤ 2 ^ 63 - 1
unfolding coordinate_limit
limit_whole = lit≤ tt

pub low_near : {b : List ℕ} {n a : ℕ} → BoxOf n b → a < n → Size coordinate_limit (low_end b a)
low_near {b} {n} {a} o l = low_size (box_axis n b a o.ok l)

-- ---- the vertices of an axis

-- the ends as they are read
module _ {b : List ℕ} {n a : ℕ} (o : BoxOf n b) (c : a < n) {low high : ℤ} (p : Is 32768 (low_end b a) low) (q : Is 32768 (high_end b a) high) where
  one : Is 1 1ℤ (pos 1)
  one = record { is = refl; size = size_pos 1 }

  steps_are : back (back (back high +ℤ pos 1) -ℤ back low) ≡ pos (span (low_end b a) (high_end b a))
  unfolding span
  steps_are =
      (holds_sub (holds_add (holds_call q (lit≤ tt)) one (lit≤ tt)) (holds_call p (lit≤ tt)) (lit≤ tt)).is
      ∙ (axis_counts (box_axis n b a o.ok c)).is

  -- the number of vertices, as the code has it
  abbrev steps : ℕ
  steps = nat_abs (back (back (back high +ℤ pos 1) -ℤ back low))

  steps_number : steps ≡ span (low_end b a) (high_end b a)
  steps_number = ap nat_abs steps_are

  steps_some : 1 ≤ steps
  unfolding span
  steps_some = rw steps_number (axis_counts (box_axis n b a o.ok c)).some

  steps_few : steps ≤ axis_most
  unfolding span
  steps_few = rw steps_number (axis_counts (box_axis n b a o.ok c)).few

  pub steps_cast : T (non_neg (back (back (back high +ℤ pos 1) -ℤ back low))) × Fits w64 steps
  steps_cast = (rw steps_are tt, record { fits = omega (arith, steps_few) })

  pub size_is : AxisSize (span (low_end b a) (high_end b a)) steps
  size_is = record { is = steps_number; some = steps_some; few = steps_few }
