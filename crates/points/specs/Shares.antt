-- What a point's coordinate asks, so that no number leaves 64 bits: a share of a unit, and sizes.
use Rattle.std.specs.Prelude.{ℕ, ◌+◌, ◌*◌, ◌-◌, ◌^◌, ◌<◌, ℤ, pos, nat_abs, ◌≤ℤ◌}
use Rattle.exact.specs.Int.{0ℤ}
use Rattle.paper.specs.Values.{over_size}

-- what the rounding can double, and the absolute value be taken of
abbrev pub denominator_limit : ℕ
denominator_limit = 2 ^ 62 - 1

-- a coordinate of the lowest vertex, and one of the point in steps
abbrev pub low_limit : ℕ
low_limit = 2 ^ 16

abbrev pub steps_limit : ℕ
steps_limit = 1024 * 2 ^ 16 + 1024

-- num / d lies from 0 to 1
pub record Share (num d : ℤ) : Type 0 where
  pub nonzero : 0 < nat_abs d
  pub least : 0ℤ ≤ℤ over_size num d
  pub most : over_size num d ≤ℤ pos (nat_abs d)
