-- The first vertex whose sign is against D.
use Rattle.std.specs.Prelude.{ℕ, ◌<◌, List, Option, Some, None}
use Rattle.exact.specs.Det.{Column, determinant}
use Rattle.exact.specs.Crossed.{coefficient}
use Rattle.grounds.specs.Ground.{deciding_power, With, Against}

-- each vertex before i is with D, by its deciding power
pub record WithBefore (n : ℕ) (cs : List Column) (i : ℕ) : Type 0 where
  pub each : (k : ℕ) → k < i → With n (determinant n cs) (coefficient n cs k) (deciding_power n cs k)

-- no vertex before i is against D, and vertex i is; or there is none
abbrev pub FirstAgainst : ℕ → List Column → Option ℕ → Type 0
FirstAgainst n cs (Some i) = WithBefore n cs i × Against n (determinant n cs) (coefficient n cs) i (deciding_power n cs i)
FirstAgainst n cs None = WithBefore n cs n
