-- The loop's invariant: no corner under m is on the side.
use mathlib.Core.Path.{◌≡◌}
use mathlib.Core.Bool.{true, false}
use Prim.Native.Nat.{ℕ, ◌<◌}
use lib.ListN.{get_or}
use lib.Signed.{le_z}
use Rattle.exact.specs.Int.{0ℤ}
use Rattle.cube.specs.Cube.{value_at}
use Rattle.cube.proofs.some_on_side.Given as goal

abbrev pub invariant-loop-m : goal.invariant-loop-m
invariant-loop-m l = (q : ℕ) → q < l.m → get_or l.known q false ≡ true → le_z (value_at l.values l.k q) 0ℤ ≡ l.above
