-- A job's dimension is one that the code has room for, and what holds for each of these dimensions holds for all of them.
use Prim.Native.Nat.{ℕ}
use mathlib.Core.Path.{◌≡◌}
use mathlib.Core.Bool.{true}
use Rattle.curves.proofs.Orders.{each_tabled}
use Rattle.paper.specs.Limits.{dimension_ok}
use Rattle.paper.proofs.Tests.{dimension_range}
use Rattle.bits.specs.Axes.{Axes}

pub dimension_axes : (n : ℕ) → dimension_ok n ≡ true → Axes n
dimension_axes n h = let r = dimension_range n h in record { low = r.low; high = r.high }

pub each_axes : (P : ℕ → Type 0) → P 2 → P 3 → P 4 → (n : ℕ) → Axes n → P n
each_axes P two three four n a = each_tabled P two three four n a.low a.high
