-- Places whose coordinates fit signed 16 bits, so that their bytes name them.
use mathlib.Core.Bool.{Bool}
use lib.IntN.{ℤ, nat_abs}
use lib.Signed.{mag}
use lib.Dec.{leb, ltb}
use Rattle.curves.specs.Grid.{Place}
use Rattle.curves.specs.Step.{every}
use Rattle.paper.specs.Limits.{coordinate_limit}

-- from − 32768 to 32767
unfoldable pub short : ℤ → Bool
short x = ltb (mag x) 32768

unfoldable pub short_place : Place → Bool
short_place p = every short p.facet.low

-- at most the coordinate limit in size, as every coordinate in a box is
unfoldable pub limited : ℤ → Bool
limited x = leb (nat_abs x) coordinate_limit
