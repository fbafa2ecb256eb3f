-- `bits::masks::axis_of` meets its contract: the trailing zeros are the lowest axis (`lowest_axis`).
use native.Mathlib.Omega.{arith}
use Rattle.curves.specs.Grid.{axes}
use Rattle.bits.proofs.MaskBits.{lowest_axis}
use Rattle.bits.proofs.masks.axis_of.Goals as goal

pub returns : goal.returns
unfolding axes
returns c n a rest l h = omega (arith, lowest_axis n 0 c.args.mask a rest 64 l h)
