-- `bits::read::signed` meets its contract: under half the number itself, from half on what it lacks of 2 · half, below 0.
use Rattle.std.proofs.Common.{arith}
use Rattle.bits.proofs.SignedBits.{signed_low, signed_high}
use Rattle.bits.proofs.read.signed.Goals as goal

pub returns-then-u-half : goal.returns-then-u-half
returns-then-u-half c = signed_low c.requires.0 (omega (arith, c.if-u-half.true))

pub returns-else-u-half : goal.returns-else-u-half
returns-else-u-half c = signed_high c.requires.0 c.requires.1 (omega (arith, c.if-u-half.false))
