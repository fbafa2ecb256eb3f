-- `bits::read::byte` meets its contract.
use Rattle.std.proofs.Common.{arith}
use Rattle.paper.specs.Bytes.{byte}
use Rattle.bits.proofs.read.byte.Goals as goal

pub returns : goal.returns
unfolding byte
returns c = record { is = c.from.ensures; small = omega (arith, c.type_inv.s c.args.k) }
