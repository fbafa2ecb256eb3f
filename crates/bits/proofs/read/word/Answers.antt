-- `bits::read::word` meets its contract: the library's number of two bytes.
use Rattle.std.proofs.Common.{arith}
use Rattle.paper.specs.Bytes.{word, byte}
use Rattle.bits.proofs.read.word.Goals as goal

pub returns : goal.returns
unfolding word byte
returns c = record { is = omega arith; small = omega arith }
