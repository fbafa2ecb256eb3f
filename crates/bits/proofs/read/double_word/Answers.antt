-- `bits::read::double_word` meets its contract: the library's number of four bytes.
use Rattle.std.proofs.Common.{◌+◌, ◌≡◌, ap, arith}
use Rattle.paper.specs.Bytes.{double_word, word, byte}
use Rattle.bits.proofs.read.double_word.Goals as goal

pub returns : goal.returns
unfolding double_word word byte
returns c =
    let last : byte c.args.s.now (c.args.k + 2 + 1) ≡ byte c.args.s.now (c.args.k + 3) = ap (byte c.args.s.now) (omega arith) in
    record { is = omega arith; small = omega arith }
