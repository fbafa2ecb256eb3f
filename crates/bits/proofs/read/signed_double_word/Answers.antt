-- `bits::read::signed_double_word` meets its contract: the library's signed number of four bytes.
use Rattle.std.proofs.Common.{◌+◌, ◌≡◌, ap, arith}
use Rattle.paper.specs.Bytes.{signed_double_word, double_word, word, byte}
use Rattle.bits.proofs.SignedBits.{double_read}
use Rattle.bits.proofs.read.signed_double_word.Goals as goal

pub returns : goal.returns
unfolding signed_double_word double_word word byte
returns c =
    let last : byte c.args.s.now (c.args.k + 2 + 1) ≡ byte c.args.s.now (c.args.k + 3) = ap (byte c.args.s.now) (omega arith) in
    double_read (omega arith) c.from.ensures c.from_le_bytes.ensures c.from_le_bytes.type_inv
