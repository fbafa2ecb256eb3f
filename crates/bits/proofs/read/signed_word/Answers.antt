-- `bits::read::signed_word` meets its contract: the library's signed number of two bytes.
use Rattle.std.proofs.Common.{arith}
use Rattle.paper.specs.Bytes.{signed_word, word, byte}
use Rattle.bits.proofs.SignedBits.{word_read}
use Rattle.bits.proofs.read.signed_word.Goals as goal

pub returns : goal.returns
unfolding signed_word word byte
returns c = word_read (omega arith) c.from.ensures c.from_le_bytes.ensures c.from_le_bytes.type_inv
