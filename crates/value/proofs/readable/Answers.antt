-- `value::readable` meets its contract: it compares the size with the limit.
use Rattle.exact.proofs.Bits.{back_is}
use Rattle.paper.specs.Values.{readable_sum}
use Rattle.polynomial.proofs.Limits.{sum_word}
use Rattle.value.proofs.readable.Goals as goal

pub returns : goal.returns
unfolding readable_sum
returns c = rw (c.size.ensures, back_is c.requires sum_word, c.readable_limit.ensures)
