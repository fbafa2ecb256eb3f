-- `laying::lay_word` meets its contract: the low byte, then the high one.
use Rattle.std.proofs.Common.{refl, ◌∙◌, arith}
use Rattle.paper.specs.Bytes.{word_bytes}
use Rattle.laying.proofs.Behind.{part_laid, word_digits}
use Rattle.laying.proofs.lay_word.Goals as goal

pub returns : goal.returns
unfolding word_bytes
returns c =
    part_laid c.args.buffer.now c.args.at (c.copy_from_slice.ensures.after ∙ c.to_le_bytes.ensures ∙ word_digits c.args.word) (omega arith) refl
    c.requires
