-- `numbered::axis_size` meets its contract: from the low to the high end.
use Rattle.paper.specs.Job.{low_end, high_end}
use Rattle.numbered.proofs.AxisSizes.{steps_cast, size_is}
use Rattle.numbered.proofs.axis_size.Goals as goal

pub overflow_cast-result : goal.overflow_cast-result
unfolding low_end high_end
overflow_cast-result c = steps_cast c.requires.0 c.requires.1 c.signed_word-low.ensures c.signed_word-high.ensures

pub returns : goal.returns
unfolding low_end high_end
returns c = size_is c.requires.0 c.requires.1 c.signed_word-low.ensures c.signed_word-high.ensures
