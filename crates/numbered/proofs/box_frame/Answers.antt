-- `numbered::box_frame` meets its contract: one axis more at each turn.
use Rattle.std.proofs.Common.{◌-◌, arith}
use lib.Dec.{lit≤}
use Rattle.exact.proofs.Bits.{holds_call}
use Rattle.paper.specs.Job.{low_end}
use Rattle.numbered.proofs.AxisSizes.{low_near}
use Rattle.numbered.proofs.JobBox.{read_none, axis_more, all_read, size_fits}
use Rattle.numbered.proofs.box_frame.Goals as goal

pub loop-a-init : goal.loop-a-init
loop-a-init c = read_none c.args.bounds.now c.args.n c.requires.0

pub overflow_mul-size : goal.overflow_mul-size
overflow_mul-size c =
    size_fits {i = c.loop-a.a - 1} (omega arith) (omega arith) c.requires.0.high c.loop-a.invariant c.axis_size-size.ensures.few

pub loop-a-preserved : goal.loop-a-preserved
unfolding low_end
loop-a-preserved c =
    axis_more (omega arith) (omega arith) c.requires.0.high c.loop-a.invariant ((holds_call c.signed_word.ensures (lit≤ tt)).is) (low_near c.requires.1 (omega arith)) c.axis_size-size.ensures

pub returns : goal.returns
returns c = all_read (omega arith) c.loop-a.invariant
