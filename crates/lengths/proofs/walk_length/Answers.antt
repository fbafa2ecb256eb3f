-- `lengths::walk_length` meets its contract: each turn counts a place, and the last one ends the trace.
use Rattle.std.proofs.Common.{arith}
use Rattle.lengths.proofs.Counting.{counting_begins, count_few, counting_over, counting_on, fewer_left}
use Rattle.lengths.proofs.walk_length.Goals as goal

pub loop-next-init : goal.loop-next-init
loop-next-init c = (counting_begins c.requires.held, c.requires)

pub look_ahead-after-requires : goal.look_ahead-after-requires
look_ahead-after-requires c = (c.loop-next.invariant.0.held, c.loop-next.invariant.1)

pub overflow_add-count : goal.overflow_add-count
overflow_add-count c = omega (arith, count_few c.loop-next.invariant.0)

pub returns-in-Err : goal.returns-in-Err
returns-in-Err c = counting_over c.loop-next.invariant.0 _ c.in-Err.ensures

pub loop-next-smaller : goal.loop-next-smaller
loop-next-smaller c = fewer_left c.loop-next.invariant.0 c.in-Ok.ensures

pub loop-next-preserved : goal.loop-next-preserved
loop-next-preserved c = (counting_on c.loop-next.invariant.0 c.in-Ok.ensures, c.in-Ok.ensures.carries)
