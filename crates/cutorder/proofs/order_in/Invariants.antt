-- Of the positions before k none is refused, and the first of them with a later one inside it is known.
use Rattle.cutorder.proofs.Ordering.{Ordering}
use Rattle.cutorder.proofs.order_in.Given as goal

abbrev pub invariant-loop-k : goal.invariant-loop-k
invariant-loop-k l = Ordering l.job.bytes.now l.places l.first l.k
