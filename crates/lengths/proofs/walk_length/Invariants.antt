-- The invariant: the places counted so far and those of the trace from `here` on are all that the whole trace has, and the cells hold what is carried at
-- `here`. The measure is the number of places that the trace has left.
use Rattle.std.proofs.Common.{length}
use Rattle.places.specs.Held.{place_as}
use Rattle.carried.specs.Carries.{Carries}
use Rattle.seamlist.specs.WholeTrace.{rest_from}
use Rattle.lengths.proofs.Counting.{Counting}
use Rattle.lengths.proofs.walk_length.Given as goal

abbrev pub invariant-loop-next : goal.invariant-loop-next
invariant-loop-next l = Counting l.job.bytes.now l.job.n l.first l.here.place l.count × Carries l.job.bytes.now l.job.n l.here l.cells

abbrev pub decreases-loop-next : goal.decreases-loop-next
decreases-loop-next l = length (rest_from l.job.bytes.now (place_as l.job.n l.first) (place_as l.job.n l.here.place)).places
