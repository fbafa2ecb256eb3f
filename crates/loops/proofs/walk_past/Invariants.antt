-- The invariant: what was counted, with the rest of the trace from `here` on, tells what the whole does, and the cells hold what is carried at `here`.
-- The measure is the number of places that the trace has left.
use Rattle.std.proofs.Common.{length}
use Rattle.places.specs.Held.{place_as}
use Rattle.carried.specs.Carries.{Carries}
use Rattle.seamlist.specs.WholeTrace.{rest_from}
use Rattle.loops.proofs.Passing.{Passing}
use Rattle.loops.proofs.walk_past.Given as goal

abbrev pub invariant-loop-past : goal.invariant-loop-past
invariant-loop-past l = Passing l.job.bytes.now l.first l.here.place l.past l.odd × Carries l.job.bytes.now 2 l.here l.cells

abbrev pub decreases-loop-past : goal.decreases-loop-past
decreases-loop-past l = length (rest_from l.job.bytes.now (place_as 2 l.first) (place_as 2 l.here.place)).places
