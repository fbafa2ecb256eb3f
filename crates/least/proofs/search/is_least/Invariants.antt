-- The invariant: each walk has come to a place from which the rest of its trace says what the whole does. The measure is the number of places that both
-- have left.
use Rattle.std.proofs.Common.{◌+◌, length}
use Rattle.places.specs.Held.{place_as}
use Rattle.seamlist.specs.WholeTrace.{rest_from}
use Rattle.least.proofs.BothWays.{Way}
use Rattle.least.proofs.search.is_least.Given as goal

abbrev pub invariant-loop-next : goal.invariant-loop-next
invariant-loop-next l = Way l.job.bytes.now l.job.n l.p l.ahead l.front × Way l.job.bytes.now l.job.n l.q l.behind l.back

abbrev pub decreases-loop-next : goal.decreases-loop-next
decreases-loop-next l =
    length (rest_from l.job.bytes.now (place_as l.job.n l.p) (place_as l.job.n l.ahead.place)).places
    + length (rest_from l.job.bytes.now (place_as l.job.n l.q) (place_as l.job.n l.behind.place)).places
