-- The invariant: the rest of the trace from `here` says what the whole does. The measure is the number of places that the trace has left.
use Rattle.std.proofs.Common.{◌≡◌, length}
use Rattle.places.specs.Held.{place_as}
use Rattle.seamlist.specs.WholeTrace.{rest_from}
use Rattle.least.specs.Search.{clear_from, Walks}
use Rattle.least.proofs.search.rest_clear.Given as goal

abbrev pub invariant-loop-next : goal.invariant-loop-next
invariant-loop-next l =
    Walks l.job.bytes.now l.job.n l.start l.here l.cells
    × (clear_from l.job.bytes.now (place_as l.job.n l.start) (place_as l.job.n l.initial.here.place) ≡ clear_from l.job.bytes.now (place_as l.job.n l.start) (place_as l.job.n l.here.place))

abbrev pub decreases-loop-next : goal.decreases-loop-next
decreases-loop-next l = length (rest_from l.job.bytes.now (place_as l.job.n l.start) (place_as l.job.n l.here.place)).places
