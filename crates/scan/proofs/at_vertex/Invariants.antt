-- What is met at the chains that the loop has passed is written.
use Rattle.std.proofs.Common.{Some}
use Rattle.places.specs.Held.{vertex_as}
use Rattle.least.specs.Search.{least_in}
use Rattle.scan.specs.Scanned.{ScannedIs}
use Rattle.scan.proofs.Gathered.{gathered}
use Rattle.scan.proofs.AtVertex.{met_at}
use Rattle.scan.proofs.at_vertex.Given as goal

abbrev pub invariant-loop-chain : goal.invariant-loop-chain
invariant-loop-chain l =
    ScannedIs l.job.n l.initial.buffer l.count (gathered (met_at (least_in l.job.bytes.now) l.job.n (vertex_as l.job.n l.v)) l.chain-index) l.buffer (Some l.found)
