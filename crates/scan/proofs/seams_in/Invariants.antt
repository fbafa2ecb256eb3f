-- What is met at the vertices under i is written, and there is room for the values of a cube.
use Rattle.std.proofs.Common.{Some}
use Rattle.scan.specs.Scanned.{ScannedIs, CubeRoom}
use Rattle.scan.proofs.Gathered.{gathered}
use Rattle.scan.proofs.AllSeams.{met_in}
use Rattle.scan.proofs.seams_in.Given as goal

abbrev pub invariant-loop-i : goal.invariant-loop-i
invariant-loop-i l =
    ScannedIs l.job.n l.initial.buffer 0 (gathered (met_in l.job.bytes.now) l.i) l.buffer (Some l.count) × CubeRoom l.job.n l.one l.values l.known
