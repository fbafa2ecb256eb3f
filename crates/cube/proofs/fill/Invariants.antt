-- The loop's invariant: the corners under m are put in.
use Rattle.places.specs.Held.{vertex_as}
use Rattle.cube.proofs.Corners.{Corners}
use Rattle.cube.proofs.fill.Given as goal

abbrev pub invariant-loop-m : goal.invariant-loop-m
invariant-loop-m l = Corners l.job.bytes.now l.job.n (vertex_as l.job.n l.v) l.m l.values l.known l.one
