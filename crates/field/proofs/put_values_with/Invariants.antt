-- The loop's invariant: the values under j are in, and every cell is within the limit; the vertex is that of the tables.
use Rattle.places.specs.Held.{vertex_as}
use Rattle.field.proofs.PutValues.{Putting}
use Rattle.field.proofs.put_values_with.Given as goal

abbrev pub invariant-loop-j : goal.invariant-loop-j
invariant-loop-j l = Putting l.job.bytes.now l.job.n (vertex_as l.job.n l.fn.v) l.i l.initial.cells l.j l.cells
