-- The loop's invariant: the columns under k are in, and every cell is within the limit.
use Rattle.columns.proofs.PutColumns.{vertex_of, Filling}
use Rattle.columns.proofs.masks.put_columns.Given as goal

abbrev pub invariant-loop-k : goal.invariant-loop-k
invariant-loop-k l = Filling l.job.bytes.now l.job.n (vertex_of l.job.n l.base l.masks) l.initial.cells l.k l.cells
