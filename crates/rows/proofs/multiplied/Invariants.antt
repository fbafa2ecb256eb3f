-- `rows::multiplied` meets its contract. The loop's invariant: the first i rows are added (`RowsTo`).
use Rattle.rows.proofs.RowsAdded.{RowsTo}
use Rattle.rows.proofs.multiplied.Given as goal

abbrev pub invariant-loop-i : goal.invariant-loop-i
invariant-loop-i l = RowsTo l.p.cells l.q.cells l.i l.r
