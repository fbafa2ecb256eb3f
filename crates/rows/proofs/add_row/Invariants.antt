-- `rows::add_row` meets its contract. The loop's invariant: the first k terms of the row are added (`RowTo`).
use Rattle.rows.proofs.RowsAdded.{RowTo}
use Rattle.rows.proofs.add_row.Given as goal

abbrev pub invariant-loop-k : goal.invariant-loop-k
invariant-loop-k l = RowTo l.c l.i l.q.cells l.initial.r l.k l.r
