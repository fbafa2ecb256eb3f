-- `moves::move_columns` meets its contract.
use native.Mathlib.Omega.{arith}
use Rattle.moves.proofs.MovedColumns.{columns_first, columns_last, columns_between}
use Rattle.moves.proofs.move_columns.Goals as goal

pub returns-then-e-eq0 : goal.returns-then-e-eq0
returns-then-e-eq0 c = columns_first c.if-e-eq0.true c.drop_first.ensures

pub returns-then-e-n : goal.returns-then-e-n
returns-then-e-n c = columns_last c.if-e-eq0.false c.if-e-n.true c.make_room.ensures (omega arith)

pub returns-else-e-n : goal.returns-else-e-n
returns-else-e-n c = columns_between c.if-e-eq0.false c.if-e-n.false c.requires.0
