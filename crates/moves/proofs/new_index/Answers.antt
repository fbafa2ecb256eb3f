-- `moves::new_index` meets its contract.
use Rattle.moves.proofs.MovedColumns.{index_first, index_last, index_between}
use Rattle.moves.proofs.new_index.Goals as goal

pub returns-then-e-eq0 : goal.returns-then-e-eq0
returns-then-e-eq0 c = index_first _ _ c.if-e-eq0.true

pub returns-then-e-n : goal.returns-then-e-n
returns-then-e-n c = index_last _ _ c.if-e-eq0.false c.if-e-n.true

pub returns-else-e-n : goal.returns-else-e-n
returns-else-e-n c = index_between _ _ c.if-e-eq0.false c.if-e-n.false
