-- `loops::edge_ahead` meets its contract: the mask, then the row.
use Rattle.std.proofs.Common.{arith}
use Rattle.loops.proofs.EdgesAhead.{edge_other, edge_row}
use Rattle.loops.proofs.edge_ahead.Goals as goal

pub returns-then-here-eq1 : goal.returns-then-here-eq1
returns-then-here-eq1 c = edge_row c.args.here c.args.low (grind arith) c.if-here-eq1.true c.ahead_in_row.ensures

pub returns-else-here-eq1 : goal.returns-else-here-eq1
returns-else-here-eq1 c = edge_other c.args.here c.args.low (grind arith) (grind arith)
