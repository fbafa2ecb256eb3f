-- `table::vertex_mask` meets its contract: vertex k has digit k.
use mathlib.Core.Path.{sym, ◌∙◌}
use native.Mathlib.Omega.{arith}
use Rattle.table.specs.Table.{order_at}
use Rattle.table.proofs.TableRows.{row_length}
use Rattle.table.proofs.VertexMasks.{vertex_mask_none}
use Rattle.table.proofs.vertex_mask.Goals as goal

pub returns-then-n-k : goal.returns-then-n-k
returns-then-n-k c =
    sym
    (vertex_mask_none (order_at c.args.n c.args.row) c.args.k
    (omega (arith, c.if-n-k.true, row_length c.args.n c.args.row c.requires)))

pub returns-else-n-k : goal.returns-else-n-k
returns-else-n-k c =
    c.digit.ensures
    ∙ c.vertex_masks.ensures.at c.args.k (omega (arith, c.if-n-k.false, c.requires.axes.high))
