-- `loops::ahead_in_row` meets its contract: the coordinates are compared, the second by its bits.
use Rattle.std.proofs.Common.{rules, arith, ◌∙◌}
use Rattle.loops.proofs.EdgesAhead.{row_behind, row_compared}
use Rattle.loops.proofs.ahead_in_row.Goals as goal

pub returns-then-v-w : goal.returns-then-v-w
returns-then-v-w c =
    row_compared c.args.v c.args.w (grind arith) (grind arith) (search rules) (search rules) c.if-v-w.true (search rules) (search rules)

pub returns-else-v-w : goal.returns-else-v-w
returns-else-v-w c = c.if-v-w.false ∙ row_behind c.args.v c.args.w (grind arith) (grind arith) (search rules) (search rules) c.if-v-w.false
