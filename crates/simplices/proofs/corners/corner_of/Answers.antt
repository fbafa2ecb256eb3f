-- `simplices::corners::corner_of` meets its contract: without vertex 0 the facet's lowest vertex lies one above the corner, else it is the corner.
-- What the call that moves it needs and ensures is searched for and not named, so that a vertex moved the other way is refused for where it lies.
use mathlib.Core.Path.{◌∙◌}
use native.Mathlib.Omega.{arith}
use borrow.Author.Rules.{rules}
use Rattle.table.specs.Table.{order_at}
use Rattle.sides.proofs.MovedCorners.{corner_lowered, corner_same}
use Rattle.simplices.proofs.corners.corner_of.Goals as goal

pub returns-then-out-eq0 : goal.returns-then-out-eq0
returns-then-out-eq0 c n row digits =
    corner_lowered c.args.p.low (order_at n row) c.args.out
    c.if-out-eq0.true (c.digit.ensures ∙ digits.at 1 (omega arith)) (search rules)

pub returns-else-out-eq0 : goal.returns-else-out-eq0
returns-else-out-eq0 c n row digits =
    corner_same c.args.p.low (order_at n row) c.args.out c.if-out-eq0.false
