-- `pen::move_to` meets its contract: Point's refusal, or a move to its point, whose coordinates are small enough to cast.
use Rattle.std.proofs.Common.{sym, ap, ◌∙◌}
use Rattle.paper.specs.Answers.{pointed_as}
use Rattle.paper.specs.Refusals.{answer_by}
use Rattle.paper.specs.Pen.{move_as, penned_as}
use Rattle.pen.proofs.PointMoves.{move_refused, step_sizes, move_lift, move_draw}
use Rattle.pen.proofs.move_to.Goals as goal

pub millimetres-point-requires : goal.millimetres-point-requires
unfolding pointed_as answer_by
millimetres-point-requires c = step_sizes _ _ c.args.k _ c.in_ok-point_in.ensures

pub returns-in_err-point_in : goal.returns-in_err-point_in
unfolding pointed_as penned_as answer_by
returns-in_err-point_in c = move_refused _ _ c.args.k _ c.from_residual.result c.from_residual.ensures.1 c.in_err-point_in.ensures

pub returns-then-k-eq0 : goal.returns-then-k-eq0
unfolding pointed_as penned_as answer_by move_as
returns-then-k-eq0 c = move_lift _ _ c.args.k _ c.in_ok-point_in.ensures _ c.millimetres-point.ensures c.if-k-eq0.true

pub returns-else-k-eq0 : goal.returns-else-k-eq0
unfolding pointed_as penned_as answer_by move_as
returns-else-k-eq0 c = move_draw _ _ c.args.k _ c.in_ok-point_in.ensures _ c.millimetres-point.ensures c.if-k-eq0.false
