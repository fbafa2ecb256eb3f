-- `judge::point` meets its contract: what the place says, or Open's refusal.
use Rattle.located.proofs.Passed.{passed_on}
use Rattle.judge.proofs.PointAnswers.{open_points, point_answered}
use Rattle.judge.proofs.point.Goals as goal

pub returns-in_err-open : goal.returns-in_err-open
returns-in_err-open c = point_answered _ _ _ (passed_on _ _ _ c.from_residual.ensures.1 (open_points _ _ _ c.in_err-open.ensures))

pub returns : goal.returns
returns c = rw (← c.in_ok-open.ensures.1) c.point_in.ensures
