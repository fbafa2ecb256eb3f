-- `judge::point_in` meets its contract: the place's refusal, or its point.
use Rattle.std.proofs.Common.{Ok, ap, ◌∙◌}
use Rattle.exact.specs.Int.{0ℤ}
use Rattle.paper.specs.Answers.{padded}
use Rattle.job.proofs.Opened.{job_axes}
use Rattle.columns.proofs.FacetColumns.{zero_cells}
use Rattle.located.proofs.Passed.{passed_on}
use Rattle.judge.proofs.PointAnswers.{point_answered, point_is, low_size}
use Rattle.judge.proofs.point_in.Goals as goal

pub crossing_in-requires : goal.crossing_in-requires
crossing_in-requires c = zero_cells (job_axes c.args.job.opened)

pub returns-in_err-here : goal.returns-in_err-here
returns-in_err-here c = point_answered _ _ _ (passed_on _ _ _ c.from_residual.ensures.1 c.in_err-here.ensures.found)

pub point-requires : goal.point-requires
point-requires c =
    let at = c.in_ok-here.ensures in
    record { cells = at.within; n_value = at.found.1.1; vertex_size = low_size at.found.1.0.place.size }

pub returns : goal.returns
returns c =
    let f = c.in_ok-here.ensures.found in
    point_answered _ _ (Ok c.point.result) (f.0, c.point.ensures ∙ ap (padded 0ℤ 4) (point_is c.args.job.opened f.1.0))
