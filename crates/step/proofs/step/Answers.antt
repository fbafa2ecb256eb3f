-- `step::step` meets its contract: refused as Open refuses, or as Point refuses, or the job's step.
use Rattle.std.proofs.Common.{rules, Ok, ap, ◌∙◌}
use Rattle.paper.specs.Operations.{step_in}
use Rattle.paper.specs.Answers.{padded_next}
use Rattle.job.proofs.Opened.{job_axes}
use Rattle.columns.proofs.FacetColumns.{zero_cells}
use Rattle.located.proofs.Passed.{passed_on}
use Rattle.judge.proofs.PointAnswers.{open_points}
use Rattle.step.proofs.CrossingHeld.{found_place, found_held}
use Rattle.step.proofs.StepAnswers.{step_answered, ahead_answered}
use Rattle.step.proofs.step.Goals as goal

pub returns-in_err-job : goal.returns-in_err-job
returns-in_err-job c = step_answered _ _ _ (passed_on _ _ _ c.from_residual.ensures.1 (open_points _ _ _ c.in_err-job.ensures))

pub crossing_in-requires : goal.crossing_in-requires
crossing_in-requires c = zero_cells (job_axes c.in_ok-job.job.opened)

pub returns-in_err-here : goal.returns-in_err-here
returns-in_err-here c =
    rw (← c.in_ok-job.ensures.1) (step_answered _ _ _ (passed_on _ _ _ c.from_residual-in_err-here.ensures.1 c.in_err-here.ensures.found))

pub onward-requires : goal.onward-requires
onward-requires c =
    let f = c.in_ok-here.ensures.found in
    found_held c.in_ok-job.job.opened f.1.0 f.0

pub returns : goal.returns
returns c =
    let j = c.in_ok-job.job in
    let f = c.in_ok-here.ensures.found in
    rw (← c.in_ok-job.ensures.1)
    (step_answered _ _ (Ok c.map.result) (
      f.0,
      ahead_answered _ _ _ _ _ _ c.onward.ensures c.map.ensures.cases (λ q y k. search rules)
          ∙ ap (λ x. padded_next (step_in j.bytes.now x)) (found_place j.opened f.1.0),
    ))
