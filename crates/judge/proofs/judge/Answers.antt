-- `judge::judge` meets its contract: Open's refusal, the place's, or crossed or not.
use Rattle.std.proofs.Common.{Ok, ◌∙◌}
use Rattle.job.proofs.Opened.{job_axes}
use Rattle.columns.proofs.FacetColumns.{zero_cells}
use Rattle.located.proofs.Passed.{passed_on}
use Rattle.located.proofs.PlaceCrossed.{crossed_is}
use Rattle.judge.proofs.JudgeAnswers.{open_judges, judge_answered}
use Rattle.judge.proofs.judge.Goals as goal

pub returns-in_err-job : goal.returns-in_err-job
returns-in_err-job c =
    let h = judge_answered _ _ _ (passed_on _ _ _ c.from_residual.ensures.1 (open_judges _ _ _ c.in_err-job.ensures)) in
    record { answer = h.0; agrees = h.1 }

pub place_in-requires : goal.place_in-requires
place_in-requires c = zero_cells (job_axes c.in_ok-job.job.opened)

pub returns-in_err-place_in : goal.returns-in_err-place_in
returns-in_err-place_in c =
    let h = judge_answered _ _ _ (passed_on _ _ _ c.from_residual-in_err-place_in.ensures.1 c.in_err-place_in.ensures.found) in
    rw (← c.in_ok-job.ensures.1) (record { answer = h.0; agrees = h.1 })

pub returns : goal.returns
returns c =
    let f = c.in_ok-place_in.ensures.found in
    let h = judge_answered _ _ (Ok c.crossed.result) (f.0, c.crossed.ensures ∙ crossed_is c.in_ok-job.job.opened f.1) in
    rw (← c.in_ok-job.ensures.1) (record { answer = h.0; agrees = h.1 })
