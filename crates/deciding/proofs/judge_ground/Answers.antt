-- `deciding::judge_ground` meets its contract: Open's refusal, the place's, or the ground.
use Rattle.job.proofs.Opened.{job_axes}
use Rattle.columns.proofs.FacetColumns.{zero_cells}
use Rattle.located.proofs.Passed.{passed_on}
use Rattle.judge.proofs.JudgeAnswers.{open_judges}
use Rattle.deciding.proofs.Answers.{ground_answered}
use Rattle.deciding.proofs.judge_ground.Goals as goal

pub returns-in_err-job : goal.returns-in_err-job
returns-in_err-job c =
    let h = ground_answered _ _ _ (passed_on _ _ _ c.from_residual.ensures.1 (open_judges _ _ _ c.in_err-job.ensures)) in
    record { named = h.0; agrees = h.1 }

pub place_in-requires : goal.place_in-requires
place_in-requires c = zero_cells (job_axes c.in_ok-job.job.opened)
