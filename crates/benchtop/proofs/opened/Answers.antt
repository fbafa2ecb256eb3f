-- `benchtop::opened` meets its contract: Open's refusal, or none, or 17.
use Rattle.std.proofs.Common.{sym, ◌∙◌}
use Rattle.paper.specs.Refusals.{refusal_number}
use Rattle.located.proofs.Passed.{passed_on}
use Rattle.benchtop.proofs.SmallAnswers.{open_turns_away, not_refused_either, too_large}
use Rattle.benchtop.proofs.opened.Goals as goal

pub returns-in_err-job : goal.returns-in_err-job
returns-in_err-job c = passed_on _ _ _ c.from_residual.ensures.1 (open_turns_away _ _ c.in_err-job.ensures)

pub returns-then-job_small : goal.returns-then-job_small
returns-then-job_small c =
    let j = c.in_ok-job.ensures in
    let small = rw j.1 at (sym c.job_small.ensures ∙ c.if-job_small.true) in
    (not_refused_either c.args.job.now j.0 small, j.1)

pub returns-else-job_small : goal.returns-else-job_small
unfolding refusal_number
returns-else-job_small c =
    let j = c.in_ok-job.ensures in
    let large = rw j.1 at (sym c.job_small.ensures ∙ c.if-job_small.false) in
    too_large c.args.job.now j.0 large
