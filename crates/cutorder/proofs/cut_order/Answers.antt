-- `cutorder::cut_order` meets its contract: the refusals of job and list in order, then position by position.
use Rattle.std.proofs.Common.{ap, subst, ◌∙◌}
use Rattle.std.proofs.lemmas.Result.{err_from_is_err_and}
use Rattle.paper.specs.Refusals.{refusal_number, answer_by}
use Rattle.paper.proofs.Refused.{refusal_some}
use Rattle.job.specs.OpenJob.{JobOf}
use Rattle.nesting.specs.Answers.{ordered_as}
use Rattle.cutorder.specs.Ordering.{ordered_in}
use Rattle.positions.proofs.ListedPlaces.{plane}
use Rattle.cutorder.proofs.CutAnswers.{cut_not_opened, cut_other_dimension, cut_uneven, cut_even}
use Rattle.cutorder.proofs.cut_order.Goals as goal
use Rattle.cutorder.proofs.cut_order.Goals.{In_ok-job}

pub returns-in_err-job : goal.returns-in_err-job
unfolding ordered_as answer_by
returns-in_err-job c =
    let p = err_from_is_err_and c.from_residual.result c.from_residual.ensures.1 in
    rw (p.1, p.2) (cut_not_opened _ _ _ c.in_err-job.ensures (refusal_some _))

-- the bytes are a job's
job : (c : In_ok-job) → JobOf c.in_ok-job.job.n c.args.job.now
job c = subst (JobOf c.in_ok-job.job.n) (ap (λ b. b.now) c.in_ok-job.ensures.1) c.in_ok-job.job.opened

pub returns-then-job-ne2 : goal.returns-then-job-ne2
unfolding ordered_as answer_by refusal_number
returns-then-job-ne2 c = cut_other_dimension _ _ (job (goal.at.returns-then-job-ne2 c).In_ok-job) c.if-job-ne2.true

pub returns-then-places-ne0 : goal.returns-then-places-ne0
unfolding ordered_as answer_by refusal_number
returns-then-places-ne0 c = cut_uneven _ _ (plane c.if-job-ne2.false (job (goal.at.returns-then-places-ne0 c).In_ok-job)) c.if-places-ne0.true

pub returns : goal.returns
returns c =
    c.order_in.ensures
    ∙ ap (λ s. ordered_in s c.args.places.now) (ap (λ b. b.now) c.in_ok-job.ensures.1)
    ∙ cut_even _ _ (plane c.if-job-ne2.false (job (goal.at.returns c).In_ok-job)) c.if-places-ne0.false
