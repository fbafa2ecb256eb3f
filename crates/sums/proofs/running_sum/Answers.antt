-- `sums::running_sum` meets its contract: Open's refusal, 12, 12 or 9, or the running sum.
use native.Mathlib.Omega.{arith}
use mathlib.Core.Path.{sym, ◌∙◌}
use Rattle.std.proofs.Common.{Ok, Err}
use Rattle.paper.specs.Job.{term_count}
use Rattle.paper.specs.Refusals.{refusal_number}
use Rattle.paper.specs.declared.Refusal.TheVariants.{Index, Outside}
use Rattle.job.proofs.Opened.{job_axes}
use Rattle.field.proofs.OpenedJob.{job_polynomial, job_near}
use Rattle.sums.proofs.SumAnswers.{sum_is, sum_unopened, no_polynomial, too_few_terms, vertex_outside, sum_answered}
use Rattle.sums.proofs.running_sum.Goals as goal

pub returns-in_err-open : goal.returns-in_err-open
returns-in_err-open c = sum_is _ _ _ _ _ (sum_unopened _ _ _ _ _ _ c.in_err-open.ensures c.from_residual.ensures)

pub overflow_sub-open : goal.overflow_sub-open
overflow_sub-open c = omega (arith, (job_axes c.in_ok-open.open.opened).low)

pub returns-then-open-index : goal.returns-then-open-index
unfolding refusal_number
returns-then-open-index c =
    rw (← c.in_ok-open.ensures.1) (sum_is _ _ _ _ (Err Index) (no_polynomial c.in_ok-open.open.opened _ c.args.v _ c.if-open-index.true))

pub returns-then-body-terms : goal.returns-then-body-terms
unfolding refusal_number term_count
returns-then-body-terms c =
    rw (← c.in_ok-open.ensures.1) (
    sum_is _ _ _ _ (Err Index)
    (too_few_terms c.in_ok-open.open.opened _ c.args.v _ c.if-open-index.false c.body-body.ensures.bytes c.if-body-terms.true))

pub returns-then-not-vertex_inside : goal.returns-then-not-vertex_inside
unfolding refusal_number term_count
returns-then-not-vertex_inside c =
    rw (← c.in_ok-open.ensures.1) (
    sum_is _ _ _ _ (Err Outside)
    (vertex_outside c.in_ok-open.open.opened _ c.args.v _ c.if-open-index.false c.body-body.ensures.bytes c.if-body-terms.false
    (sym c.vertex_inside.ensures ∙ c.if-not-vertex_inside.true)))

pub running_sum-requires-clause-polynomial : goal.running_sum-requires-clause-polynomial
running_sum-requires-clause-polynomial c = (
  job_polynomial c.in_ok-open.open.opened _ (omega arith) (omega arith) c.body-body.ensures.bytes,
  job_near c.in_ok-open.open.opened _ (sym c.vertex_inside.ensures ∙ c.if-not-vertex_inside.false),
)

pub running_sum-requires-clause-terms_bound : goal.running_sum-requires-clause-terms_bound
unfolding term_count
running_sum-requires-clause-terms_bound c = omega arith

pub returns : goal.returns
unfolding term_count
returns c =
    rw (← c.in_ok-open.ensures.1) (
    sum_is _ _ _ _ (Ok _)
    (sum_answered c.in_ok-open.open.opened _ c.args.v _ c.if-open-index.false c.body-body.ensures.bytes c.if-body-terms.false
    (sym c.vertex_inside.ensures ∙ c.if-not-vertex_inside.false) c.running_sum.ensures))
