-- `pen::pen` meets its contract: each return is the law of its name in PenAnswers, and place k lies within the list.
use Rattle.std.proofs.Common.{ℕ, ◌+◌, ◌*◌, ◌≤◌, length, refl, sym, ◌∙◌, arith}
use Rattle.paper.specs.Refusals.{refusal_number, answer_by}
use Rattle.paper.specs.Pen.{move_as, penned_as}
use Rattle.paper.proofs.PlaceLists.{place_ends}
use Rattle.job.proofs.Opened.{job_axes}
use Rattle.located.proofs.Passed.{passed_on}
use Rattle.pen.proofs.PenAnswers.{pen_not_opened, pen_uneven, pen_closes, pen_past, pen_at}
use Rattle.pen.proofs.pen.Goals as goal
use Rattle.pen.proofs.pen.Goals.{In_ok-job, Else-count-k}

pub returns-in_err-job : goal.returns-in_err-job
unfolding penned_as
returns-in_err-job c = pen_not_opened _ _ _ _ _ c.from_residual.result c.from_residual.ensures.1 c.in_err-job.ensures

-- a place has at least six bytes, and at most twelve
axes : (c : In_ok-job) → (2 ≤ c.in_ok-job.job.n) × (c.in_ok-job.job.n ≤ 4)
axes c = let a = job_axes c.in_ok-job.job.opened in (omega (arith, a.low), omega (arith, a.high))

pub overflow_mul-size : goal.overflow_mul-size
overflow_mul-size c = omega (arith, axes (goal.at.overflow_mul-size c).In_ok-job)

pub nonzero_div-count : goal.nonzero_div-count
nonzero_div-count c = omega (arith, axes (goal.at.nonzero_div-count c).In_ok-job)

pub nonzero_rem-places : goal.nonzero_rem-places
nonzero_rem-places c = omega (arith, axes (goal.at.nonzero_rem-places c).In_ok-job)

pub returns-then-places-size-ne0 : goal.returns-then-places-size-ne0
unfolding penned_as answer_by refusal_number
returns-then-places-size-ne0 c =
    rw (← c.in_ok-job.ensures.1) (pen_uneven _ _ _ _ c.in_ok-job.job.opened c.if-places-size-ne0.true)

pub returns-then-closes : goal.returns-then-closes
unfolding penned_as answer_by move_as
returns-then-closes c =
    rw (← c.in_ok-job.ensures.1)
    (pen_closes _ _ _ _ c.in_ok-job.job.opened c.if-places-size-ne0.false (sym c.closes.ensures ∙ c.if-closes.true))

pub returns-then-count-k : goal.returns-then-count-k
unfolding penned_as answer_by refusal_number
returns-then-count-k c =
    rw (← c.in_ok-job.ensures.1)
    (pen_past _ _ _ _ c.in_ok-job.job.opened c.if-places-size-ne0.false (sym c.closes.ensures ∙ c.if-closes.false) c.if-count-k.true)

-- place k ends within the list
ends : (c : Else-count-k) → 3 * c.in_ok-job.job.n * c.args.k + 3 * c.in_ok-job.job.n ≤ length c.args.places.now
ends c = place_ends (3 * c.in_ok-job.job.n) c.args.k c.args.places.now (omega (arith, (job_axes c.in_ok-job.job.opened).low)) c.if-count-k.false

pub overflow_mul-from : goal.overflow_mul-from
overflow_mul-from c = omega (arith, ends (goal.at.overflow_mul-from c).Else-count-k)

pub returns-else-count-k : goal.returns-else-count-k
returns-else-count-k c =
    rw (← c.in_ok-job.ensures.1)
    (c.move_to.ensures
    ∙ pen_at _ _ _ _ c.in_ok-job.job.opened c.if-places-size-ne0.false (sym c.closes.ensures ∙ c.if-closes.false) c.if-count-k.false _ refl)
