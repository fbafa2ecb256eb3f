-- `body::part` meets its contract.
use Rattle.std.proofs.Common.{◌≡◌, ap, subst, ◌∙◌, List, ℕ, Bor}
use Rattle.std.proofs.lemmas.Result.{err_from_is_err_and}
use Rattle.paper.specs.Job.{dimension}
use Rattle.body.specs.PartOffset.{PartOf}
use Rattle.body.proofs.BodySteps.{not_opened, index_right, index_wrong}
use Rattle.body.proofs.part.Goals as goal
use Rattle.body.proofs.part.Goals.{In_ok-job}

-- the dimension of the job that has opened
read : (c : In_ok-job) → c.in_ok-job.job.n ≡ dimension c.args.job.now
read c = c.in_ok-job.job.opened.dimension ∙ ap (λ (b : Bor (List ℕ)). dimension b.now) c.in_ok-job.ensures.1

pub returns-in_err-job : goal.returns-in_err-job
returns-in_err-job c =
    let p = err_from_is_err_and c.from_residual.result c.from_residual.ensures.1 in
    rw (p.1, p.2) (not_opened _ _ c.in_err-job.field-0.0 c.in_err-job.ensures)

pub returns-then-job-k : goal.returns-then-job-k
returns-then-job-k c = index_wrong _ _ c.in_ok-job.ensures.0 (read (goal.at.returns-then-job-k c).In_ok-job) c.if-job-k.true

pub returns : goal.returns
returns c = (
  index_right _ _ c.in_ok-job.ensures.0 (read (goal.at.returns c).In_ok-job) c.if-job-k.false,
  subst (λ (b : Bor (List ℕ)). PartOf b c.args.k c.body.result) c.in_ok-job.ensures.1
      (record { place = c.body.ensures.place; bytes = c.body.ensures.bytes }),
)
