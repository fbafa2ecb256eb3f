-- `OpenJob::open` meets its contract: each return is the refusal of the first test that failed, and a job without one has opened.
use Rattle.std.proofs.Common.{◌≡◌, true, sym, ◌∙◌}
use Rattle.std.proofs.lemmas.Result.{err_from_is_err_and}
use Rattle.paper.specs.Job.{dimension}
use Rattle.paper.specs.Limits.{dimension_ok}
use Rattle.bits.proofs.EachDimension.{dimension_axes}
use Rattle.job.proofs.OpenSteps.{HeadRight, refuse_short, refuse_mark, refuse_dimension, refuse_count, head_passes}
use Rattle.job.proofs.OpenJob.open.Goals as goal
use Rattle.job.proofs.OpenJob.open.Goals.{After-byte-n, Else-not-dimension_ok}

head : (c : After-byte-n) → HeadRight c.byte-n.result c.args.bytes.now
head c = record {
  long = c.if-bytes-lt4.false;
  mark = sym c.byte.ensures.is ∙ c.if-byte-ne1.false;
  is = c.byte-n.ensures.is;
}

dimension-right : (c : Else-not-dimension_ok) → dimension_ok c.byte-n.result ≡ true
dimension-right c = sym c.dimension_ok.ensures ∙ c.if-not-dimension_ok.false

pub returns-then-bytes-lt4 : goal.returns-then-bytes-lt4
returns-then-bytes-lt4 c = refuse_short _ c.if-bytes-lt4.true

pub returns-then-byte-ne1 : goal.returns-then-byte-ne1
returns-then-byte-ne1 c = refuse_mark _ c.if-bytes-lt4.false (λ h. c.if-byte-ne1.true (c.byte.ensures.is ∙ h))

pub returns-then-not-dimension_ok : goal.returns-then-not-dimension_ok
returns-then-not-dimension_ok c =
    refuse_dimension (head (goal.at.returns-then-not-dimension_ok c).After-byte-n) (sym c.dimension_ok.ensures ∙ c.if-not-dimension_ok.true)

pub returns-then-byte-n : goal.returns-then-byte-n
returns-then-byte-n c =
    refuse_count (head (goal.at.returns-then-byte-n c).After-byte-n) (dimension-right (goal.at.returns-then-byte-n c).Else-not-dimension_ok)
    c.byte-2.ensures.is c.if-byte-n.true

pub test_bodies-requires : goal.test_bodies-requires
test_bodies-requires c = dimension_axes _ (dimension-right (goal.at.test_bodies-requires c).Else-not-dimension_ok)

pub returns-in_err-test_bodies : goal.returns-in_err-test_bodies
returns-in_err-test_bodies c =
    let p = err_from_is_err_and c.from_residual.result c.from_residual.ensures.1 in
    rw (p.1, p.2)
    (c.in_err-test_bodies.ensures
    ∙ head_passes (head (goal.at.returns-in_err-test_bodies c).After-byte-n)
    (dimension-right (goal.at.returns-in_err-test_bodies c).Else-not-dimension_ok) c.byte-2.ensures.is c.if-byte-n.false)

pub invariant_of-result : goal.invariant_of-result
unfolding dimension
invariant_of-result c = record {
  opened = record {
    opens =
        sym (head_passes (head (goal.at.invariant_of-result c).After-byte-n) (dimension-right (goal.at.invariant_of-result c).Else-not-dimension_ok)
        c.byte-2.ensures.is c.if-byte-n.false)
        ∙ c.in_ok-test_bodies.ensures.0;
    dimension = c.byte-n.ensures.is;
  };
}
