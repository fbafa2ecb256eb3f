-- `field::put_value` meets its contract: body k is the polynomial, and the bias is the job's.
use Rattle.field.proofs.OpenedJob.{job_polynomial}
use Rattle.field.proofs.PutValue.{sum_passed, value_refused, value_put}
use Rattle.field.proofs.put_value.Goals as goal

pub sum_at-sum-requires-clause-polynomial : goal.sum_at-sum-requires-clause-polynomial
sum_at-sum-requires-clause-polynomial c =
    job_polynomial c.args.job.opened _ c.requires.k_nonzero.0 c.requires.k_nonzero.1.0 c.body.ensures.bytes

pub readable-known-requires : goal.readable-known-requires
readable-known-requires c = sum_passed _ _ c.sum_at-sum.ensures

pub value_of-requires : goal.value_of-requires
value_of-requires c = sum_passed _ _ c.sum_at-sum.ensures

pub returns-then-known : goal.returns-then-known
returns-then-known c =
    value_put _ _ _ c.body.ensures.bytes c.sum_at-sum.ensures _ _ _ c.readable-known.ensures c.if-known.true c.value_of.ensures c.bias.ensures

pub returns-else-known : goal.returns-else-known
returns-else-known c =
    value_refused _ _ _ c.body.ensures.bytes c.sum_at-sum.ensures _ _ _ c.readable-known.ensures c.if-known.false
