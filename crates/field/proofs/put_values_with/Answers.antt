-- `field::put_values_with` meets its contract.
use native.Mathlib.Omega.{arith}
use Rattle.job.proofs.Opened.{job_axes}
use Rattle.field.proofs.OpenedJob.{job_near}
use Rattle.field.proofs.PutValues.{putting_next, putting_fails, putting_all}
use Rattle.field.proofs.put_values_with.Goals as goal

pub put_powers-requires : goal.put_powers-requires
put_powers-requires c = job_near c.args.job.opened _ c.requires.inside

pub returns-then-not-put_value : goal.returns-then-not-put_value
returns-then-not-put_value c =
    putting_fails c.args.job.opened _ c.loop-j.invariant (omega arith) (rw c.put_powers.ensures.1 at c.put_value.ensures) c.if-not-put_value.true

pub loop-j-preserved : goal.loop-j-preserved
loop-j-preserved c =
    putting_next c.args.job.opened _ (omega arith) c.loop-j.invariant (rw c.put_powers.ensures.1 at c.put_value.ensures) c.requires.i_bound.0
    c.if-not-put_value.false

pub returns : goal.returns
returns c =
    let axes = job_axes c.args.job.opened in
    putting_all c.args.job.opened _ c.loop-j.invariant (omega arith) (omega (arith, axes.low))
