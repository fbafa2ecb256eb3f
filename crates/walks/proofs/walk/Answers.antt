-- `walks::walk` meets its contract. The invariant: the places written so far, followed by the trace from `here`, are the whole
-- trace, the buffer has their bytes, and the cells hold what is carried at `here`.
use Rattle.std.proofs.Common.{arith}
use Rattle.job.proofs.Opened.{job_axes}
use Rattle.walks.proofs.UnderWay.{under_way, is_full, is_over, stays_under_way}
use Rattle.walks.proofs.walk.Goals as goal

pub overflow_mul-size : goal.overflow_mul-size
overflow_mul-size c = omega (arith, (job_axes c.args.job.opened).high)

pub nonzero_div-space : goal.nonzero_div-space
nonzero_div-space c = omega (arith, (job_axes c.args.job.opened).low)

pub loop-count-init : goal.loop-count-init
loop-count-init c = (under_way _ c.requires.held, c.requires)

pub returns-in-Err : goal.returns-in-Err
returns-in-Err c = is_over c.loop-count.invariant.0 c.loop-count-test.true c.in-Err.ensures c.in-Err.ensures.answer

pub loop-count-preserved : goal.loop-count-preserved
loop-count-preserved c =
    let v = c.in-Ok.ensures in
    (stays_under_way c.loop-count.invariant.0 c.loop-count-test.true v v.answer, v.answer.carries)

pub returns : goal.returns
returns c = is_full c.loop-count.invariant.0 c.loop-count-test.false
