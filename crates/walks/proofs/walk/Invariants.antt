-- `walks::walk` meets its contract. The invariant: the places written so far, followed by the trace from `here`, are the whole
-- trace, the buffer has their bytes, and the cells hold what is carried at `here`.
use Rattle.carried.specs.Carries.{Carries}
use Rattle.walks.proofs.UnderWay.{UnderWay}
use Rattle.walks.proofs.walk.Given as goal

abbrev pub invariant-loop-count : goal.invariant-loop-count
invariant-loop-count l =
    UnderWay l.job.bytes.now l.job.n l.start.place l.initial.buffer l.buffer l.here.place l.count × Carries l.job.bytes.now l.job.n l.here l.cells
