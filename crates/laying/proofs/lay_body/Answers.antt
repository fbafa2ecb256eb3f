-- `laying::lay_body` meets its contract: after k turns the first k bytes of the body are laid.
use Rattle.laying.proofs.Behind.{sets_next}
use Rattle.laying.proofs.lay_body.Goals as goal

pub loop-k-preserved : goal.loop-k-preserved
loop-k-preserved c = rw c.loop-k.invariant (sets_next _ _ _ _ c.loop-k-test.true)
