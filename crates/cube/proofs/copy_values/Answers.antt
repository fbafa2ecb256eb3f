-- `cube::copy_values` meets its contract: one number more at each turn, if it counts.
use native.Mathlib.Omega.{arith}
use Rattle.cube.proofs.CopiedValues.{copying_none, copying_next, copying_past, copying_all}
use Rattle.cube.proofs.copy_values.Goals as goal
use Rattle.cube.proofs.copy_values.Goals.{then-k-count, else-k-count}

pub loop-k-init : goal.loop-k-init
loop-k-init c = copying_none c.requires.axes.1.1

pub loop-k-preserved : goal.loop-k-preserved
loop-k-preserved c =
    elim c.if-k-count.branch [
      | then-k-count w ↦ rw w.to-is (copying_next c.requires.axes.0 c.requires.axes.1.0 c.loop-k.k (omega arith) c.loop-k.invariant w.if-k-count.true)
      | else-k-count w ↦ rw w.to-is (copying_past c.loop-k.k w.if-k-count.false c.loop-k.invariant)
    ]

pub returns : goal.returns
returns c = copying_all c.loop-k.k (omega (arith, c.requires.axes.0.high)) c.loop-k.invariant
