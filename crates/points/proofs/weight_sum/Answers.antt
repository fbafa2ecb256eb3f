-- `points::weight_sum` meets its contract: before vertex i the sum and what the vertices from i on add are the definition's sum.
use native.Mathlib.Omega.{arith}
use borrow.Author.Rules.{rules}
use Rattle.points.proofs.WeightSums.{summed_none, summed_next, summed_all}
use Rattle.points.proofs.weight_sum.Goals as goal

pub loop-i-init : goal.loop-i-init
loop-i-init c = summed_none c.requires.cells.axes _ c.args.p c.args.axis

pub loop-i-preserved : goal.loop-i-preserved
loop-i-preserved c =
    summed_next c.requires.cells.axes _ c.args.p c.args.axis c.loop-i-test.true (search rules) c.loop-i.invariant c.weight-sum.ensures

pub returns : goal.returns
returns c =
    summed_all c.requires.cells.axes _ c.args.p c.args.axis (omega (arith, c.loop-i.invariant.high, c.loop-i-test.false)) c.loop-i.invariant
