-- `determinants::determinant` meets its contract: before vertex i the sum is that of the first i weights, and all of them are D.
use native.Mathlib.Omega.{arith}
use Rattle.determinants.proofs.FacetMinors.{weights_none, weights_next, weights_all}
use Rattle.determinants.proofs.determinant.Goals as goal

pub loop-i-init : goal.loop-i-init
loop-i-init c = (omega arith, weights_none _)

pub overflow_add-sum : goal.overflow_add-sum
overflow_add-sum c =
    (weights_next (c.requires.cells, c.requires.out_le_n) c.loop-i-test.true c.loop-i.invariant.1 c.coefficient-sum.ensures).0

pub loop-i-preserved : goal.loop-i-preserved
loop-i-preserved c = (
  omega arith,
  (weights_next (c.requires.cells, c.requires.out_le_n) c.loop-i-test.true c.loop-i.invariant.1 c.coefficient-sum.ensures).1,
)

pub returns : goal.returns
returns c = weights_all (c.requires.cells, c.requires.out_le_n) (omega (arith, c.loop-i.invariant.0, c.loop-i-test.false)) c.loop-i.invariant.1
