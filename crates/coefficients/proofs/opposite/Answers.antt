-- `coefficients::opposite` meets its contract.
use Rattle.std.proofs.Common.{◌≡◌}
use Rattle.exact.specs.Int.{◌⊖◌, 0ℤ}
use Rattle.formula.specs.Polynomial.{monomial_count, zero_polynomial, cell, cellwise}
use Rattle.coefficients.proofs.CellsMade.{made_starts, opposite_fits, opposite_next, opposite_ends, opposite_kept, opposite_is}
use Rattle.coefficients.proofs.opposite.Goals as goal
use Rattle.coefficients.proofs.opposite.Goals.{After-loop-k}

pub loop-k-init : goal.loop-k-init
loop-k-init c = made_starts (λ j. 0ℤ ⊖ cell c.args.q.now.cells j) c.args.q.now.cells c.args.q.now.kept.0

pub overflow_sub-cells : goal.overflow_sub-cells
overflow_sub-cells c = opposite_fits c.args.q.now.cells c.args.q.now.kept c.loop-k.invariant

pub loop-k-preserved : goal.loop-k-preserved
unfolding monomial_count
loop-k-preserved c = opposite_next c.args.q.now.cells c.args.q.now.kept c.loop-k.invariant c.loop-k-test.true

made : (c : After-loop-k) → c.loop-k.cells ≡ cellwise ◌⊖◌ zero_polynomial c.args.q.now.cells
unfolding monomial_count
made c = opposite_ends c.args.q.now.cells c.args.q.now.kept c.loop-k.invariant c.loop-k-test.false

pub invariant_of-result : goal.invariant_of-result
invariant_of-result c =
    let is = made (goal.at.invariant_of-result c).After-loop-k in
    record { kept = opposite_kept c.args.q.now.cells c.args.q.now.kept is c.loop-k.invariant.long }

pub returns : goal.returns
returns c =
    let is = made (goal.at.returns c).After-loop-k in
    record { value = opposite_is c.args.q.now.cells c.args.q.now.kept is; cells = is }
