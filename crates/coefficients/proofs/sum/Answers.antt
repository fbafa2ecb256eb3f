-- `coefficients::sum` meets its contract.
use Rattle.std.proofs.Common.{◌∙◌, ap}
use Rattle.exact.specs.Int.{◌⊕◌}
use Rattle.formula.specs.Polynomial.{monomial_count, cell, within, sum_of}
use Rattle.coefficients.proofs.CellsMade.{made_starts, sum_fits, sum_next, sum_ends}
use Rattle.coefficients.proofs.sum.Goals as goal

pub loop-k-init : goal.loop-k-init
loop-k-init c = made_starts (λ j. cell c.args.p.now.cells j ⊕ cell c.args.q.now.cells j) c.args.p.now.cells c.args.p.now.kept.0

pub overflow_add-cells : goal.overflow_add-cells
overflow_add-cells c = sum_fits c.args.p.now.cells c.args.q.now.cells c.args.p.now.kept c.args.q.now.kept c.loop-k.invariant

pub loop-k-preserved : goal.loop-k-preserved
unfolding monomial_count
loop-k-preserved c =
    sum_next c.args.p.now.cells c.args.q.now.cells c.args.p.now.kept c.args.q.now.kept c.loop-k.invariant c.loop-k-test.true

pub returns : goal.returns
unfolding sum_of monomial_count
returns c =
    c.within.ensures
    ∙ ap within (sum_ends c.args.p.now.cells c.args.q.now.cells c.args.p.now.kept c.args.q.now.kept c.loop-k.invariant c.loop-k-test.false)
