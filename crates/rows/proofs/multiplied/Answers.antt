-- `rows::multiplied` meets its contract. The loop's invariant: the first i rows are added (`RowsTo`).
use native.Mathlib.Omega.{arith}
use Rattle.formula.specs.Polynomial.{cell}
use Rattle.rows.proofs.CoefficientBits.{coefficient_held}
use Rattle.rows.proofs.Bounds.{kept_bounded}
use Rattle.rows.proofs.RowsAdded.{rows_start, rows_next}
use Rattle.rows.proofs.multiplied.Goals as goal

pub loop-i-init : goal.loop-i-init
loop-i-init c = rows_start c.zeros-r.ensures

pub add_row-requires-clause-i_lt_monomial_count : goal.add_row-requires-clause-i_lt_monomial_count
unfolding cell
add_row-requires-clause-i_lt_monomial_count c =
    (omega (arith, c.loop-i-test.true, c.args.p.now.kept.0), coefficient_held ((kept_bounded c.args.p.now.cells c.args.p.now.kept).each c.loop-i.i))

pub loop-i-preserved : goal.loop-i-preserved
loop-i-preserved c =
    rows_next c.loop-i.invariant (omega arith)
    (kept_bounded c.args.p.now.cells c.args.p.now.kept) c.add_row.ensures
