-- `rows::add_row` meets its contract. The loop's invariant: the first k terms of the row are added (`RowTo`).
use native.Mathlib.Omega.{arith}
use Rattle.formula.specs.Polynomial.{monomial_count, cell}
use Rattle.rows.proofs.CoefficientBits.{coefficient_held}
use Rattle.rows.proofs.Bounds.{bounded_more, kept_bounded}
use Rattle.rows.proofs.RowsAdded.{row_starts, row_next, row_skipped, row_ends}
use Rattle.rows.proofs.add_row.Goals as goal

pub returns-then-c-eq0 : goal.returns-then-c-eq0
returns-then-c-eq0 c = row_skipped c.requires.i_lt_monomial_count.1 c.requires.bounded c.if-c-eq0.true

pub loop-k-init : goal.loop-k-init
loop-k-init c = row_starts c.requires.bounded

pub add_term-requires-clause-bounded : goal.add_term-requires-clause-bounded
unfolding monomial_count cell
add_term-requires-clause-bounded c =
    let loop = c.loop-k in
    let given = c.requires.i_lt_monomial_count in
    (bounded_more loop.invariant.bounded (omega (arith, given.0)), (coefficient_held given.1, coefficient_held ((kept_bounded c.args.q.now.cells c.args.q.now.kept).each loop.k)))

pub loop-k-preserved : goal.loop-k-preserved
loop-k-preserved c =
    row_next c.loop-k.invariant (omega arith) (coefficient_held c.requires.i_lt_monomial_count.1)
    (kept_bounded c.args.q.now.cells c.args.q.now.kept) c.add_term.ensures

pub returns : goal.returns
returns c =
    row_ends c.requires.i_lt_monomial_count.1 c.if-c-eq0.false c.loop-k.invariant c.loop-k.auto.k-end c.loop-k-test.false
