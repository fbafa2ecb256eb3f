-- `termbytes::put_terms` meets its contract: after k turns the terms of the first k monomials stand in the buffer.
use Rattle.formula.specs.Polynomial.{monomial_count, cell}
use Rattle.rows.proofs.Bounds.{kept_bounded}
use Rattle.rows.proofs.CoefficientBits.{coefficient_back, coefficient_held}
use Rattle.termbytes.proofs.TermLists.{terms_start, terms_more, terms_room, terms_whole}
use Rattle.termbytes.proofs.put_terms.Goals as goal

pub loop-k-init : goal.loop-k-init
loop-k-init c = terms_start _ _

pub put_term-at-requires : goal.put_term-at-requires
unfolding monomial_count cell
put_term-at-requires c =
    let kept = kept_bounded c.args.p.now.cells c.args.p.now.kept in
    (coefficient_held (kept.each c.loop-k.k), c.loop-k-test.true, terms_room c.loop-k.invariant c.loop-k-test.true c.requires)

pub loop-k-preserved : goal.loop-k-preserved
unfolding monomial_count cell
loop-k-preserved c =
    let kept = kept_bounded c.args.p.now.cells c.args.p.now.kept in
    terms_more c.loop-k.invariant c.loop-k-test.true (coefficient_back (kept.each c.loop-k.k)) c.put_term-at.ensures

pub returns : goal.returns
unfolding monomial_count
returns c =
    let whole = terms_whole c.loop-k.invariant c.loop-k.auto.k-end c.loop-k-test.false in
    record { value = whole.0; bytes_after = whole.1 }
