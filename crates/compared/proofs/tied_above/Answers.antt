-- `compared::tied_above` meets its contract. The invariant: every coefficient of a power before j is 0.
use native.Mathlib.Omega.{arith}
use mathlib.Core.Path.{ap, ◌∙◌}
use lib.Dec.{lit≤}
use Rattle.std.specs.declared.cmp.Ordering.TheVariants.{Less, Equal, Greater}
use Rattle.exact.specs.Sign.{sign}
use Rattle.exact.proofs.SignLaws.{sign_zero}
use Rattle.facets.proofs.SignOrder.{sign_is}
use Rattle.compared.proofs.PairSigns.{passed_begin, passed_nought, greater_above, less_below, equal_nought, found_above, found_below, found_none}
use Rattle.compared.proofs.tied_above.Goals as goal

pub loop-j-init : goal.loop-j-init
loop-j-init c l =
    let a = c.args in
    passed_nought a.n a.cells.now a.q a.r l 0 (omega (arith, c.requires.cells.0.axes.low))
    (passed_begin a.n a.cells.now a.q a.r l) (ap sign c.requires.q_value ∙ sign_zero)

pub returns-in-Greater : goal.returns-in-Greater
returns-in-Greater c =
    let l = c.requires.cells.1.0 in
    let loop = c.loop-j in
    found_above c.args.n c.args.cells.now c.args.q c.args.r l loop.j c.loop-j-test.true (loop.invariant l)
    (greater_above (sign_is Greater c.in-Greater.ensures c.pair_coefficient.ensures (lit≤ tt)))

pub returns-in-Less : goal.returns-in-Less
returns-in-Less c =
    let l = c.requires.cells.1.0 in
    let loop = c.loop-j in
    found_below c.args.n c.args.cells.now c.args.q c.args.r l loop.j c.loop-j-test.true (loop.invariant l)
    (less_below (sign_is Less c.in-Less.ensures c.pair_coefficient.ensures (lit≤ tt)))

pub loop-j-preserved : goal.loop-j-preserved
loop-j-preserved c l =
    let loop = c.loop-j in
    passed_nought c.args.n c.args.cells.now c.args.q c.args.r l loop.j c.loop-j-test.true (loop.invariant l)
    (equal_nought (sign_is Equal c.in-Equal.ensures c.pair_coefficient.ensures (lit≤ tt)))

pub returns : goal.returns
returns c =
    let l = c.requires.cells.1.0 in
    found_none c.args.n c.args.cells.now c.args.q c.args.r l c.loop-j.j c.loop-j-test.false (c.loop-j.invariant l)
