-- `compared::exit` meets its contract. The invariant: q is what was kept of the vertices before the k-th.
use native.Mathlib.Omega.{arith}
use Rattle.exact.proofs.Position.{skip_le}
use Rattle.determinants.specs.Cells.{simplex_columns}
use Rattle.compared.proofs.PairSigns.{compare_begin, compare_next, compare_end}
use Rattle.compared.proofs.exit.Goals as goal

pub loop-k-init : goal.loop-k-init
loop-k-init c =
    let a = c.args in
    compare_begin a.n (simplex_columns a.n a.cells.now) a.plus a.out (omega (arith, c.requires.0.axes.low)) c.skip-q.ensures.0

pub kept-q-requires : goal.kept-q-requires
kept-q-requires c =
    let pre = c.requires in
    let k = c.loop-k.k in
    let e = c.skip.ensures.0 in (
      pre.0,
      (
        omega (arith, e, c.loop-k.invariant.low),
        (omega (arith, e, skip_le c.args.n c.args.out k pre.1 c.loop-k-test.true), pre.1),
      ),
    )

pub loop-k-preserved : goal.loop-k-preserved
loop-k-preserved c =
    let a = c.args in
    compare_next a.n (simplex_columns a.n a.cells.now) a.plus a.out c.loop-k-test.true
    c.loop-k.invariant c.skip.ensures.0 c.kept-q.ensures

pub returns : goal.returns
returns c =
    let a = c.args in
    compare_end a.n (simplex_columns a.n a.cells.now) a.plus a.out c.loop-k-test.false c.loop-k.invariant
