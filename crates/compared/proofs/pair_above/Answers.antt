-- `compared::pair_above` meets its contract: the coefficient of power 0 decides unless it is 0.
use mathlib.Core.Path.{refl}
use native.Mathlib.Omega.{arith}
use Rattle.exact.specs.Crossed.{coefficient}
use Rattle.exact.specs.Size.{Is}
use Rattle.exact.proofs.SignLaws.{sign_nought}
use Rattle.determinants.specs.Entries.{coefficient_limit}
use Rattle.compared.proofs.PairSigns.{pair, pair_first, passed_begin, sign_above, sign_below, sign_neither, found_above, found_below}
use Rattle.compared.proofs.pair_above.Goals as goal
use Rattle.compared.proofs.pair_above.Goals.{After-minor-first}

-- the first number is the coefficient of power 0
first : (c : After-minor-first) → Is coefficient_limit (coefficient c.args.n (pair c.args.n c.args.cells.now c.args.q c.args.r c.requires.1.0) 0 0) c.minor-first.result
first c =
    let pre = c.requires in
    pair_first (pre.0, (omega (arith, pre.1.0, pre.1.1), (omega (arith, pre.1.0, pre.1.1), omega (arith, pre.0.axes.low)))) c.minor-first.ensures refl

pub returns-then-first-gt0 : goal.returns-then-first-gt0
returns-then-first-gt0 c =
    let a = c.args in
    let pre = c.requires in
    found_above a.n a.cells.now a.q a.r pre.1.0 0 (omega (arith, pre.0.axes.low)) (passed_begin a.n a.cells.now a.q a.r pre.1.0)
    (sign_above (first (goal.at.returns-then-first-gt0 c).After-minor-first) c.if-first-gt0.true)

pub returns-then-first-lt0 : goal.returns-then-first-lt0
returns-then-first-lt0 c =
    let a = c.args in
    let pre = c.requires in
    found_below a.n a.cells.now a.q a.r pre.1.0 0 (omega (arith, pre.0.axes.low)) (passed_begin a.n a.cells.now a.q a.r pre.1.0)
    (sign_below (first (goal.at.returns-then-first-lt0 c).After-minor-first) c.if-first-lt0.true)

pub tied_above-requires-clause-q_value : goal.tied_above-requires-clause-q_value
tied_above-requires-clause-q_value c =
    sign_nought _
    (sign_neither (first (goal.at.tied_above-requires-clause-q_value c).After-minor-first) c.if-first-gt0.false c.if-first-lt0.false)
