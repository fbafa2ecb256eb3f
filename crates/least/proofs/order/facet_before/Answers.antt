-- `least::order::facet_before` meets its contract: axis 1 decides, or the coordinates are compared as slices, and behind them the masks.
use Rattle.std.proofs.Common.{◌≡◌, arith, length, take}
use Rattle.least.proofs.FacetOrder.{first_decides, facets_compared}
use Rattle.least.proofs.order.facet_before.Goals as goal

pub returns-then-x-y : goal.returns-then-x-y
returns-then-x-y c =
    first_decides c.args.n (omega (arith, c.requires.low)) c.args.p c.args.q (omega arith) (omega arith) (record { sfits = omega arith })
    (record { sfits = omega arith }) c.if-x-y.true

pub returns : goal.returns
returns c =
    let same : length (take c.args.n c.args.p.low.coordinates) ≡ length (take c.args.n c.args.q.low.coordinates) = grind arith in
    rw (c.is_lt.ensures, c.then.ensures, c.cmp-lows.ensures, c.cmp-masks.ensures) (facets_compared c.args.n c.args.p c.args.q same)
