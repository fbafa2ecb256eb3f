-- `points::point` meets its contract: the coordinates before `axis` are those of the definition's point.
use native.Mathlib.Omega.{arith}
use borrow.Author.Rules.{rules}
use Rattle.places.specs.Held.{masks_as}
use Rattle.determinants.specs.Cells.{facet_columns}
use Rattle.points.proofs.PointSteps.{asks, gives, point_begin, point_next, point_is}
use Rattle.points.proofs.point.Goals as goal

pub loop-axis-init : goal.loop-axis-init
loop-axis-init c = point_begin c.args.n (facet_columns c.args.n c.args.cells.now c.args.n) (masks_as c.args.n c.args.p) c.args.p.low

pub coordinate-requires : goal.coordinate-requires
coordinate-requires c =
    asks c.requires.cells c.requires.n_value c.args.p (search rules) c.loop-axis.axis (c.requires.vertex_size.each c.loop-axis.axis)
    c.determinant-d.ensures c.weight_sum.ensures

pub loop-axis-preserved : goal.loop-axis-preserved
loop-axis-preserved c =
    point_next c.args.n (facet_columns c.args.n c.args.cells.now c.args.n) (masks_as c.args.n c.args.p) c.args.p.low
    (omega (arith, c.loop-axis-test.true, c.requires.cells.axes.high)) c.loop-axis.invariant
    (gives c.requires.cells c.requires.n_value c.args.p (search rules) c.loop-axis.axis (c.requires.vertex_size.each c.loop-axis.axis)
    c.determinant-d.ensures c.weight_sum.ensures c.coordinate.ensures)

pub returns : goal.returns
returns c =
    point_is c.args.n (facet_columns c.args.n c.args.cells.now c.args.n) (masks_as c.args.n c.args.p) c.args.p.low
    c.requires.cells.axes c.requires.vertex_size.count (omega (arith, c.loop-axis-test.false)) c.loop-axis.invariant
