-- `points::point` meets its contract: the coordinates before `axis` are those of the definition's point.
use Rattle.places.specs.Held.{masks_as}
use Rattle.determinants.specs.Cells.{facet_columns}
use Rattle.points.proofs.PointSteps.{PointBefore}
use Rattle.points.proofs.point.Given as goal

abbrev pub invariant-loop-axis : goal.invariant-loop-axis
invariant-loop-axis l = PointBefore l.n (facet_columns l.n l.cells l.n) (masks_as l.n l.p) l.p.low l.axis l.steps
