-- `points::weight_sum` meets its contract: before vertex i the sum and what the vertices from i on add are the definition's sum.
use Rattle.determinants.specs.Cells.{facet_columns}
use Rattle.points.proofs.WeightSums.{Summed}
use Rattle.points.proofs.weight_sum.Given as goal

abbrev pub invariant-loop-i : goal.invariant-loop-i
invariant-loop-i l = Summed l.n (facet_columns l.n l.cells l.n) l.p l.axis l.i l.sum
