-- `coefficients::sum` meets its contract. The loop's invariant: the sums before coefficient k are made (`MadeTo`).
use Rattle.exact.specs.Int.{◌⊕◌}
use Rattle.formula.specs.Polynomial.{cell}
use Rattle.coefficients.proofs.CellsMade.{MadeTo}
use Rattle.coefficients.proofs.sum.Given as goal

abbrev pub invariant-loop-k : goal.invariant-loop-k
invariant-loop-k l = MadeTo (λ j. cell l.p.cells j ⊕ cell l.q.cells j) l.p.cells l.k l.cells
