-- `coefficients::opposite` meets its contract. The loop's invariant: the opposites before coefficient k are made (`MadeTo`).
use Rattle.exact.specs.Int.{◌⊖◌, 0ℤ}
use Rattle.formula.specs.Polynomial.{cell}
use Rattle.coefficients.proofs.CellsMade.{MadeTo}
use Rattle.coefficients.proofs.opposite.Given as goal

abbrev pub invariant-loop-k : goal.invariant-loop-k
invariant-loop-k l = MadeTo (λ j. 0ℤ ⊖ cell l.q.cells j) l.q.cells l.k l.cells
