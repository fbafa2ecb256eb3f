-- `coefficients::variable` meets its contract: the letter's coefficient is 1 (`letter_put`).
use Rattle.coefficients.proofs.CellsPut.{letter_kept, letter_put}
use Rattle.coefficients.proofs.variable.Goals as goal

pub invariant_of-result : goal.invariant_of-result
invariant_of-result c = record { kept = letter_kept c.zeros-cells.ensures c.args.a c.requires }

pub returns : goal.returns
returns c = letter_put c.zeros-cells.ensures c.args.a c.requires
