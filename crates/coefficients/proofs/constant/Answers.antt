-- `coefficients::constant` meets its contract: the number is coefficient 0 (`number_put`).
use Rattle.std.proofs.Common.{◌∙◌, arith}
use mir.Syntax.{w64}
use mir.ValLaws.{to_z_pos}
use Rattle.coefficients.proofs.CellsPut.{number_put}
use Rattle.coefficients.proofs.constant.Goals as goal

pub returns : goal.returns
returns c = c.within.ensures ∙ rw (to_z_pos w64 c.args.v (omega (arith, c.requires))) (number_put c.zeros-cells.ensures c.args.v)
