-- An inner result as the code holds it.
use Rattle.std.specs.Prelude.{Option, Some, None}
use Rattle.std.proofs.Math.Option as Math
use Rattle.formula.specs.Polynomial.{Polynomial}
use Rattle.rows.specs.declared.Polynomial as Held

-- none if a limit was broken
unfoldable pub result_as : Option Held.Polynomial → Math.Option Polynomial
result_as None = Math.none
result_as (Some p) = Math.some p.cells
