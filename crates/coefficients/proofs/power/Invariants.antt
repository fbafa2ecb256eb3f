-- `coefficients::power` meets its contract. The loop's invariant: r is the power so far. What the call in the loop needs and ensures is not named here,
-- so that another call is refused for what it says.
use Rattle.std.proofs.Common.{◌≡◌}
use mathlib.Core.Option.{some}
use Rattle.formula.specs.Meaning.{power_of}
use Rattle.coefficients.proofs.power.Given as goal

abbrev pub invariant-loop : goal.invariant-loop
invariant-loop l = some l.r.cells ≡ power_of l.p.cells l.counter
