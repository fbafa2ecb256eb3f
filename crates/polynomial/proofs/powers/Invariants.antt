-- The loop's invariant: of the axes under axis the coordinates are near, and are the vertex's own where these are.
use Rattle.polynomial.proofs.NearTables.{Nearing}
use Rattle.polynomial.proofs.powers.Given as goal

abbrev pub invariant-loop-axis : goal.invariant-loop-axis
invariant-loop-axis l = Nearing l.v.coordinates l.axis l.near.coordinates
