-- The loop's invariant: the tables under axis that count are those of the coordinates.
use Rattle.polynomial.proofs.PowerLaws.{CountedTabling}
use Rattle.polynomial.proofs.put_powers.Given as goal

abbrev pub invariant-loop-axis : goal.invariant-loop-axis
invariant-loop-axis l = CountedTabling l.v.coordinates l.n l.axis l.tables
