-- `rows::degree` meets its contract. The loop's invariant: the largest degree so far is that of the terms before term k.
use mathlib.Core.Path.{◌≡◌}
use Rattle.rows.specs.Degree.{degree_to}
use Rattle.rows.proofs.degree.Given as goal

abbrev pub invariant-loop-k : goal.invariant-loop-k
invariant-loop-k l = l.largest ≡ degree_to l.p.cells l.k
