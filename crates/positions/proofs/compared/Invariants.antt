-- The positions from j on are seen: none of their loops is that of k, and the first of them around it is known.
use Rattle.positions.proofs.Comparing.{Comparing}
use Rattle.positions.proofs.compared.Given as goal

abbrev pub invariant-loop-j : goal.invariant-loop-j
invariant-loop-j l = Comparing l.job.bytes.now l.places l.k l.outer l.j
