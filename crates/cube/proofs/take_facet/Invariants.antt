-- The loop's invariant: the columns of the first k vertices are taken, and each of them is known.
use Rattle.cube.proofs.TakenFacets.{Taking}
use Rattle.cube.proofs.take_facet.Given as goal

abbrev pub invariant-loop-k : goal.invariant-loop-k
invariant-loop-k l = Taking l.n l.fn.p l.values l.known l.k l.cells
