-- `numbered::vertex_at` meets its contract. The invariant: the first a coordinates are those of the vertex.
use Rattle.numbered.proofs.VertexNumbers.{NumberedTo}
use Rattle.numbered.proofs.vertex_at.Given as goal

abbrev pub invariant-loop-a : goal.invariant-loop-a
invariant-loop-a l = NumberedTo l.fn.f.low.coordinates l.fn.f.behind l.fn.i l.a l.coordinates l.rest
