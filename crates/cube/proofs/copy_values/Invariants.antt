-- `cube::copy_values` meets its contract. The loop's invariant: of the first k numbers those that count are copied, and all others are as before.
use Rattle.cube.proofs.CopiedValues.{Copying}
use Rattle.cube.proofs.copy_values.Given as goal

abbrev pub invariant-loop-k : goal.invariant-loop-k
invariant-loop-k l = Copying l.n l.from l.i l.initial.to l.j l.k l.to
