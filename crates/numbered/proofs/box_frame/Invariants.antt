-- `numbered::box_frame` meets its contract. The invariant: the axes from a on are read.
use Rattle.numbered.proofs.JobBox.{ReadFrom}
use Rattle.numbered.proofs.box_frame.Given as goal

abbrev pub invariant-loop-a : goal.invariant-loop-a
invariant-loop-a l = ReadFrom l.bounds l.n l.a l.coordinates l.behind l.size
