use Prim.Native.Nat.{◌-◌}
use lib.ListN.{length}
use Rattle.readers.specs.Ahead.{NumberSoFar}
use Rattle.readers.proofs.read_number.Given as goal

abbrev pub invariant-loop-value : goal.invariant-loop-value
invariant-loop-value l = NumberSoFar l.n l.text l.at l.depth l.next l.value

abbrev pub decreases-loop-value : goal.decreases-loop-value
decreases-loop-value l = length l.text - l.next
