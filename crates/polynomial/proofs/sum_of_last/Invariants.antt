-- The loop's invariant: the sum is that of the terms from i on.
use Prim.Native.Nat.{◌+◌, ◌-◌, ◌≤◌}
use Rattle.paper.specs.Job.{term_count}
use Rattle.polynomial.specs.Sums.{tabled}
use Rattle.polynomial.proofs.PartialSums.{IsSumOfLast}
use Rattle.polynomial.proofs.sum_of_last.Given as goal

abbrev pub invariant-loop-i : goal.invariant-loop-i
invariant-loop-i l = (term_count l.body ≤ l.i + l.terms) × IsSumOfLast l.n l.body (tabled l.n l.tables) (term_count l.body - l.i) l.sum
