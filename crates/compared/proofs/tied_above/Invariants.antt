-- `compared::tied_above` meets its contract. The invariant: every coefficient of a power before j is 0.
use Prim.Native.Nat.{suc, ◌≤◌}
use Rattle.compared.proofs.PairSigns.{Passed}
use Rattle.compared.proofs.tied_above.Given as goal

abbrev pub invariant-loop-j : goal.invariant-loop-j
invariant-loop-j loop = (l : suc loop.q ≤ loop.r) → Passed loop.n loop.cells loop.q loop.r l loop.j
