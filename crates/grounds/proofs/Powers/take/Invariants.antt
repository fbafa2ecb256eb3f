-- The loop's invariant: the first n stand, and what is behind them is 0 up to k.
use Rattle.grounds.proofs.TakenPowers.{Leaving}
use Rattle.grounds.proofs.Powers.take.Given as goal

abbrev pub invariant-loop-k : goal.invariant-loop-k
invariant-loop-k l = Leaving l.count l.fn.powers l.k l.first
