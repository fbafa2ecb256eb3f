-- `points::rounding::share_steps` meets its contract. Before doubling k, 2 to the k times num is steps times den plus rest, with rest at most den.
use Prim.Native.Nat.{◌≤◌}
use Rattle.points.proofs.Doubling.{Doubled}
use Rattle.points.proofs.rounding.share_steps.Given as goal

abbrev pub invariant-loop : goal.invariant-loop
invariant-loop l = (l.counter ≤ 10) × Doubled l.counter l.num l.den l.steps l.rest
