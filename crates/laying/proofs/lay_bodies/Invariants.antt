-- `laying::lay_bodies` meets its contract: after k turns the first k bodies are laid.
use Prim.Native.Nat.{◌+◌, ◌≤◌}
use Rattle.assembly.specs.Assembled.{bodies_of}
use Rattle.laying.specs.Laid.{body_at, Laid}
use Rattle.laying.proofs.lay_bodies.Given as goal

abbrev pub invariant-loop-k : goal.invariant-loop-k
invariant-loop-k l = (l.k ≤ l.n + 1) × Laid l.initial.buffer l.at (bodies_of (body_at l.bodies) 0 l.k) l.buffer l.next
