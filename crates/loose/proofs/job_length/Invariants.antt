-- `loose::job_length` meets its contract: after k turns it is the length of the contents and the first k bodies.
use mathlib.Core.Path.{◌≡◌}
use mathlib.Core.List.{List}
use Prim.Native.Nat.{ℕ, ◌+◌, ◌*◌, ◌≤◌}
use lib.ListN.{length}
use Rattle.paper.specs.Job.{contents_end}
use Rattle.assembly.specs.Assembled.{bodies_of}
use Rattle.laying.specs.Laid.{body_at}
use Rattle.loose.proofs.job_length.Given as goal

pub record Summed (n : ℕ) (f : ℕ → List ℕ) (total k : ℕ) : Type 0 where
  pub within : k ≤ n + 1
  pub sum : total ≡ contents_end n + length (bodies_of f 0 k)
  pub size : total ≤ 24 + 560 * k

abbrev pub invariant-loop-k : goal.invariant-loop-k
invariant-loop-k l = Summed l.n (body_at l.bodies) l.length l.k
