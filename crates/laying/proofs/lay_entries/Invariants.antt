-- `laying::lay_entries` meets its contract: after k turns the first k entries are laid, and the offset is where body k begins.
use Prim.Native.Nat.{ℕ, ◌+◌, ◌≤◌}
use mathlib.Core.Path.{◌≡◌}
use mathlib.Core.List.{List}
use lib.ListN.{length}
use Rattle.paper.specs.Job.{contents_end}
use Rattle.assembly.specs.Assembled.{bodies_of, entries_of}
use Rattle.laying.specs.Laid.{body_at, Laid}
use Rattle.laying.proofs.lay_entries.Given as goal

pub record EntriesLaid (before : List ℕ) (at n : ℕ) (f : ℕ → List ℕ) (after : List ℕ) (next offset k : ℕ) : Type 0 where
  pub within : k ≤ n + 1
  pub begins : offset ≡ contents_end n + length (bodies_of f 0 k)
  pub laid : Laid before at (entries_of f 0 k (contents_end n)) after next

abbrev pub invariant-loop-k : goal.invariant-loop-k
invariant-loop-k l = EntriesLaid l.initial.buffer l.at l.n (body_at l.bodies) l.buffer l.next l.offset l.k
