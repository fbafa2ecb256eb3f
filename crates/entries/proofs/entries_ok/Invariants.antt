-- `entries::entries_ok` meets its contract. The invariant: the test of all entries is the test of those that are left, begun at `at`.
use mathlib.Core.Path.{◌≡◌}
use Prim.Native.Nat.{◌+◌, ◌*◌, ◌-◌, ◌≤◌}
use Rattle.paper.specs.Job.{entries_ok, contents_end}
use Rattle.entries.proofs.entries_ok.Given as goal

abbrev pub invariant-loop-k : goal.invariant-loop-k
invariant-loop-k l =
    (l.at ≤ 65536 * l.k + 24) × (entries_ok l.n l.s (l.n + 1) 0 (contents_end l.n) ≡ entries_ok l.n l.s (l.n + 1 - l.k) l.k l.at)
