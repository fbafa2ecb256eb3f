-- The places that have a line: each is whole, and a trace can begin there.
use Rattle.std.specs.Prelude.{ℕ, ◌*◌, ◌≤◌, ◌≡◌, List, length}
use Rattle.curves.specs.Grid.{Place}
use Rattle.curves.specs.Curve.{◌∈◌}
use Rattle.curves.specs.Joined.{Traceable}
use Rattle.paper.specs.Job.{decode_place}
use Rattle.paper.specs.Values.{field_of}
use Rattle.paper.specs.Demand3.{read_places}
use Rattle.job.specs.OpenJob.{JobOf}

-- a place of a job that has opened, in 3n bytes
pub record HasLine (n : ℕ) (s p : List ℕ) : Type 0 where
  pub job : JobOf n s
  pub whole : length p ≡ 3 * n
  pub traceable : Traceable n (field_of s) (decode_place n p)

-- each of the first k places of 3n bytes
pub record HaveLines (n : ℕ) (s : List ℕ) (k : ℕ) (b : List ℕ) : Type 0 where
  pub job : JobOf n s
  pub room : 3 * n * k ≤ length b
  pub each : (p : Place) → p ∈ read_places n k b → Traceable n (field_of s) p
