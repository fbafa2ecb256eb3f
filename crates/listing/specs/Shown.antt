-- The places that have a line: each is whole, and Point does not refuse it.
use Rattle.std.specs.Prelude.{ℕ, suc, zero, ◌*◌, ◌≤◌, ◌≡◌, List, length, take, drop}
use Rattle.paper.specs.Job.{dimension}
use Rattle.paper.specs.Values.{field_of, point_of}
use Rattle.paper.specs.Operations.{facet_of, point_refusal}
use Rattle.paper.specs.Listing.{place_line}
use Rattle.job.specs.OpenJob.{JobOf}

-- the line of a place handed over as bytes
abbrev pub line_of : List ℕ → List ℕ → List ℕ
line_of s p = place_line (facet_of s p) (point_of (dimension s) (field_of s) (facet_of s p))

-- a place of a job that has opened, in 3n bytes
pub record HasLine (n : ℕ) (s p : List ℕ) : Type 0 where
  pub job : JobOf n s
  pub whole : length p ≡ 3 * n
  pub passes : point_refusal s p ≡ 0

-- each of the first k places of 3n bytes
unfoldable pub HaveLines : ℕ → List ℕ → ℕ → List ℕ → Type 0
HaveLines n s zero b = Unit {0}
HaveLines n s (suc k) b = (3 * n ≤ length b) × (HasLine n s (take (3 * n) b) × HaveLines n s k (drop (3 * n) b))
