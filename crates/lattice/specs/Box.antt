-- The box, axis by axis, and the vertices that lie in the box of a job.
use Rattle.std.specs.Prelude.{ℕ, ◌<◌, Bool, ◌&&◌, List, ℤ, get_or}
use Rattle.std.specs.Int.Signed.{le_z}
use Rattle.exact.specs.Int.{0ℤ}
use Rattle.exact.specs.Size.{Size}
use Rattle.paper.specs.Limits.{coordinate_limit}
use Rattle.paper.specs.Job.{low_end, high_end}
use Rattle.paper.specs.declared.Vertex.{Vertex}

-- a coordinate lies from the low to the high end of axis a
unfoldable pub axis_inside : List ℕ → ℕ → ℤ → Bool
axis_inside b a x = le_z (low_end b a) x && le_z x (high_end b a)

-- the coordinates that count are within the limit of a box's ends
pub record Near (n : ℕ) (v : Vertex) : Type 0 where
  pub each : (a : ℕ) → a < n → Size coordinate_limit (get_or v.coordinates a 0ℤ)
