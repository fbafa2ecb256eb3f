-- The test of a box with any two limits: document 01 has −256 and 256, and `box_ok` is this test with these; the small bench cutter has others.
use Rattle.std.specs.Prelude.{ℕ, Bool, ◌&&◌, List, ℤ}
use Rattle.std.specs.Int.Signed.{le_z, lt_z}
use Rattle.paper.specs.Job.{low_end, high_end, all_from}

-- both ends of axis a lie from the lowest to the highest, low under high
unfoldable pub axis_between : ℤ → ℤ → List ℕ → ℕ → Bool
axis_between lowest highest b a = le_z lowest (low_end b a) && (lt_z (low_end b a) (high_end b a) && le_z (high_end b a) highest)

unfoldable pub box_between : ℤ → ℤ → ℕ → List ℕ → Bool
box_between lowest highest n b = all_from (axis_between lowest highest b) 0 n
