-- The box of a job as a scan over its vertices holds it (`Frame`), and how large its numbers are: an axis has from 2 to 513 vertices, so no number
-- of vertices is over 513 to the 4, which is under 2 to the 37. s are the job's bytes, n its dimension.
use Rattle.std.specs.Prelude.{ℕ, ◌-◌, ◌*◌, ◌≤◌, ◌<◌, ◌≡◌, true, List, [], ◌∷◌, ℤ, map, length, take, get_or}
use Rattle.exact.specs.Crossed.{count_from}
use Rattle.paper.specs.Limits.{coordinate_limit}
use Rattle.paper.specs.Job.{low_end, high_end, box_ok}
use Rattle.places.specs.Held.{vertex_as, VertexSize}
use Rattle.job.specs.OpenJob.{JobOf}
use Rattle.seamlist.specs.BoxIndex.{box_size}
use Rattle.seamlist.specs.JobSeams.{low_ends, high_ends}
use Rattle.numbered.specs.declared.Frame.{Frame}

-- the most vertices that an axis has: from − 256 to 256
abbrev pub axis_most : ℕ
axis_most = 513

-- ---- one axis

-- the bytes of a box of n axes that is right
pub record BoxOf (n : ℕ) (b : List ℕ) : Type 0 where
  pub count : length b ≡ 4 * n
  pub ok : box_ok n b ≡ true

-- the vertices of an axis
pub record AxisSize (value r : ℕ) : Type 0 where
  pub is : r ≡ value
  pub some : 1 ≤ r
  pub few : r ≤ axis_most

-- ---- the box

-- how many vertices there are for each vertex of the axes up to each one
unfoldable pub behind_each : List ℤ → List ℤ → List ℕ
behind_each [] hs = []
behind_each (l ∷ ls) [] = []
behind_each (l ∷ ls) (h ∷ hs) = box_size ls hs ∷ behind_each ls hs

-- m vertices are at most 513 for each of those behind the first axis, and so on, down to the one behind the last
abbrev pub FewSteps : ℕ → List ℕ → Type 0
FewSteps m [] = m ≤ 1
FewSteps m (b ∷ bs) = (0 < b) × ((m ≤ axis_most * b) × FewSteps b bs)

-- each axis has at least one vertex and at most 513; the coordinates of the lowest vertex, those that do not count too, are within the limit
pub record FrameFits (f : Frame) : Type 0 where
  pub near : VertexSize coordinate_limit f.low
  pub some : 0 < f.size
  pub count : length f.behind ≡ 4
  pub few : FewSteps f.size f.behind

-- the ends of the axes from a to n − 1
abbrev pub lows : List ℕ → ℕ → ℕ → List ℤ
lows b a n = map (low_end b) (count_from a (n - a))

abbrev pub highs : List ℕ → ℕ → ℕ → List ℤ
highs b a n = map (high_end b) (count_from a (n - a))

-- the numbers are those of the box in bytes b; behind an axis that the dimension does not have is one vertex
pub record BoxFrame (b : List ℕ) (n : ℕ) (f : Frame) : Type 0 where
  pub low : vertex_as n f.low ≡ lows b 0 n
  pub size : f.size ≡ box_size (lows b 0 n) (highs b 0 n)
  pub behind : take n f.behind ≡ behind_each (lows b 0 n) (highs b 0 n)
  pub rest : (k : ℕ) → n ≤ k → get_or f.behind k 1 ≡ 1
  pub fits : FrameFits f

-- the numbers are those of the job's box; behind an axis that the dimension does not have is one vertex
pub record FrameIs (s : List ℕ) (n : ℕ) (f : Frame) : Type 0 where
  pub job : JobOf n s
  pub low : vertex_as n f.low ≡ low_ends s
  pub size : f.size ≡ box_size (low_ends s) (high_ends s)
  pub behind : take n f.behind ≡ behind_each (low_ends s) (high_ends s)
  pub rest : (k : ℕ) → n ≤ k → get_or f.behind k 1 ≡ 1
  pub fits : FrameFits f
