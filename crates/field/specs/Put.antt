-- What is promised of the cells where the values of a vertex are put in: s are the job's bytes, n its dimension.
use Rattle.std.specs.Prelude.{ℕ, ◌+◌, ◌*◌, ◌-◌, ◌≤◌, ◌<◌, ◌≡◌, Bool, true, false, List, ℤ, get_or, set}
use Rattle.exact.specs.Int.{0ℤ}
use Rattle.curves.specs.Grid.{Vertex}
use Rattle.curves.specs.Step.{column}
use Rattle.paper.specs.Job.{bias, body}
use Rattle.paper.specs.Values.{raw_sum, readable_sum, value_of, field_of}
use Rattle.determinants.specs.Cells.{stride, column_at, Cells}

-- the value of polynomial k at a vertex, put at one place of the cells if its sum is readable
pub record ValuePut (s : List ℕ) (n : ℕ) (v : Vertex) (k at : ℕ) (before : List ℤ) (r : Bool) (after : List ℤ) : Type 0 where
  pub test : r ≡ readable_sum n (raw_sum (body s k) v)
  pub put : r ≡ true → after ≡ set before at (value_of (bias s) (raw_sum (body s k) v))
  pub kept : r ≡ false → after ≡ before

-- the values of a vertex, put in as those of vertex i if its sums are readable; the cells of the other vertices stay
pub record ValuesPut (s : List ℕ) (n : ℕ) (v : Vertex) (i : ℕ) (before : List ℤ) (r : Bool) (after : List ℤ) : Type 0 where
  pub test : r ≡ (field_of s).readable v
  pub cells : Cells n after
  pub column : r ≡ true → column_at n after i ≡ column (field_of s) v
  pub lower : (q : ℕ) → q < stride * i → get_or after q 0ℤ ≡ get_or before q 0ℤ
  pub upper : (q : ℕ) → stride * i + (n - 1) ≤ q → get_or after q 0ℤ ≡ get_or before q 0ℤ
