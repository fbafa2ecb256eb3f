-- The dimensions that the code has room for. A contract of a leaf asks for no more of n; which of them a job may have is `dimension_ok` of
-- the crate paper.
use Rattle.std.specs.Prelude.{ℕ, ◌≤◌}

pub record Axes (n : ℕ) : Type 0 where
  pub low : 2 ≤ n
  pub high : n ≤ 4
