-- What the powers of a crossed facet keep, so that nothing of them is free.
use Rattle.std.specs.Prelude.{ℕ, ◌≤◌, ◌≡◌, List, length, get_or}

-- n powers in an array of four
pub record WholePowers (n : ℕ) (powers : List ℕ) : Type 0 where
  -- the array has four cells
  pub count : length powers ≡ 4
  -- n counts none that it does not hold
  pub few : n ≤ 4
  -- and behind the first n it is 0
  pub rest : (k : ℕ) → n ≤ k → get_or powers k 0 ≡ 0
