-- What reading an unsigned number from bytes promises: the number that the paper's definition gives, and a bound for the arithmetic of
-- the callers. A signed number has the record `Is` of the crate exact.
use Rattle.std.specs.Prelude.{◌≡◌, ℕ, ◌<◌}

-- an unsigned number
pub record Reads (limit value r : ℕ) : Type 0 where
  pub is : r ≡ value
  pub small : r < limit
