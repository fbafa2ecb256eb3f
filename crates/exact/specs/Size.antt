-- The size of a whole number: a bound on its absolute value. A record, so that both numbers can be read off a proof of it.
use Rattle.std.specs.Prelude.{ℕ, ◌≤◌, ◌≡◌, ℤ, nat_abs}

-- −m ≤ z ≤ m
pub record Size (m : ℕ) (z : ℤ) : Type 0 where
  pub size : nat_abs z ≤ m

-- r is the number that a definition gives, and that is at most m in size
pub record Is (m : ℕ) (value r : ℤ) : Type 0 where
  pub is : r ≡ value
  pub size : Size m value
