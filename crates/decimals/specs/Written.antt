-- A text in a buffer: the whole buffer afterwards is given, so that no other byte has changed.
use Rattle.std.specs.Prelude.{ℕ, ◌+◌, ◌≤◌, ◌≡◌, List, ◌++◌, length, take, drop}

-- `text`, of at most `most` bytes, stands from `at` on, and r is the position behind it
pub record Writes (most : ℕ) (text : List ℕ) (at : ℕ) (before after : List ℕ) (r : ℕ) : Type 0 where
  pub whole : after ≡ take at before ++ (text ++ drop (at + length text) before)
  pub end : r ≡ at + length text
  pub short : length text ≤ most
