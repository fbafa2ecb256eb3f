-- What the operations ask of a job once it has been opened.
use Rattle.std.specs.Prelude.{ℕ, ◌≡◌, List}
use Rattle.paper.specs.Job.{dimension, open_refusal}

-- a job of dimension n that opens
pub record JobOf (n : ℕ) (s : List ℕ) : Type 0 where
  pub opens : open_refusal s ≡ 0
  pub dimension : n ≡ dimension s
