-- What an answer of the operation means, in the request's words: of loose bodies d, the buffer as it came and as it is left, and the answer l. It
-- follows from the answer (`written_demand`).
use Rattle.std.specs.Prelude.{ℕ, ◌≤◌, ◌≡◌, List, length, take, drop}
use Rattle.paper.specs.Job.{dimension, bias, open_refusal}
use Rattle.paper.specs.Operations.{body_part}
use Rattle.assembly.specs.Assembled.{Loose, body_of}

pub record WriteDemand (d : Loose) (buffer after : List ℕ) (l : ℕ) : Type 0 where
  -- The buffer is no shorter than the job, and as long as it was.
  pub room : l ≤ length buffer
  pub same_length : length after ≡ length buffer
  -- What it writes opens to the same bodies, dimension and bias: the first l bytes.
  pub opens : open_refusal (take l after) ≡ 0
  pub same_dimension : dimension (take l after) ≡ d.n
  pub same_bias : bias (take l after) ≡ d.bias
  pub same_bodies : (k : ℕ) → k ≤ d.n → body_part (take l after) k ≡ body_of d k
  -- Bytes behind the job keep their values.
  pub behind : drop l after ≡ drop l buffer
