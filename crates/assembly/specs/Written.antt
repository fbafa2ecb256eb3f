-- Writing a job to the caller's buffer: document 02, request 2.2.
use Rattle.std.specs.Prelude.{ℕ, zero, suc, List, ◌++◌, length, drop, ltb}
use Rattle.paper.specs.Job.{refuse_if, open_refusal}
use Rattle.paper.specs.Operations.{Answer, unless, first_refusal}
use Rattle.assembly.specs.Assembled.{Loose, assembled}

-- as opening the result would give them, then 16 if the buffer is shorter than the job
unfoldable pub write_refusal : Loose → List ℕ → ℕ
write_refusal d buffer = first_refusal (open_refusal (assembled d)) (refuse_if (ltb (length buffer) (length (assembled d))) 16 0)

-- the answer is the job's length
unfoldable pub written : Loose → List ℕ → Answer ℕ
written d buffer = unless (write_refusal d buffer) (length (assembled d))

-- a list over a buffer from its front on; behind it stands what the buffer held
unfoldable pub over : List ℕ → List ℕ → List ℕ
over s buffer = s ++ drop (length s) buffer

unfoldable pub over_unless : ℕ → List ℕ → List ℕ → List ℕ
over_unless zero s buffer = over s buffer
over_unless (suc r) s buffer = buffer

-- the buffer at exit: the job from its front on, bytes behind the job keep their values; for a refusal nothing is written
unfoldable pub buffer_written : Loose → List ℕ → List ℕ
buffer_written d buffer = over_unless (write_refusal d buffer) (assembled d) buffer
