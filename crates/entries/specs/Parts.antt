-- A body as a part of the job: what cutting it out asks, and where it then begins.
use Rattle.std.specs.Prelude.{ℕ, ◌+◌, ◌*◌, ◌≤◌, List, ◌≡◌, length}
use Rattle.std.specs.Borrow.{Bor}
use Rattle.paper.specs.Job.{entry_offset, entry_length}

-- the body's entry and the body itself lie inside the job
pub record PartInside (s : List ℕ) (k : ℕ) : Type 0 where
  pub entry : 4 * k + 8 ≤ length s
  pub end : entry_offset s k + entry_length s k ≤ length s

-- a part of lent bytes that begins so many bytes into them: in their block of memory, and so far behind their own offset there
unfoldable pub BeginsAt : Bor (List ℕ) → ℕ → Bor (List ℕ) → Type 0
BeginsAt whole offset part = part.ref_ptr ≡ (whole.ref_ptr.0, offset + whole.ref_ptr.1)
