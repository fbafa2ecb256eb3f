-- The answers about a job as the C interface's structs. Refusal 0 is none; beside a refusal every other field is 0, and so is a count that a lower
-- dimension does not have.
use Rattle.std.specs.Prelude.{ℕ, List, ℤ, get_or}
use Rattle.exact.specs.Int.{0ℤ}
use Rattle.paper.specs.Job.{entry_offset, entry_length}
use Rattle.paper.specs.Operations.{Answer, refused, answered, unless, body_refusal}
use Rattle.jobnumbers.specs.declared.OpenAnswer.{OpenAnswer}
use Rattle.jobnumbers.specs.declared.BodyAnswer.{BodyAnswer}
use Rattle.jobnumbers.specs.declared.WriteAnswer.{WriteAnswer}
use Rattle.formula.specs.Read.{Handed}
use Rattle.jobnumbers.specs.declared.SumAnswer.{SumAnswer}
use Rattle.jobnumbers.specs.declared.FormulaAnswer.{FormulaAnswer}

-- n and each polynomial's count of terms
unfoldable pub open_numbers : Answer (List ℕ) → OpenAnswer
open_numbers (refused k) = record { refusal = k; n = 0; terms1 = 0; terms2 = 0; terms3 = 0 }
open_numbers (answered v) = record { refusal = 0; n = get_or v 0 0; terms1 = get_or v 1 0; terms2 = get_or v 2 0; terms3 = get_or v 3 0 }

-- where body k lies in the job
unfoldable pub body_entry : List ℕ → ℕ → Answer (ℕ × ℕ)
body_entry s k = unless (body_refusal s k) (entry_offset s k, entry_length s k)

unfoldable pub body_numbers : Answer (ℕ × ℕ) → BodyAnswer
body_numbers (refused k) = record { refusal = k; offset = 0; length = 0 }
body_numbers (answered e) = record { refusal = 0; offset = e.0; length = e.1 }

-- the job's length
unfoldable pub write_numbers : Answer ℕ → WriteAnswer
write_numbers (refused k) = record { refusal = k; length = 0 }
write_numbers (answered l) = record { refusal = 0; length = l }

-- the running sum
unfoldable pub sum_numbers : Answer ℤ → SumAnswer
sum_numbers (refused k) = record { refusal = k; sum = 0ℤ }
sum_numbers (answered z) = record { refusal = 0; sum = z }

-- a formula that was read
unfoldable pub handed_in : FormulaAnswer → Handed
handed_in a = record { refusal = a.refusal; count = a.count; bytes = a.bytes }
