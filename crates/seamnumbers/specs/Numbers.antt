-- The answers about the seams of a box as the C interface's structs. Refusal 0 is none; beside a refusal every other field is 0, and so is the
-- position of an order that stands.
use Rattle.std.specs.Prelude.{ℕ}
use Rattle.paper.specs.Operations.{Answer, refused, answered}
use Rattle.seamlist.specs.JobSeams.{Extent, complete, full}
use Rattle.nesting.specs.Standing.{Standing, stands, broken_at}
use Rattle.seamnumbers.specs.declared.SeamsAnswer.{SeamsAnswer}
use Rattle.seamnumbers.specs.declared.OrderAnswer.{OrderAnswer}

unfoldable pub extent_number : Extent → ℕ
extent_number complete = 0
extent_number full = 1

unfoldable pub seams_numbers : Answer (Extent × ℕ) → SeamsAnswer
seams_numbers (refused k) = record { refusal = k; full = 0; count = 0 }
seams_numbers (answered r) = record { refusal = 0; full = extent_number r.0; count = r.1 }

-- 1 the order stands; else 0 and the position
unfoldable pub order_numbers : Answer Standing → OrderAnswer
order_numbers (refused k) = record { refusal = k; stands = 0; position = 0 }
order_numbers (answered stands) = record { refusal = 0; stands = 1; position = 0 }
order_numbers (answered (broken_at k)) = record { refusal = 0; stands = 0; position = k }
