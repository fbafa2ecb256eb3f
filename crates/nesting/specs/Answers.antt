-- The answer of the code, as the request's words and values.
use Rattle.std.specs.Prelude.{ℕ, Option, Some, None, Result}
use Rattle.paper.specs.Operations.{Answer}
use Rattle.paper.specs.Refusals.{answer_by}
use Rattle.paper.specs.declared.Refusal as Refusal
use Rattle.nesting.specs.Standing.{Standing, stands, broken_at}

-- no position at fault: the order stands
unfoldable pub standing_of : Option ℕ → Standing
standing_of None = stands
standing_of (Some k) = broken_at k

unfoldable pub ordered_as : Result (Option ℕ) Refusal.Refusal → Answer Standing
ordered_as r = answer_by standing_of r
