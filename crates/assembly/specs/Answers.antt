-- The answer of the code, as the request's numbers.
use Rattle.std.specs.Prelude.{ℕ, Result}
use Rattle.paper.specs.Operations.{Answer}
use Rattle.paper.specs.Refusals.{answer_by}
use Rattle.paper.specs.declared.Refusal as Refusal

unfoldable pub written_as : Result ℕ Refusal.Refusal → Answer ℕ
written_as r = answer_by (λ l. l) r
