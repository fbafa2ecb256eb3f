-- The answer of the code, as the request's words and values.
use Rattle.std.specs.Prelude.{ℕ, Result}
use Rattle.paper.specs.Operations.{Answer}
use Rattle.paper.specs.Refusals.{answer_by}
use Rattle.paper.specs.declared.Refusal as Refusal
use Rattle.seamlist.specs.JobSeams.{Extent, complete, full}
use Rattle.seamlist.specs.declared.Extent as Code
use Rattle.seamlist.specs.declared.Seamed as Seamed

unfoldable pub extent_of : Code.Extent → Extent
extent_of Code.TheVariants.Complete = complete
extent_of Code.TheVariants.Full = full

-- the extent and the count of places written
unfoldable pub extent_count : Seamed.Seamed → Extent × ℕ
extent_count r = (extent_of r.extent, r.count)

unfoldable pub seamed_as : Result Seamed.Seamed Refusal.Refusal → Answer (Extent × ℕ)
seamed_as r = answer_by extent_count r
