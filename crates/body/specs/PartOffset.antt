-- Where in the job the part begins that Body gives.
use Rattle.std.specs.Prelude.{ℕ, cond, List, eqb, ◌≡◌}
use Rattle.std.specs.Borrow.{Bor}
use Rattle.paper.specs.Job.{entry_offset, body}
use Rattle.paper.specs.Operations.{body_refusal}
use Rattle.entries.specs.Parts.{BeginsAt}

-- at the offset in the body's entry; for a refusal, whose part is empty, at the job's front
unfoldable pub part_offset : List ℕ → ℕ → ℕ
part_offset s k = cond (eqb (body_refusal s k) 0) (entry_offset s k) 0

-- the part of a job that holds body k
pub record PartOf (job : Bor (List ℕ)) (k : ℕ) (part : Bor (List ℕ)) : Type 0 where
  pub place : BeginsAt job (entry_offset job.now k) part
  pub bytes : part.now ≡ body job.now k
