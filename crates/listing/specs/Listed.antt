-- The answer of Trace with the places that it wrote read back from the buffer, and what the listing leaves in that buffer.
use Rattle.std.specs.Prelude.{ℕ, cond, List, ltb, length, Result}
use Rattle.curves.specs.Grid.{Place}
use Rattle.curves.specs.Walk.{Trace}
use Rattle.curves.specs.Step.{Stop}
use Rattle.paper.specs.Job.{dimension}
use Rattle.paper.specs.Operations.{Answer, traced, buffer_after}
use Rattle.paper.specs.Refusals.{answer_by}
use Rattle.paper.specs.Answers.{verdict_as}
use Rattle.paper.specs.Listing.{longest_job, listing_space}
use Rattle.paper.specs.Demand3.{read_places}
use Rattle.paper.specs.declared.Refusal.{Refusal}
use Rattle.paper.specs.declared.Traced.{Traced}

-- a verdict, and so many places at the front of the bytes b
abbrev pub listed_trace : List ℕ → List ℕ → Traced → Trace Place Stop
listed_trace s b t = record { verdict = verdict_as t.verdict; places = read_places (dimension s) t.count b }

unfoldable pub listed_as : List ℕ → List ℕ → Result Traced Refusal → Answer (Trace Place Stop)
listed_as s b r = answer_by (listed_trace s b) r

-- the buffer of the places at exit: what Trace leaves there; as found if the job is too long
unfoldable pub places_after : List ℕ → List ℕ → List ℕ
places_after s b = cond (ltb longest_job (length s)) b (buffer_after (traced s listing_space) b)
