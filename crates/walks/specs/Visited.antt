-- One turn of a trace and the whole of it, as the code answers them: the buffer is what it was with the places' bytes stored in it.
use Rattle.std.specs.Prelude.{ℕ, ◌*◌, ◌/◌, ◌≡◌, List, ℤ, length, Result}
use Rattle.std.proofs.lemmas.List.Edits.{sets}
use Rattle.curves.specs.Grid.{Place}
use Rattle.curves.specs.Walk.{Trace, trace}
use Rattle.curves.specs.Step.{Stop}
use Rattle.paper.specs.Job.{encode_place}
use Rattle.paper.specs.Operations.{answered, step_in, on_same_facet, verdict_and_count, buffer_after}
use Rattle.paper.specs.Answers.{verdict_count}
use Rattle.paper.specs.declared.Traced.{Traced}
use Rattle.paper.specs.declared.Verdict.{Verdict}
use Rattle.places.specs.Held.{place_as}
use Rattle.paper.specs.declared.HeldPlace.{HeldPlace}
use Rattle.ahead.specs.Visited.{VisitedIs}
use Rattle.carried.specs.declared.Entered.{Entered}

-- the place's bytes are stored, and the answer says how the trace goes on
pub record Visits (s : List ℕ) (n : ℕ) (start here : HeldPlace) (at : ℕ) (before after : List ℕ) (r : Result Entered Verdict) (cells : List ℤ) : Type 0 where
  pub buffer : after ≡ sets before at (encode_place (place_as n here))
  pub answer : VisitedIs s n (place_as n start) (place_as n here) r cells

-- the trace from a place with the space that the buffer has
unfoldable pub trace_over : List ℕ → ℕ → HeldPlace → List ℕ → Trace Place Stop
trace_over s n start buffer = trace (step_in s) on_same_facet (place_as n start) (length buffer / (3 * n))

pub record Walks (s : List ℕ) (n : ℕ) (start : HeldPlace) (before after : List ℕ) (r : Traced) : Type 0 where
  pub answer : answered (verdict_count r) ≡ verdict_and_count (answered (trace_over s n start before))
  pub buffer : after ≡ buffer_after (answered (trace_over s n start before)) before
