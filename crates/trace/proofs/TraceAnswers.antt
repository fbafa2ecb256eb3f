-- What Trace answers: refused, with the number that the paper's chain has there and the buffer as it was, or answered by the definition.
use Prim.Native.Nat.{ℕ, ◌*◌, ◌/◌}
use mathlib.Core.Path.{◌≡◌, sym, ap, subst, ◌∙◌}
use mathlib.Core.List.{List}
use lib.IntN.{ℤ}
use lib.ListN.{length}
use Rattle.std.proofs.Common.{Result, Ok, Err}
use Rattle.std.specs.Result.{IsErrAnd}
use Rattle.curves.specs.Grid.{Place, facet_vertices}
use Rattle.curves.specs.Walk.{Trace, trace}
use Rattle.curves.specs.Step.{Stop, columns}
use Rattle.paper.specs.Job.{dimension, body, decode_place, open_refusal}
use Rattle.paper.specs.Values.{field_of}
use Rattle.paper.specs.Operations.{Answer, facet_of, refused, answered, unless, step_in, start_of, point_refusal, trace_refusal, on_same_facet, traced, space_of, verdict_and_count, places_over, buffer_after}
use Rattle.paper.specs.Refusals.{refusal_number, answer_by}
use Rattle.paper.specs.Answers.{traced_as}
use Rattle.paper.specs.declared.Refusal.{Refusal}
use Rattle.paper.specs.declared.Traced.{Traced}
use Rattle.paper.specs.declared.HeldPlace.{HeldPlace}
use Rattle.paper.proofs.Refusals.{unless_refused}
use Rattle.paper.proofs.Refused.{refusal_some, refused_first}
use Rattle.paper.proofs.StartTraceable.{start_traced}
use Rattle.places.specs.Held.{facet_as, place_as}
use Rattle.job.specs.OpenJob.{JobOf}
use Rattle.located.specs.Located.{Finds}
use Rattle.located.proofs.StartRefusal.{start_refusal_lem}
use Rattle.step.proofs.CrossingHeld.{found_place, found_held}
use Rattle.carried.specs.declared.Entered.{Entered}
use Rattle.carried.specs.Carries.{Carries, Enters}
use Rattle.carried.proofs.CarriedStep.{enters_carries}
use Rattle.walks.specs.Visited.{trace_over, Walks}

-- of a refusal that `?` hands on: the answer is its number, and the buffer stays
pub refused_trace : (b : List ℕ) (e : Refusal) (r : Result Traced Refusal) {a : Answer (Trace Place Stop)} → IsErrAnd r (λ d. d ≡ e)
    → a ≡ refused (refusal_number e) → (traced_as r ≡ verdict_and_count a) × (b ≡ buffer_after a b)
unfolding traced_as answer_by verdict_and_count buffer_after places_over
refused_trace b e (Ok x) {a = a} is h = absurd is
refused_trace b e (Err d) {a = a} is h =
    let same : a ≡ refused (refusal_number d) = h ∙ sym (ap (λ (x : Refusal). refused (refusal_number x)) is) in
    (sym (ap verdict_and_count same), sym (ap (λ c. buffer_after c b) same))

-- what Trace says of an answer, and of the buffer
pub record Answers (s b after : List ℕ) (r : Result Traced Refusal) : Type 0 where
  pub answer : traced_as r ≡ verdict_and_count (traced s (space_of s b))
  pub buffer : after ≡ buffer_after (traced s (space_of s b)) b

pub trace_refused : (s b : List ℕ) (e : Refusal) (r : Result Traced Refusal) → IsErrAnd r (λ d. d ≡ e) → refusal_number e ≡ trace_refusal s → Answers s b b r
unfolding traced
trace_refused s b e r is h =
    let t = trace (step_in s) on_same_facet (start_of s) (space_of s b) in
    let k = refused_trace b e r is (ap (λ l. unless l t) (sym h) ∙ unless_refused (refusal_number e) t (refusal_some e)) in
    record { answer = k.0; buffer = k.1 }

-- Open's refusal is Trace's
pub open_traces : (e : Refusal) (s : List ℕ) → refusal_number e ≡ open_refusal s → refusal_number e ≡ trace_refusal s
unfolding trace_refusal
open_traces e s h = refused_first e _ h

module _ {n : ℕ} {s : List ℕ} (j : JobOf n s) {p : List ℕ} (start : p ≡ body s n) where
  -- the start's bytes, as the code found them
  at_start : p ≡ body s (dimension s)
  at_start = start ∙ ap (body s) j.dimension

  -- what is refused of the start is what Trace refuses
  pub start_refusal : trace_refusal s ≡ point_refusal s p
  start_refusal = start_refusal_lem s ∙ ap (point_refusal s) (sym at_start)

  module _ {q : HeldPlace} {cells : List ℤ} (f : Finds n s p q cells) (none : point_refusal s p ≡ 0) where
    whole : (b : List ℕ) → traced s (space_of s b) ≡ answered (trace_over s n q b)
    unfolding trace_over space_of start_of
    whole b =
        start_traced s (start_refusal ∙ none) (length b / (3 * dimension s))
        ∙ (λ i. answered (trace (step_in s) on_same_facet (sym (found_place j f ∙ ap (decode_place (dimension s)) at_start) i) (length b / (3 * sym j.dimension i))))

    -- what is carried at the start
    pub start_carries : {after : List ℤ} {e : Entered} → Enters n q cells after e → Carries s n e after
    unfolding place_as facet_as facet_of
    start_carries g =
        enters_carries (found_held j f none)
        (f.columns ∙ ap (λ (x : Place). columns (field_of s) (facet_vertices x.facet)) (sym (found_place j f))) g

    pub start_answered : {at : HeldPlace} {b after : List ℕ} (a : Traced) → at ≡ q → Walks s n at b after a → Answers s b after (Ok a)
    unfolding traced_as answer_by
    start_answered {b = b} {after} a is walked =
        let w = subst (λ x. Walks s n x b after a) is walked in
        record {
          answer = w.answer ∙ sym (ap verdict_and_count (whole b));
          buffer = w.buffer ∙ sym (ap (λ t. buffer_after t b) (whole b));
        }
