-- A walk that counts its places: those counted so far and the places of the trace from `here` on are all that the whole trace has. Each turn
-- keeps this, and the end of the walk gives the whole trace's verdict and count.
use Prim.Native.Nat.{ℕ, ◌+◌, ◌^◌, ◌≤◌, ◌<◌}
use native.Mathlib.Omega.{arith}
use native.Mathlib.Nat.{le_trans}
use mathlib.Core.Path.{◌≡◌, sym, ap, subst, ◌∙◌}
use mathlib.Core.List.{List}
use lib.IntN.{ℤ}
use lib.ListN.{length}
use Rattle.curves.specs.Grid.{Place}
use Rattle.curves.specs.Walk.{Trace, ended, written, full, after_step}
use Rattle.curves.specs.Step.{Stop}
use Rattle.curves.specs.Joined.{Traceable}
use Rattle.curves.proofs.WalkTrace.{trace_length}
use Rattle.paper.specs.Values.{field_of}
use Rattle.paper.specs.Operations.{answered, step_in, on_same_facet, verdict_and_count}
use Rattle.paper.specs.Answers.{verdict_as, verdict_count}
use Rattle.paper.specs.declared.Verdict as Code
use Rattle.places.specs.Held.{place_as}
use Rattle.paper.specs.declared.HeldPlace.{HeldPlace}
use Rattle.job.proofs.Opened.{job_opens}
use Rattle.step.specs.Held.{Held}
use Rattle.carried.specs.declared.Entered.{Entered}
use Rattle.ahead.specs.Visited.{GoesOn}
use Rattle.seamlist.specs.JobSeams.{job_facets}
use Rattle.seamlist.specs.WholeTrace.{whole_trace, rest_from}
use Rattle.seamlist.proofs.Room.{job_room_lem}
use Rattle.seamlist.proofs.RoomBound.{job_facets_few}
use Rattle.seamlist.proofs.WholeTrace.{whole_rest, ends_here, goes_on_to}

-- after so many places, with `here` next
pub record Counting (s : List ℕ) (n : ℕ) (start here : HeldPlace) (count : ℕ) : Type 0 where
  pub held : Held s n start
  pub not_full : ¬ ((rest_from s (place_as n start) (place_as n here)).verdict ≡ full)
  pub same_verdict : (whole_trace s (place_as n start)).verdict ≡ (rest_from s (place_as n start) (place_as n here)).verdict
  pub counted : length (whole_trace s (place_as n start)).places ≡ count + length (rest_from s (place_as n start) (place_as n here)).places

module _ {s : List ℕ} {n : ℕ} {start : HeldPlace} (h : Held s n start) where
  -- the walk does not use up the space
  whole_not_full : ¬ ((whole_trace s (place_as n start)).verdict ≡ full)
  unfolding whole_trace
  whole_not_full =
      let takes = subst (λ m. Traceable m (field_of s) (place_as n start)) h.job.dimension h.traceable in
      job_room_lem (job_opens h.job) (place_as n start) takes (length (job_facets s)) (omega arith)

  -- the count fits
  whole_few : length (whole_trace s (place_as n start)).places ≤ 2 ^ 43
  unfolding whole_trace
  whole_few = le_trans (trace_length _ _ (place_as n start) (length (job_facets s))) (job_facets_few (job_opens h.job))

  pub counting_begins : Counting s n start start 0
  counting_begins =
      let is = whole_rest s (place_as n start) in
      record {
        held = h;
        not_full = λ f. whole_not_full (ap (λ (t : Trace Place Stop). t.verdict) is ∙ f);
        same_verdict = ap (λ (t : Trace Place Stop). t.verdict) is;
        counted = ap (λ (t : Trace Place Stop). length t.places) is ∙ omega arith;
      }

module _ {s : List ℕ} {n : ℕ} {start here : HeldPlace} {count : ℕ} (c : Counting s n start here count) where
  abbrev first : Place
  first = place_as n start

  abbrev x : Place
  x = place_as n here

  pub count_few : count ≤ 2 ^ 43
  count_few = omega (arith, whole_few c.held, c.counted)

  -- the walk is over, and the place that it came to is the last one
  pub counting_over : (v : Code.Verdict)
      → ((rest : Place → Trace Place Stop) → after_step on_same_facet rest first x (step_in s x) ≡ ended x (verdict_as v))
      → answered (verdict_count record { verdict = v; count = count + 1 }) ≡ verdict_and_count (answered (whole_trace s first))
  unfolding verdict_count verdict_and_count rest_from
  counting_over v e =
      let last = ends_here (step_in s) on_same_facet first (length (job_facets s)) x c.not_full e in
      let verdict = sym (c.same_verdict ∙ ap (λ (t : Trace Place Stop). t.verdict) last) in
      let counted : count + 1 ≡ length (whole_trace s first).places = omega (arith, c.counted, ap (λ (t : Trace Place Stop). length t.places) last) in
      λ i. answered (verdict i, counted i)

  -- it goes on: one place more is counted, and fewer are left
  module _ {q : Entered} {after : List ℤ} (g : GoesOn s n first x q after) where
    onward : (¬ ((rest_from s first (place_as n q.place)).verdict ≡ full)) × (rest_from s first x ≡ written x (rest_from s first (place_as n q.place)))
    unfolding rest_from
    onward = goes_on_to (step_in s) on_same_facet first (length (job_facets s)) x (place_as n q.place) c.not_full g.is

    pub counting_on : Counting s n start q.place (count + 1)
    counting_on = record {
      held = c.held;
      not_full = onward.0;
      same_verdict = c.same_verdict ∙ ap (λ (t : Trace Place Stop). t.verdict) onward.1;
      counted = omega (arith, c.counted, ap (λ (t : Trace Place Stop). length t.places) onward.1);
    }

    pub fewer_left : length (rest_from s first (place_as n q.place)).places < length (rest_from s first x).places
    fewer_left = omega (arith, ap (λ (t : Trace Place Stop). length t.places) onward.1)
