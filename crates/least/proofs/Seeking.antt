-- One turn of a walk with space for the whole box: what it tells of the rest of the trace.
use Prim.Native.Nat.{ℕ}
use native.Mathlib.Omega.{arith}
use mathlib.Core.Path.{◌≡◌, ap, ◌∙◌}
use mathlib.Core.Bool.{true, false}
use mathlib.Core.List.{List, ◌∷◌}
use Rattle.std.proofs.Common.{Err}
use lib.IntN.{ℤ}
use lib.ListN.{length}
use Rattle.curves.specs.Grid.{Facet, Place}
use Rattle.curves.specs.Walk.{Verdict, loop, full, Trace, ended, written, after_step}
use Rattle.curves.specs.Step.{Stop, every}
use Rattle.paper.specs.Operations.{step_in, on_same_facet}
use Rattle.paper.specs.Answers.{verdict_as}
use Rattle.paper.specs.declared.Verdict as Code
use Rattle.places.specs.Held.{place_as}
use Rattle.paper.specs.declared.HeldPlace.{HeldPlace}
use Rattle.carried.specs.declared.Entered.{Entered}
use Rattle.ahead.specs.Visited.{GoesOn}
use Rattle.seamlist.specs.Seams.{facet_before, none_before}
use Rattle.seamlist.specs.JobSeams.{job_facets}
use Rattle.seamlist.specs.WholeTrace.{rest_from}
use Rattle.seamlist.proofs.WholeTrace.{ends_here, goes_on_to, begins}
use Rattle.least.specs.Search.{clear_from, Walks, LeadsOn, SoughtIs}
use Rattle.least.specs.Ends.{end_of}

-- ---- one turn

-- a place that is not before f, in front of a trace
clear_first : (f : Facet) (x : Place) (t : Trace Place Stop) → facet_before x.facet f ≡ false → none_before f (written x t) ≡ none_before f t
unfolding none_before every
clear_first f x t h = rw h

before_first : (f : Facet) (x : Place) (t : Trace Place Stop) {l : List Place} → t.places ≡ x ∷ l → facet_before x.facet f ≡ true
    → none_before f t ≡ false
unfolding none_before every
before_first f x t e h = rw (e, h)

clear_ended : (f : Facet) (x : Place) (v : Verdict Stop) → facet_before x.facet f ≡ false → none_before f (ended x v) ≡ true
unfolding none_before every
clear_ended f x v h = rw h

module _ {s : List ℕ} {n : ℕ} {start : HeldPlace} {here : Entered} {cells : List ℤ} (w : Walks s n start here cells) where
  abbrev first : Place
  first = place_as n start

  abbrev x : Place
  x = place_as n here.place

  pub seeks_over : (v : Code.Verdict) (after : List ℤ)
      → ((rest : Place → Trace Place Stop) → after_step on_same_facet rest first x (step_in s x) ≡ ended x (verdict_as v))
      → SoughtIs s n start x (Err (end_of v)) after
  unfolding verdict_as rest_from clear_from
  seeks_over v after e = by_verdict v (ends_here (step_in s) on_same_facet first (length (job_facets s)) x w.not_full e)
    where
      by_verdict : (v : Code.Verdict) → rest_from s first x ≡ ended x (verdict_as v) → SoughtIs s n start x (Err (end_of v)) after
      by_verdict Code.TheVariants.Loop k =
          (ap (λ (t : Trace Place Stop). t.verdict) k, ap (none_before first.facet) k ∙ clear_ended first.facet x loop w.not_before_lem)
      by_verdict Code.TheVariants.Edge k = ap (none_before first.facet) k ∙ clear_ended first.facet x _ w.not_before_lem
      by_verdict Code.TheVariants.Limit k = ap (none_before first.facet) k ∙ clear_ended first.facet x _ w.not_before_lem
      by_verdict Code.TheVariants.Full k = ap (none_before first.facet) k ∙ clear_ended first.facet x _ w.not_before_lem

  module _ {q : Entered} {after : List ℤ} (g : GoesOn s n first x q after) where
    abbrev y : Place
    y = place_as n q.place

    -- the rest of the trace, place by place
    onward : (¬ ((rest_from s first y).verdict ≡ full)) × (rest_from s first x ≡ written x (rest_from s first y))
    unfolding rest_from
    onward = goes_on_to (step_in s) on_same_facet first (length (job_facets s)) x y w.not_full g.is

    same_clear : clear_from s first x ≡ clear_from s first y
    unfolding clear_from
    same_clear = ap (none_before first.facet) onward.1 ∙ clear_first first.facet x (rest_from s first y) w.not_before_lem

    pub seeks_before : facet_before y.facet first.facet ≡ true → clear_from s first x ≡ false
    unfolding clear_from rest_from
    seeks_before h =
        same_clear
        ∙ before_first first.facet y (rest_from s first y)
        (begins (step_in s) on_same_facet first (length (job_facets s)) y onward.0).1 h

    pub seeks_on : facet_before y.facet first.facet ≡ false → LeadsOn s first x y × Walks s n start q after
    seeks_on h = (
      record {
        same_verdict = ap (λ (t : Trace Place Stop). t.verdict) onward.1;
        same_test = same_clear;
        shorter = omega (arith, ap (λ (t : Trace Place Stop). length t.places) onward.1);
      },
      record { start_held = w.start_held; carries = g.carries; not_before_lem = h; not_full = onward.0 },
    )
