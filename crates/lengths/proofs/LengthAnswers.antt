-- What each return of `trace_length` says: refused as Point refuses the place, or the whole trace from it.
use Prim.Native.Nat.{ℕ}
use mathlib.Core.Path.{◌≡◌, sym, ap, ◌∙◌}
use mathlib.Core.List.{List}
use lib.IntN.{ℤ}
use Rattle.curves.specs.Grid.{Place, facet_vertices}
use Rattle.curves.specs.Step.{columns}
use Rattle.paper.specs.Job.{dimension, decode_place}
use Rattle.paper.specs.Values.{field_of}
use Rattle.std.proofs.Common.{Ok, Err}
use Rattle.paper.specs.Operations.{facet_of, answered, unless, point_refusal, verdict_and_count}
use Rattle.paper.specs.Refusals.{refusal_number, answer_by}
use Rattle.paper.specs.Answers.{traced_as, verdict_count}
use Rattle.paper.specs.declared.Refusal.{Refusal}
use Rattle.paper.specs.declared.Traced.{Traced}
use Rattle.paper.proofs.Refusals.{unless_refused, unless_answered}
use Rattle.paper.proofs.Refused.{refusal_some}
use Rattle.places.specs.Held.{facet_as, place_as}
use Rattle.paper.specs.declared.HeldPlace.{HeldPlace}
use Rattle.job.specs.OpenJob.{JobOf}
use Rattle.located.specs.Located.{Finds}
use Rattle.step.proofs.CrossingHeld.{found_place, found_held}
use Rattle.carried.specs.declared.Entered.{Entered}
use Rattle.carried.specs.Carries.{Carries, Enters}
use Rattle.carried.proofs.CarriedStep.{enters_carries}
use Rattle.seamlist.specs.WholeTrace.{whole_trace}
use Rattle.lengths.specs.Length.{traced_from}

pub length_refused : (e : Refusal) (s p : List ℕ) → refusal_number e ≡ point_refusal s p → traced_as (Err e) ≡ verdict_and_count (traced_from s p)
unfolding traced_as answer_by verdict_and_count traced_from
length_refused e s p h =
    let t = whole_trace s (decode_place (dimension s) p) in
    sym (ap verdict_and_count (ap (λ k. unless k t) (sym h) ∙ unless_refused (refusal_number e) t (refusal_some e)))

module _ {n : ℕ} {s p : List ℕ} {q : HeldPlace} {cells : List ℤ} (j : JobOf n s) (none : point_refusal s p ≡ 0) (f : Finds n s p q cells) where
  -- what is carried at the place
  pub place_carries : {after : List ℤ} {e : Entered} → Enters n q cells after e → Carries s n e after
  unfolding place_as facet_as facet_of
  place_carries g =
      enters_carries (found_held j f none)
      (f.columns ∙ ap (λ (x : Place). columns (field_of s) (facet_vertices x.facet)) (sym (found_place j f))) g

  pub length_answered : {r : HeldPlace} (a : Traced) → r ≡ q
      → answered (verdict_count a) ≡ verdict_and_count (answered (whole_trace s (place_as n r))) → traced_as (Ok a) ≡ verdict_and_count (traced_from s p)
  unfolding traced_as answer_by traced_from
  length_answered a e same =
      same
      ∙ ap (λ x. verdict_and_count (answered (whole_trace s x))) (ap (place_as n) e ∙ found_place j f)
      ∙ sym (ap verdict_and_count (unless_answered (whole_trace s (decode_place (dimension s) p)) none))
