-- What Point does not refuse: the job opens, the place has 3n bytes, and it is one that Step takes; and back.
use Prim.Native.Nat.{ℕ, ◌*◌}
use native.Mathlib.Omega.{arith}
use mathlib.Core.Path.{◌≡◌, ap, ◌∙◌}
use mathlib.Core.Bool.{Bool, true, not, ◌&&◌}
use mathlib.Core.List.{List}
use lib.Dec.{eqb}
use lib.ListN.{length}
use borrow.Author.Tests.{eqb-true, eq-eqb, not-false}
use Rattle.exact.proofs.AndTests.{and_left, and_right, and-true}
use Rattle.curves.specs.Grid.{Place, facet_vertices, place_ok}
use Rattle.curves.specs.Step.{every, readable_all}
use Rattle.curves.specs.Joined.{Traceable}
use Rattle.curves.proofs.GridStep.{Accepted, accepted, accepted_traceable}
use Rattle.paper.specs.Job.{dimension, decode_place}
use Rattle.paper.specs.Values.{field_of}
use Rattle.paper.specs.Operations.{facet_refusal, crossed_in, place_bad, facet_of, judge_refusal, point_refusal}
use Rattle.paper.proofs.Refusals.{neither_refused, not_refused, refuse_later, first_passes}
use Rattle.paper.proofs.Opens.{Opens, opens}
use Rattle.paper.proofs.WithStart.{opens_back}

pub point_opens : (s p : List ℕ) → point_refusal s p ≡ 0 → Opens s
unfolding point_refusal judge_refusal
point_opens s p h = opens s (neither_refused _ _ (neither_refused _ _ h).first).first

pub point_length : (s p : List ℕ) → point_refusal s p ≡ 0 → length p ≡ 3 * dimension s
unfolding point_refusal judge_refusal place_bad
point_length s p h =
    let form = not-false _ (not_refused _ 13 _ (omega arith) (neither_refused _ _ (neither_refused _ _ h).first).next).test in
    eqb-true (length p) (3 * dimension s) (and_left _ (place_ok (dimension s) (decode_place (dimension s) p)) form)

pub point_accepted : (s p : List ℕ) → point_refusal s p ≡ 0 → Accepted (dimension s) (field_of s) (decode_place (dimension s) p)
unfolding point_refusal judge_refusal place_bad facet_refusal crossed_in facet_of readable_all
point_accepted s p h =
    let place : Place = decode_place (dimension s) p in
    let r = neither_refused _ _ h in
    let r13 = not_refused _ 13 _ (omega arith) (neither_refused _ _ r.first).next in
    let r9 = not_refused _ 9 _ (omega arith) r13.next in
    let r10 = not_refused _ 10 _ (omega arith) r9.next in
    let r11 = not_refused _ 11 _ (omega arith) r.next in
    let boxed : every (field_of s).in_box (facet_vertices place.facet) ≡ true = not-false _ r9.test in
    let read : every (field_of s).readable (facet_vertices place.facet) ≡ true = not-false _ r10.test in
    record {
      form = and_right (eqb (length p) (3 * dimension s)) (place_ok (dimension s) place) (not-false _ r13.test);
      readable = and-true boxed read;
      crosses = not-false _ r11.test;
    }

pub point_traceable : (s p : List ℕ) → point_refusal s p ≡ 0 → Traceable (dimension s) (field_of s) (decode_place (dimension s) p)
point_traceable s p h = accepted_traceable (dimension s) (field_of s) (decode_place (dimension s) p) (point_accepted s p h)

-- and a traceable place of 3n bytes is not refused
pub traceable_point : {s : List ℕ} → Opens s → (p : List ℕ) → length p ≡ 3 * dimension s → Traceable (dimension s) (field_of s) (decode_place (dimension s) p)
    → point_refusal s p ≡ 0
unfolding point_refusal judge_refusal place_bad facet_refusal crossed_in facet_of readable_all
traceable_point {s} o p e t =
    let place : Place = decode_place (dimension s) p in
    let a = accepted (dimension s) (field_of s) place t in
    let boxed : Bool = every (field_of s).in_box (facet_vertices place.facet) in
    let read : Bool = every (field_of s).readable (facet_vertices place.facet) in
    let good : eqb (length p) (3 * dimension s) && place_ok (dimension s) place ≡ true = and-true (eq-eqb (length p) (3 * dimension s) e) a.form in
    first_passes _
    (first_passes _ (opens_back s o)
    ∙ (refuse_later 13 _ (ap not good)
    ∙ (refuse_later 9 _ (ap not (and_left boxed read a.readable)) ∙ refuse_later 10 0 (ap not (and_right boxed read a.readable)))))
    ∙ refuse_later 11 0 (ap not a.crosses)
