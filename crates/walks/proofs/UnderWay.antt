-- A trace under way: the places written so far, followed by the trace from the place that is held, are the whole trace, and the
-- buffer has the bytes of those written. Each turn keeps this, and each end of the walk gives the whole trace.
use Prim.Native.Nat.{ℕ, suc, ◌+◌, ◌*◌, ◌-◌, ◌/◌, ◌≤◌, ◌<◌}
use native.Mathlib.Nat.{mul-zero, mul-suc, mul_comm, mul-le-mul_left, mul-div-le, le_trans, zero-add, div-le_self}
use native.Mathlib.Numerals.{add-one}
use native.Mathlib.Omega.{arith}
use mathlib.Core.Path.{◌≡◌, refl, sym, ap, subst, ◌∙◌}
use mathlib.Core.List.{List, [], ◌∷◌, ◌++◌, append-nil, append_assoc}
use lib.IntN.{ℤ}
use lib.ListN.{length, drop, length-append}
use lib.Seq.{sets, length-sets, sets-eq}
use Rattle.std.proofs.Common.{Result, Err}
use Rattle.curves.specs.Grid.{Place}
use Rattle.curves.specs.Walk.{Trace, after_step, trace_from, trace, full}
use Rattle.curves.specs.Step.{Stop}
use Rattle.curves.proofs.GridStep.{accepted}
use Rattle.paper.specs.Job.{encode_place}
use Rattle.paper.specs.Values.{field_of}
use Rattle.paper.specs.Operations.{answered, step_in, on_same_facet, encode_places, verdict_and_count, places_over, buffer_after}
use Rattle.paper.specs.Answers.{verdict_as, verdict_count}
use Rattle.paper.specs.declared.Verdict as Verdict
use Rattle.paper.proofs.Encode.{encode_length}
use Rattle.places.specs.Held.{place_as}
use Rattle.paper.specs.declared.HeldPlace.{HeldPlace}
use Rattle.bits.proofs.Sets.{sets_append}
use Rattle.places.proofs.PlaceStored.{encode_places_snoc}
use Rattle.step.specs.Held.{Held}
use Rattle.carried.specs.declared.Entered.{Entered}
use Rattle.ahead.specs.Visited.{GoesOn, VisitedIs}
use Rattle.walks.specs.Visited.{Visits, trace_over, Walks}

-- a trace behind places already written
abbrev joined : List Place → Trace Place Stop → Trace Place Stop
joined ps t = record { verdict = t.verdict; places = ps ++ t.places }

-- after so many places are written, with `here` next
pub record UnderWay (s : List ℕ) (n : ℕ) (start : HeldPlace) (before buffer : List ℕ) (here : HeldPlace) (count : ℕ) : Type 0 where
  pub so_far : List Place
  pub left : ℕ
  pub counted : length so_far ≡ count
  pub space : count + left ≡ length before / (3 * n)
  pub rest : trace_over s n start before ≡ joined so_far (trace_from (step_in s) on_same_facet (place_as n start) left (place_as n here))
  pub bytes : length (encode_places so_far) ≡ 3 * n * count
  pub stored : buffer ≡ sets before 0 (encode_places so_far)
  pub held : Held s n here

pub under_way : {s : List ℕ} {n : ℕ} {start : HeldPlace} (before : List ℕ) → Held s n start → UnderWay s n start before before start 0
unfolding trace_over trace encode_places
under_way {s} {n} {start} before h = record {
  so_far = [];
  left = length before / (3 * n);
  counted = refl;
  space = zero-add (length before / (3 * n));
  rest = refl;
  bytes = sym (mul-zero (3 * n));
  stored = refl;
  held = h;
}

-- the places of the whole trace are written
listed : {s : List ℕ} {n : ℕ} {start : HeldPlace} {before buffer : List ℕ} (ps : List Place) (v : Verdict.Verdict) {count : ℕ}
    → trace_over s n start before ≡ record { verdict = verdict_as v; places = ps } → length ps ≡ count
    → buffer ≡ sets before 0 (encode_places ps) → length (encode_places ps) ≤ length before
    → Walks s n start before buffer (record { verdict = v; count = count })
unfolding verdict_count verdict_and_count buffer_after places_over
listed {before} ps v e l b fits = record {
  answer = ap (λ k. answered (verdict_as v, k)) (sym l) ∙ (λ i. answered ((sym e i).verdict, length (sym e i).places));
  buffer =
      b
      ∙ sets-eq (encode_places ps) before 0 (subst (λ k. k ≤ length before) (sym (zero-add (length (encode_places ps)))) fits)
      ∙ ap (λ k. encode_places ps ++ drop k before) (zero-add (length (encode_places ps)))
      ∙ ap (λ (t : Trace Place Stop). encode_places t.places ++ drop (length (encode_places t.places)) before) (sym e);
}

-- a place more has room in the buffer
room : (n count m : ℕ) → count < m / (3 * n) → 3 * n * count + 3 * n ≤ m
room n count m h =
    subst (λ k. k ≤ m) (mul-suc (3 * n) count) (le_trans (mul-le-mul_left (3 * n) h) (mul-div-le m (3 * n)))

module _ {s : List ℕ} {n : ℕ} {start : HeldPlace} {before buffer : List ℕ} {here : HeldPlace} {count : ℕ} (u : UnderWay s n start before buffer here count) where
  pub same_size : length buffer ≡ length before
  same_size = ap length u.stored ∙ length-sets before 0 (encode_places u.so_far)

  -- no space is left
  pub is_full : length before / (3 * n) ≤ count → Walks s n start before buffer (record { verdict = Verdict.TheVariants.Full; count = length before / (3 * n) })
  unfolding trace_from verdict_as
  is_full h =
      let none : u.left ≡ 0 = omega (arith, u.space) in
      let whole : count ≡ length before / (3 * n) = omega (arith, u.space) in
      listed u.so_far Verdict.TheVariants.Full
      (u.rest
      ∙ ap (λ k. joined u.so_far (trace_from (step_in s) on_same_facet (place_as n start) k (place_as n here))) none
      ∙ (λ i. record { verdict = full; places = append-nil u.so_far i }))
      (u.counted ∙ whole) u.stored
      (subst (λ k. k ≤ length before) (sym u.bytes)
      (subst (λ k. 3 * n * k ≤ length before) (sym whole) (mul-div-le (length before) (3 * n))))

  module _ (more : count < length before / (3 * n)) {after : List ℕ} {r : Result Entered Verdict.Verdict} {cells : List ℤ}
      (v : Visits s n start here (count * (3 * n)) buffer after r cells) where
    longer : List Place
    longer = u.so_far ++ (place_as n here ∷ [])

    longer_bytes : length (encode_places longer) ≡ 3 * n * (count + 1)
    unfolding longer
    longer_bytes =
        let size = encode_length n (place_as n here) (accepted n (field_of s) (place_as n here) u.held.traceable).form in
        ap length (encode_places_snoc u.so_far (place_as n here))
        ∙ (length-append (encode_places u.so_far) (encode_place (place_as n here))
        ∙ omega (arith, u.bytes, size, mul-suc (3 * n) count, ap (λ k. 3 * n * k) (add-one count)))

    longer_counted : length longer ≡ count + 1
    unfolding longer
    longer_counted = length-append u.so_far (place_as n here ∷ []) ∙ omega (arith, u.counted)

    longer_stored : after ≡ sets before 0 (encode_places longer)
    unfolding longer
    longer_stored =
        let e = encode_places u.so_far in
        let at : count * (3 * n) ≡ 0 + length e = omega (arith, u.bytes, mul_comm count (3 * n)) in
        v.buffer
        ∙ ap (λ b. sets b (count * (3 * n)) (encode_place (place_as n here))) u.stored
        ∙ ap (λ k. sets (sets before 0 e) k (encode_place (place_as n here))) at
        ∙ sym (sets_append before 0 e (encode_place (place_as n here)))
        ∙ ap (sets before 0) (sym (encode_places_snoc u.so_far (place_as n here)))

    longer_fits : length (encode_places longer) ≤ length before
    longer_fits =
        omega (arith, longer_bytes, room n count (length before) more, mul-suc (3 * n) count, ap (λ k. 3 * n * k) (add-one count))

    -- what is left of the trace, when `here` is written
    turned : trace_over s n start before
        ≡ joined u.so_far
        (after_step on_same_facet (λ y. trace_from (step_in s) on_same_facet (place_as n start) (u.left - 1) y) (place_as n start) (place_as n here)
        (step_in s (place_as n here)))
    unfolding trace_from
    turned =
        let one : u.left ≡ suc (u.left - 1) = omega (arith, u.space) in
        u.rest ∙ ap (λ k. joined u.so_far (trace_from (step_in s) on_same_facet (place_as n start) k (place_as n here))) one

    -- the verdict
    pub is_over : {w : Verdict.Verdict} → VisitedIs s n (place_as n start) (place_as n here) (Err w) cells
        → Walks s n start before after (record { verdict = w; count = count + 1 })
    unfolding longer
    is_over {w} e =
        listed longer w (turned ∙ ap (joined u.so_far) (e (λ y. trace_from (step_in s) on_same_facet (place_as n start) (u.left - 1) y)))
        longer_counted longer_stored longer_fits

    -- the next place
    pub stays_under_way : {q : Entered} → GoesOn s n (place_as n start) (place_as n here) q cells
        → UnderWay s n start before after q.place (count + 1)
    unfolding longer
    stays_under_way {q} g = record {
      so_far = longer;
      left = u.left - 1;
      counted = longer_counted;
      space = omega (arith, u.space);
      rest =
          turned
          ∙ ap (joined u.so_far) (g.is (λ y. trace_from (step_in s) on_same_facet (place_as n start) (u.left - 1) y))
          ∙ (λ i. record {
            verdict = (trace_from (step_in s) on_same_facet (place_as n start) (u.left - 1) (place_as n q.place)).verdict;
            places = sym (append_assoc u.so_far (place_as n here ∷ []) (trace_from (step_in s) on_same_facet (place_as n start) (u.left - 1) (place_as n q.place)).places) i;
          });
      bytes = longer_bytes;
      stored = longer_stored;
      held = g.carries.held;
    }
