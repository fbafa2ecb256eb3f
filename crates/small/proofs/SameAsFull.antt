-- What the small cutter takes, the full one takes with the same bodies, and both trace it to the same list, verdict or refusal, with the same buffer.
-- What it turns away with 17, it turns away whatever Trace would have said of the start. So each of its
-- entries answers 17 or what the full one answers.
use mathlib.Core.Path.{◌≡◌, refl, sym, ap, ◌∙◌}
use mathlib.Core.Bool.{Bool, true, false, not}
use mathlib.Core.List.{List}
use mathlib.Core.Logic.{◌≢◌}
use Prim.Native.Nat.{ℕ, ◌+◌, ◌≤◌}
use native.Mathlib.Omega.{arith}
use lib.Dec.{eqb}
use borrow.Author.Tests.{lt-ltb, eqb-true, eqb-false}
use Rattle.curves.specs.Walk.{trace}
use Rattle.paper.specs.Job.{dimension, open_refusal}
use Rattle.paper.specs.Operations.{refused, answered, unless, open_values, opened, body_refusal, step_in, start_of, trace_refusal, on_same_facet, traced, space_of, verdict_and_count, buffer_after}
use Rattle.paper.proofs.Refusals.{refuse_later, first_refuses, first_passes, unless_refused, unless_answered, answered_inv}
use Rattle.paper.proofs.Bodies.{given_part}
use Rattle.small.specs.Small.{small_refusal, small_opened, small_trace_refusal, small_traced, TooLarge, TakenByFull, TracedAlike}
use Rattle.small.proofs.TooLarge.{refused_alike, refuses_large, taken_opens, takes}

-- ---- a job that the small cutter takes

module _ (s : List ℕ) (h : small_refusal s ≡ 0) where
  pub taken_answered : small_opened s ≡ answered (open_values s)
  unfolding small_opened
  taken_answered = unless_answered (open_values s) h

  pub opened_alike : small_opened s ≡ opened s
  unfolding opened
  opened_alike = taken_answered ∙ sym (unless_answered (open_values s) (taken_opens s h))

  body_index : (k : ℕ) → k ≤ dimension s → body_refusal s k ≡ 0
  unfolding body_refusal
  body_index k l = first_passes _ (taken_opens s h) ∙ refuse_later 12 0 (ap not (lt-ltb k (dimension s + 1) (omega arith)))

  pub same_trace : (space : ℕ) → small_traced s space ≡ traced s space
  unfolding small_traced small_trace_refusal traced
  same_trace space = ap (λ (k : ℕ). unless k (trace (step_in s) on_same_facet (start_of s) space)) (first_passes (trace_refusal s) h)

  pub traced_alike : (buffer : List ℕ) → TracedAlike s buffer
  traced_alike buffer =
      let e = same_trace (space_of s buffer) in
      record { list = e; answer = ap verdict_and_count e; written = ap (λ a. buffer_after a buffer) e }

-- what the small cutter's Open answers with values
pub taken_by_full : (s v : List ℕ) → small_opened s ≡ answered v → TakenByFull s v
taken_by_full s v e =
    let h : small_refusal s ≡ 0 = none in
    record {
      opens = sym (opened_alike s h) ∙ e;
      index = body_index s h;
      bodies = λ k l. given_part s k (body_index s h k l);
    }
  where
    none : small_refusal s ≡ 0
    none = unfold small_opened in (answered_inv (small_refusal s) (open_values s) v e).none

-- ---- a job that it turns away

module _ (s : List ℕ) (h : small_refusal s ≢ 0) where
  pub opened_refused : small_opened s ≡ refused (small_refusal s)
  unfolding small_opened
  opened_refused = unless_refused (small_refusal s) (open_values s) h

  -- its own refusals come before those of the start
  pub traced_refused : (space : ℕ) → small_traced s space ≡ refused (small_refusal s)
  unfolding small_traced small_trace_refusal
  traced_refused space =
      ap (λ (k : ℕ). unless k (trace (step_in s) on_same_facet (start_of s) space)) (first_refuses (small_refusal s) (trace_refusal s) h)
      ∙ unless_refused (small_refusal s) _ h

module _ (s : List ℕ) (o : open_refusal s ≡ 0) (x : TooLarge s) where
  above_0 : small_refusal s ≢ 0
  above_0 e = omega (arith, sym e ∙ refuses_large s o x)

  pub open_17 : small_opened s ≡ refused 17
  open_17 = opened_refused s above_0 ∙ ap refused (refuses_large s o x)

  -- 17 before 9, 10 and 11: whatever Trace answers
  pub trace_17 : (space : ℕ) → small_traced s space ≡ refused 17
  trace_17 space = traced_refused s above_0 space ∙ ap refused (refuses_large s o x)

-- 17 after 8: what Open refuses, both entries refuse with Open's number
module _ (s : List ℕ) (h : open_refusal s ≢ 0) where
  not_0 : small_refusal s ≢ 0
  not_0 e = h (sym (refused_alike s h) ∙ e)

  pub open_before_17 : small_opened s ≡ refused (open_refusal s)
  open_before_17 = opened_refused s not_0 ∙ ap refused (refused_alike s h)

  pub trace_before_17 : (space : ℕ) → small_traced s space ≡ refused (open_refusal s)
  trace_before_17 space = traced_refused s not_0 space ∙ ap refused (refused_alike s h)

-- ---- so each entry answers 17, or what the full one answers

module _ (s : List ℕ) where
  refused_by_both : open_refusal s ≢ 0 → opened s ≡ refused (open_refusal s)
  unfolding opened
  refused_by_both h = unless_refused (open_refusal s) (open_values s) h

  untraced_by_both : open_refusal s ≢ 0 → (space : ℕ) → traced s space ≡ refused (open_refusal s)
  unfolding traced trace_refusal
  untraced_by_both h space =
      ap (λ (k : ℕ). unless k (trace (step_in s) on_same_facet (start_of s) space)) (first_refuses (open_refusal s) _ h)
      ∙ unless_refused (open_refusal s) _ h

  pub open_or_17 : small_opened s ≢ refused 17 → small_opened s ≡ opened s
  open_or_17 x = go (eqb (open_refusal s) 0) refl
    where
      go : (p : Bool) → eqb (open_refusal s) 0 ≡ p → small_opened s ≡ opened s
      go false e = let h : open_refusal s ≢ 0 = eqb-false (open_refusal s) 0 e in open_before_17 s h ∙ sym (refused_by_both h)
      go true e =
          let o : open_refusal s ≡ 0 = eqb-true (open_refusal s) 0 e in
          opened_alike s ((takes s).1 (o, λ l. x (open_17 s o l)))

  pub trace_or_17 : (space : ℕ) → small_traced s space ≢ refused 17 → small_traced s space ≡ traced s space
  trace_or_17 space x = go (eqb (open_refusal s) 0) refl
    where
      go : (p : Bool) → eqb (open_refusal s) 0 ≡ p → small_traced s space ≡ traced s space
      go false e = let h : open_refusal s ≢ 0 = eqb-false (open_refusal s) 0 e in trace_before_17 s h space ∙ sym (untraced_by_both h space)
      go true e =
          let o : open_refusal s ≡ 0 = eqb-true (open_refusal s) 0 e in
          same_trace s ((takes s).1 (o, λ l. x (trace_17 s o l space))) space
