-- What the small cutter's entries answer: the laws of `small`, with the numbers that the code has in place of the definitions' own.
use mathlib.Core.Path.{◌≡◌, sym, ap, ◌∙◌}
use mathlib.Core.Bool.{true, false, not}
use mathlib.Core.List.{List}
use Prim.Native.Nat.{ℕ, ◌<◌}
use native.Mathlib.Omega.{arith}
use Rattle.std.proofs.Common.{Result}
use Rattle.std.specs.Result.{IsErrAnd}
use Rattle.paper.specs.Job.{open_refusal}
use Rattle.paper.specs.Operations.{refused, traced, open_values, space_of, verdict_and_count, buffer_after}
use Rattle.paper.specs.Refusals.{refusal_number}
use Rattle.paper.specs.Answers.{opened_list, opened_as, traced_as}
use Rattle.paper.specs.declared.Opened.{Opened}
use Rattle.paper.specs.declared.Refusal.{Refusal}
use Rattle.paper.specs.declared.Traced.{Traced}
use Rattle.paper.proofs.Refusals.{refuse_here, refuse_later}
use Rattle.paper.proofs.Refused.{refusal_some, refused_first, answered_by}
use Rattle.small.specs.Small.{job_small, small_refusal, small_opened, small_traced}
use Rattle.small.proofs.TooLarge.{behind_open}
use Rattle.small.proofs.SameAsFull.{taken_answered, traced_alike, opened_refused, traced_refused}
use Rattle.located.proofs.Passed.{passed_on}
use Rattle.trace.proofs.TraceAnswers.{refused_trace}

-- ---- the refusal

pub open_turns_away : (e : Refusal) (s : List ℕ) → refusal_number e ≡ open_refusal s → refusal_number e ≡ small_refusal s
unfolding small_refusal
open_turns_away e s h = refused_first e _ h

module _ (s : List ℕ) (z : open_refusal s ≡ 0) where
  pub not_refused_either : job_small s ≡ true → small_refusal s ≡ 0
  not_refused_either t = behind_open s z ∙ refuse_later 17 0 (ap not t)

  pub too_large : job_small s ≡ false → 17 ≡ small_refusal s
  too_large t = sym (behind_open s z ∙ refuse_here 17 0 (ap not t))

-- ---- the answers of a job that is turned away

module _ (s : List ℕ) (e : Refusal) (h : refusal_number e ≡ small_refusal s) where
  pub open_turned_away : (r : Result Opened Refusal) → IsErrAnd r (λ d. d ≡ e) → opened_as r ≡ small_opened s
  unfolding opened_as small_opened
  open_turned_away r is = answered_by opened_list (small_refusal s) (open_values s) r (passed_on _ e r is h)

  pub trace_turned_away : (b : List ℕ) (r : Result Traced Refusal) → IsErrAnd r (λ d. d ≡ e)
      → (traced_as r ≡ verdict_and_count (small_traced s (space_of s b))) × (b ≡ buffer_after (small_traced s (space_of s b)) b)
  trace_turned_away b r is =
      refused_trace b e r is (traced_refused s (λ z. refusal_some e (h ∙ z)) (space_of s b) ∙ ap refused (sym h))

-- ---- the answers: by these the check proves each return of the two entries, however it is written

-- no refusal has the number 0
pub refusal_above : (e : Refusal) → 0 < refusal_number e
refusal_above e = omega (arith, refusal_some e)

module _ (s : List ℕ) where
  -- of a job that is turned away
  pub open_is_refused : 0 < small_refusal s → small_opened s ≡ refused (small_refusal s)
  open_is_refused h = opened_refused s (λ z. omega arith)

  pub trace_is_refused : (b : List ℕ) → 0 < small_refusal s → small_traced s (space_of s b) ≡ refused (small_refusal s)
  trace_is_refused b h = traced_refused s (λ z. omega arith) (space_of s b)

  -- of one that is taken
  pub trace_taken : (b : List ℕ) → small_refusal s ≡ 0 → small_traced s (space_of s b) ≡ traced s (space_of s b)
  trace_taken b h = (traced_alike s h b).list

pub ruleset open_answers = (refusal_above, open_is_refused, taken_answered)

pub ruleset trace_answers = (refusal_above, trace_is_refused, trace_taken)
