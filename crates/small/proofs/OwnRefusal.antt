-- 17 is answered by the small entries only: no other operation has a refusal above 13. So both small entries answer 17 exactly to the jobs that
-- Open takes and that are too large.
use mathlib.Core.Path.{◌≡◌, refl, sym, ap, ◌∙◌}
use mathlib.Core.Logic.{◌≢◌, ◌↔◌}
use mathlib.Core.Bool.{Bool, true, false, not, cond}
use mathlib.Core.List.{List}
use Prim.Native.Nat.{ℕ, suc, zero, ◌≤◌}
use native.Mathlib.Omega.{arith}
use lib.IntN.{ℤ}
use lib.Dec.{eqb, lit≤}
use borrow.Author.Tests.{eqb-true, eqb-false}
use Rattle.curves.specs.Grid.{Facet}
use Rattle.paper.specs.Job.{refuse_if, open_refusal}
use Rattle.paper.specs.Operations.{refused, unless, first_refusal, opened, body_refusal, facet_refusal, judge_refusal, judged, point_refusal, pointed, stepped, trace_refusal, traced}
use Rattle.paper.specs.Pen.{closes, pen_refusal, penned}
use Rattle.paper.specs.RunningSum.{running_sum_refusal, running_summed}
use Rattle.paper.proofs.Refusals.{refuse_later, first_refuses, first_passes, refused_inv}
use Rattle.grounds.specs.Judged.{judged_by}
use Rattle.small.specs.Small.{job_small, small_refusal, small_trace_refusal, TooLarge}
use Rattle.small.proofs.TooLarge.{refused_alike, refuses_large, fails_large}

-- ---- the highest number of a chain of refusals

if_most : (t : Bool) (k rest m : ℕ) → k ≤ m → rest ≤ m → refuse_if t k rest ≤ m
unfolding refuse_if
if_most true k rest m h l = h
if_most false k rest m h l = l

first_most : (a b m : ℕ) → a ≤ m → b ≤ m → first_refusal a b ≤ m
unfolding first_refusal
first_most zero b m h l = l
first_most (suc a) b m h l = h

-- ---- the highest number of each operation

open_most : (s : List ℕ) → open_refusal s ≤ 8
unfolding open_refusal
open_most s =
    if_most _ 1 _ 8 (lit≤ tt) (if_most _ 2 _ 8 (lit≤ tt) (if_most _ 3 _ 8 (lit≤ tt) (if_most _ 4 _ 8 (lit≤ tt)
    (if_most _ 5 _ 8 (lit≤ tt) (if_most _ 6 _ 8 (lit≤ tt) (if_most _ 7 _ 8 (lit≤ tt) (if_most _ 8 _ 8 (lit≤ tt) (lit≤ tt))))))))

-- behind Open's numbers, others up to 13
behind_most : (s : List ℕ) (k : ℕ) → k ≤ 13 → first_refusal (open_refusal s) k ≤ 13
behind_most s k h = first_most (open_refusal s) k 13 (omega (arith, open_most s)) h

body_most : (s : List ℕ) (k : ℕ) → body_refusal s k ≤ 13
unfolding body_refusal
body_most s k = behind_most s _ (if_most _ 12 0 13 (lit≤ tt) (lit≤ tt))

facet_most : (s : List ℕ) (f : Facet) → facet_refusal s f ≤ 13
unfolding facet_refusal
facet_most s f = if_most _ 9 _ 13 (lit≤ tt) (if_most _ 10 0 13 (lit≤ tt) (lit≤ tt))

judge_most : (s p : List ℕ) → judge_refusal s p ≤ 13
unfolding judge_refusal
judge_most s p = behind_most s _ (if_most _ 13 _ 13 (lit≤ tt) (facet_most s _))

point_most : (s p : List ℕ) → point_refusal s p ≤ 13
unfolding point_refusal
point_most s p = first_most (judge_refusal s p) _ 13 (judge_most s p) (if_most _ 11 0 13 (lit≤ tt) (lit≤ tt))

trace_most : (s : List ℕ) → trace_refusal s ≤ 13
unfolding trace_refusal
trace_most s = behind_most s _ (first_most _ _ 13 (facet_most s _) (if_most _ 11 0 13 (lit≤ tt) (lit≤ tt)))

pen_most : (s ps : List ℕ) (mark : Bool) (k : ℕ) → pen_refusal s ps mark k ≤ 13
unfolding pen_refusal
pen_most s ps mark k = behind_most s _ (if_most _ 13 _ 13 (lit≤ tt) (or_none (closes s ps mark k) (if_most _ 12 _ 13 (lit≤ tt) (point_most s _))))
  where
    or_none : (t : Bool) {r : ℕ} → r ≤ 13 → cond t 0 r ≤ 13
    or_none true h = lit≤ tt
    or_none false h = h

sum_most : (s : List ℕ) (p : ℕ) (v : List ℤ) (k : ℕ) → running_sum_refusal s p v k ≤ 13
unfolding running_sum_refusal
sum_most s p v k =
    behind_most s _ (if_most _ 12 _ 13 (lit≤ tt) (if_most _ 12 _ 13 (lit≤ tt) (if_most _ 9 0 13 (lit≤ tt) (lit≤ tt))))

-- ---- no other operation answers 17

not_17 : {A : Type 0} (k : ℕ) (a : A) → k ≤ 13 → unless k a ≢ refused 17
not_17 k a h e = omega (arith, h, (refused_inv k a e).is)

module _ (s : List ℕ) where
  pub open_never : opened s ≢ refused 17
  unfolding opened
  open_never = not_17 (open_refusal s) _ (omega (arith, open_most s))

  pub body_never : (k : ℕ) → body_refusal s k ≢ 17
  body_never k e = omega (arith, e, body_most s k)

  pub judge_never : (p : List ℕ) → judged s p ≢ refused 17
  unfolding judged
  judge_never p = not_17 (judge_refusal s p) _ (judge_most s p)

  pub ground_never : (p : List ℕ) → judged_by s p ≢ refused 17
  unfolding judged_by
  ground_never p = not_17 (judge_refusal s p) _ (judge_most s p)

  pub point_never : (p : List ℕ) → pointed s p ≢ refused 17
  unfolding pointed
  point_never p = not_17 (point_refusal s p) _ (point_most s p)

  pub step_never : (p : List ℕ) → stepped s p ≢ refused 17
  unfolding stepped
  step_never p = not_17 (point_refusal s p) _ (point_most s p)

  pub trace_never : (space : ℕ) → traced s space ≢ refused 17
  unfolding traced
  trace_never space = not_17 (trace_refusal s) _ (trace_most s)

  pub pen_never : (ps : List ℕ) (mark : Bool) (k : ℕ) → penned s ps mark k ≢ refused 17
  unfolding penned
  pen_never ps mark k = not_17 (pen_refusal s ps mark k) _ (pen_most s ps mark k)

  pub sum_never : (p : ℕ) (v : List ℤ) (k : ℕ) → running_summed s p v k ≢ refused 17
  unfolding running_summed
  sum_never p v k = not_17 (running_sum_refusal s p v k) _ (sum_most s p v k)

  -- ---- so 17 has one meaning, from both entries

  pub refusal_17 : (small_refusal s ≡ 17) ↔ ((open_refusal s ≡ 0) × TooLarge s)
  refusal_17 = (λ h. go h (eqb (open_refusal s) 0) refl, λ h. refuses_large s h.0 h.1)
    where
      large : open_refusal s ≡ 0 → small_refusal s ≡ 17 → (p : Bool) → job_small s ≡ p → TooLarge s
      large o h false e = fails_large s e
      large o h true e = unfold small_refusal in absurd (omega (arith, sym h ∙ (first_passes _ o ∙ refuse_later 17 0 (ap not e))))

      go : small_refusal s ≡ 17 → (p : Bool) → eqb (open_refusal s) 0 ≡ p → (open_refusal s ≡ 0) × TooLarge s
      go h true e = let o = eqb-true _ _ e in (o, large o h (job_small s) refl)
      go h false e = let d : open_refusal s ≢ 0 = eqb-false _ _ e in absurd (omega (arith, open_most s, sym (refused_alike s d) ∙ h))

  pub trace_refusal_17 : (small_trace_refusal s ≡ 17) ↔ ((open_refusal s ≡ 0) × TooLarge s)
  trace_refusal_17 = (λ h. refusal_17.0 (go h (eqb (small_refusal s) 0) refl), λ h. back (refusal_17.1 h))
    where
      go : small_trace_refusal s ≡ 17 → (p : Bool) → eqb (small_refusal s) 0 ≡ p → small_refusal s ≡ 17
      go h true e = unfold small_trace_refusal in
          absurd (omega (arith, trace_most s, sym (first_passes (trace_refusal s) (eqb-true (small_refusal s) 0 e)) ∙ h))
      go h false e = unfold small_trace_refusal in
          let d : small_refusal s ≢ 0 = eqb-false (small_refusal s) 0 e in sym (first_refuses (small_refusal s) (trace_refusal s) d) ∙ h

      back : small_refusal s ≡ 17 → small_trace_refusal s ≡ 17
      back h = unfold small_trace_refusal in first_refuses (small_refusal s) (trace_refusal s) (λ e. omega (arith, sym e ∙ h)) ∙ h
