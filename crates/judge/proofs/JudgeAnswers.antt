-- What Judge answers, as the paper's answer and as that of the form that names its ground.
use mathlib.Core.Path.{◌≡◌, sym, ap, ◌∙◌}
use mathlib.Core.Bool.{Bool}
use mathlib.Core.List.{List}
use Prim.Native.Nat.{ℕ}
use Rattle.std.proofs.Common.{Result}
use Rattle.paper.specs.Job.{dimension, open_refusal, refuse_if}
use Rattle.paper.specs.Operations.{crossed_in, facet_of, facet_refusal, place_bad, judged, judge_refusal}
use Rattle.paper.specs.Refusals.{refusal_number, RefusedOr}
use Rattle.paper.specs.Answers.{judged_as}
use Rattle.paper.specs.declared.Refusal.{Refusal}
use Rattle.paper.proofs.Refused.{refused_first, answered_by}
use Rattle.grounds.specs.Judged.{judged_by, plainly}
use Rattle.grounds.proofs.Judged.{both_agree}

-- Open's refusal is Judge's
pub open_judges : (e : Refusal) (s p : List ℕ) → refusal_number e ≡ open_refusal s → refusal_number e ≡ judge_refusal s p
unfolding judge_refusal
open_judges e s p h = refused_first e (refuse_if (place_bad (dimension s) p) 13 (facet_refusal s (facet_of s p))) h

-- both clauses of the contract
pub judge_answered : (s p : List ℕ) (r : Result Bool Refusal) → RefusedOr (judge_refusal s p) (λ b. b ≡ crossed_in s (facet_of s p)) r
    → (judged_as r ≡ judged s p) × (judged_as r ≡ plainly (judged_by s p))
judge_answered s p r h = (answer, answer ∙ sym (both_agree s p))
  where
    answer : judged_as r ≡ judged s p
    answer = unfold judged_as in unfold judged in answered_by (λ b. b) (judge_refusal s p) (crossed_in s (facet_of s p)) r h
