-- What Judge with its ground answers, as the definition's answer and as the plain Judge's.
use mathlib.Core.Path.{◌≡◌, refl, sym, ap, ap₂, ◌∙◌}
use mathlib.Core.List.{List}
use native.Mathlib.Omega.{arith}
use Prim.Native.Nat.{ℕ, ◌<◌}
use lib.IntN.{ℤ}
use Rattle.std.proofs.Common.{Result, Ok, Err}
use Rattle.paper.specs.Job.{dimension}
use Rattle.paper.specs.Operations.{refused, answered, judged, judge_refusal}
use Rattle.paper.specs.Refusals.{refusal_number, answer_by, RefusedOr}
use Rattle.paper.specs.declared.HeldPlace.{HeldPlace}
use Rattle.paper.specs.declared.Refusal.{Refusal}
use Rattle.paper.proofs.Refusals.{unless_refused, unless_answered}
use Rattle.paper.proofs.Refused.{refusal_some, answered_by}
use Rattle.grounds.specs.Ground.{ground}
use Rattle.grounds.specs.Judged.{place_columns, named_as, judged_by, judged_by_as, plainly}
use Rattle.grounds.specs.declared.NamedGround.{NamedGround}
use Rattle.grounds.proofs.Judged.{both_agree}
use Rattle.job.specs.OpenJob.{JobOf}
use Rattle.determinants.specs.Cells.{facet_columns}
use Rattle.located.specs.Located.{Finds}

-- both clauses of the contract
pub ground_answered : (s p : List ℕ) (r : Result NamedGround Refusal)
    → RefusedOr (judge_refusal s p) (λ g. named_as g ≡ ground (dimension s) (place_columns s p)) r
    → (judged_by_as r ≡ judged_by s p) × (plainly (judged_by_as r) ≡ judged s p)
ground_answered s p r h = (named, ap plainly named ∙ both_agree s p)
  where
    named : judged_by_as r ≡ judged_by s p
    named = unfold judged_by_as in unfold judged_by in answered_by named_as (judge_refusal s p) (ground (dimension s) (place_columns s p)) r h

-- the ground over the columns that the cells hold is that of the place
pub ground_is : {n : ℕ} {s p : List ℕ} {q : HeldPlace} {cells : List ℤ} → JobOf n s → Finds n s p q cells
    → ground n (facet_columns n cells n) ≡ ground (dimension s) (place_columns s p)
unfolding place_columns
ground_is job f = ap₂ ground job.dimension f.columns

-- ---- as equations, which a check finds by itself

-- what the code answers, case by case
pub refused_as : (e : Refusal) → judged_by_as (Err e) ≡ refused (refusal_number e)
unfolding judged_by_as answer_by
refused_as e = refl

pub answered_as : (g : NamedGround) → judged_by_as (Ok g) ≡ answered (named_as g)
unfolding judged_by_as answer_by
answered_as g = refl

pub number_above : (e : Refusal) → 0 < refusal_number e
number_above e = omega (arith, refusal_some e)

module _ (s p : List ℕ) where
  -- what the definition answers
  pub place_refuses : 0 < judge_refusal s p → judged_by s p ≡ refused (judge_refusal s p)
  unfolding judged_by
  place_refuses h = unless_refused (judge_refusal s p) (ground (dimension s) (place_columns s p)) (λ z. omega arith)

  pub place_passes : judge_refusal s p ≡ 0 → judged_by s p ≡ answered (ground (dimension s) (place_columns s p))
  unfolding judged_by
  place_passes h = unless_answered (ground (dimension s) (place_columns s p)) h

  pub plain_answer : judged s p ≡ plainly (judged_by s p)
  plain_answer = sym (both_agree s p)

pub ruleset ground_steps = (refused_as, answered_as, number_above, place_refuses, place_passes, plain_answer)
