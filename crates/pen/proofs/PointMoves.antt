-- What each answer of Point makes of Pen's move at a place: a refusal stays, and a point is lifted or drawn to, in millimetres.
use Prim.Native.Nat.{ℕ, suc, zero, ◌≤◌}
use native.Mathlib.Omega.{arith}
use mathlib.Core.Path.{◌≡◌, refl, sym, ap, subst, ◌∙◌}
use mathlib.Core.Bool.{cond}
use mathlib.Core.List.{List, [], ◌∷◌, map}
use lib.Dec.{lit≤}
use lib.Ieee.{Float}
use lib.IntN.{ℤ}
use lib.ListN.{get_or, take, length}
use borrow.Author.Tests.{eq-eqb, ne_eqb}
use Rattle.exact.specs.Int.{0ℤ}
use Rattle.exact.specs.Size.{Size}
use Rattle.exact.proofs.SizeLaws.{size_weaken}
use Rattle.std.proofs.Common.{Result}
use Rattle.std.specs.Result.{IsErrAnd}
use Rattle.paper.specs.declared.PenMove.{PenMove}
use Rattle.paper.specs.declared.Refusal.{Refusal}
use Rattle.paper.specs.declared.StepPoint.{StepPoint}
use Rattle.paper.specs.Refusals.{refusal_number, answer_by}
use Rattle.paper.proofs.Refused.{answered_by}
use Rattle.paper.specs.Limits.{steps_per_unit, coordinate_limit}
use Rattle.paper.specs.Job.{dimension}
use Rattle.paper.specs.Values.{field_of, point_of}
use Rattle.paper.specs.Operations.{refused, answered, unless, facet_of, point_refusal, pointed}
use Rattle.paper.specs.Answers.{padded, padded_point}
use Rattle.paper.specs.Pen.{lift, draw, millimetre, point_millimetres, move_as}
use Rattle.paper.proofs.Refusals.{unless_answered}
use Rattle.located.proofs.Passed.{passed_on}
use Rattle.pen.specs.Moves.{whole_limit, StepSizes, move_to, moved_to}
use Rattle.pen.proofs.PointSize.{step_limit, point_size}

-- ---- Point's answer, taken apart

-- the first three of some coordinates, one by one
pub first_three : (l : List ℤ) → length l ≡ 4 → get_or l 0 0ℤ ∷ get_or l 1 0ℤ ∷ get_or l 2 0ℤ ∷ [] ≡ take 3 l
first_three [] h = absurd (omega arith)
first_three (x ∷ []) h = absurd (omega arith)
first_three (x ∷ y ∷ []) h = absurd (omega arith)
first_three (x ∷ y ∷ z ∷ l) h = refl

record PointIs (k : ℕ) (v w : List ℤ) : Type 0 where
  none : k ≡ 0
  is : w ≡ padded 0ℤ 4 v

answer_point : (k : ℕ) (v w : List ℤ) → answered w ≡ padded_point (unless k v) → PointIs k v w
unfolding padded_point unless
answer_point zero v w h = record { none = refl; is = cc }
answer_point (suc k) v w h = let z : ◌≡◌ {A = ℕ} 0 1 = cc in absurd (omega arith)

record RefusalIs (k l : ℕ) : Type 0 where
  same : k ≡ l
  some : k ≡ 0 → ⊥

answer_refusal : (k : ℕ) (v : List ℤ) (l : ℕ) → refused l ≡ padded_point (unless k v) → RefusalIs k l
unfolding padded_point unless
answer_refusal zero v l h = let z : ◌≡◌ {A = ℕ} 0 1 = cc in absurd (omega arith)
answer_refusal (suc k) v l h = record { same = cc; some = λ e. omega arith }

-- the first k of m coordinates
first_padded : {A : Type 0} (d : A) (k m : ℕ) (l : List A) → k ≤ m → take k (padded d m l) ≡ padded d k l
unfolding padded
first_padded d zero m l h = refl
first_padded d (suc k) zero l h = absurd (omega arith)
first_padded d (suc k) (suc m) [] h = ap (λ r. d ∷ r) (first_padded d k m [] (omega arith))
first_padded d (suc k) (suc m) (x ∷ l) h = ap (λ r. x ∷ r) (first_padded d k m l (omega arith))

-- ---- the move

module _ (s p : List ℕ) (k : ℕ) where
  pub move_refused : (e : Refusal) (r : Result PenMove Refusal) → IsErrAnd r (λ d. d ≡ e) → refused (refusal_number e) ≡ padded_point (pointed s p)
      → answer_by move_as r ≡ moved_to s p k
  unfolding pointed moved_to
  move_refused e r is h =
      let a = answer_refusal (point_refusal s p) (point_of (dimension s) (field_of s) (facet_of s p)) (refusal_number e) h in
      answered_by move_as (point_refusal s p) (move_to k (point_millimetres s p)) r (passed_on _ e r is (sym a.same))

  module _ (at : StepPoint) (h : answered at.steps ≡ padded_point (pointed s p)) where
    point_is : PointIs (point_refusal s p) (point_of (dimension s) (field_of s) (facet_of s p)) at.steps
    unfolding pointed
    point_is = answer_point (point_refusal s p) (point_of (dimension s) (field_of s) (facet_of s p)) at.steps h

    -- the cast of each coordinate loses nothing
    pub step_sizes : StepSizes at
    unfolding step_limit steps_per_unit coordinate_limit
    step_sizes = record {
      each = λ i.
          subst (λ (l : List ℤ). Size whole_limit (get_or l i 0ℤ)) (sym point_is.is)
          (size_weaken (point_size s p point_is.none i) (lit≤ tt));
    }

    -- what the pen shows of it
    shown : take 3 at.steps ≡ padded 0ℤ 3 (point_of (dimension s) (field_of s) (facet_of s p))
    shown = ap (take 3) point_is.is ∙ first_padded 0ℤ 3 4 (point_of (dimension s) (field_of s) (facet_of s p)) (lit≤ tt)

    move_made : (m : List Float) → m ≡ map millimetre (take 3 at.steps) → answered (move_to k m) ≡ moved_to s p k
    unfolding moved_to point_millimetres
    move_made m e =
        ap (λ v. answered (move_to k v)) (e ∙ ap (map millimetre) shown)
        ∙ sym (unless_answered (move_to k (point_millimetres s p)) point_is.none)

    pub move_lift : (m : List Float) → m ≡ map millimetre (take 3 at.steps) → k ≡ 0 → answered (lift m) ≡ moved_to s p k
    unfolding move_to
    move_lift m e z = ap (λ t. answered (cond t (lift m) (draw m))) (sym (eq-eqb k 0 z)) ∙ move_made m e

    pub move_draw : (m : List Float) → m ≡ map millimetre (take 3 at.steps) → (k ≡ 0 → ⊥) → answered (draw m) ≡ moved_to s p k
    unfolding move_to
    move_draw m e z = ap (λ t. answered (cond t (lift m) (draw m))) (sym (ne_eqb k 0 z)) ∙ move_made m e
