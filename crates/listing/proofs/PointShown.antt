-- Point's answer has room for four axes; its first n numbers are the place's point, and so the line is the place's.
use Prim.Native.Nat.{ℕ, suc, zero, ◌≤◌}
use mathlib.Core.Path.{◌≡◌, refl, sym, ap, ap₂, ◌∙◌}
use mathlib.Core.List.{List, [], ◌∷◌}
use native.Mathlib.Omega.{arith}
use lib.ListN.{length, take}
use Rattle.exact.specs.Int.{0ℤ}
use Rattle.curves.specs.Grid.{Place}
use Rattle.paper.specs.Job.{dimension}
use Rattle.paper.specs.Values.{field_of, point_of}
use Rattle.paper.specs.Operations.{refused, answered, facet_of, point_refusal, pointed}
use Rattle.paper.specs.Answers.{padded, padded_point, pointed_as}
use Rattle.paper.specs.declared.StepPoint.{StepPoint}
use Rattle.paper.specs.declared.Refusal.{Refusal}
use Rattle.paper.specs.Refusals.{refusal_number, answer_by}
use Rattle.std.proofs.Common.{Result, Ok, Err}
use Rattle.std.specs.Result.{IsOk}
use Rattle.paper.specs.Listing.{place_line}
use Rattle.paper.proofs.Refusals.{unless_answered}
use Rattle.paper.proofs.Opens.{opens, opens_range}
use Rattle.paper.proofs.Encode.{decoded_low_length}
use Rattle.paper.proofs.Rounding.{point_length}
use Rattle.paper.specs.declared.HeldPlace.{HeldPlace}
use Rattle.places.specs.Held.{facet_as, place_as}
use Rattle.places.specs.PlaceBytes.{PlaceRead}
use Rattle.listing.specs.Shown.{line_of, HasLine}
use Rattle.listing.proofs.PlacesShown.{facet_at_lem}

-- what was put behind a list can be taken off again
take_padded : {A : Type 0} (d : A) (k n : ℕ) (l : List A) → length l ≡ n → n ≤ k → take n (padded d k l) ≡ l
unfolding padded
take_padded d k zero [] e h = refl
take_padded d k (suc n) [] e h = absurd (omega arith)
take_padded d k zero (x ∷ l) e h = absurd (omega arith)
take_padded d zero (suc n) (x ∷ l) e h = absurd (omega arith)
take_padded d (suc k) (suc n) (x ∷ l) e h = ap (λ t. x ∷ t) (take_padded d k n l (omega arith) (omega arith))

module _ (s p : List ℕ) (passes : point_refusal s p ≡ 0) where
  padded_is : padded_point (pointed s p) ≡ answered (padded 0ℤ 4 (point_of (dimension s) (field_of s) (facet_of s p)))
  unfolding pointed padded_point
  padded_is = ap padded_point (unless_answered (point_of (dimension s) (field_of s) (facet_of s p)) passes)

  module _ (found : Result StepPoint Refusal) (f : pointed_as found ≡ padded_point (pointed s p)) where
    pub point_answered : IsOk found
    unfolding pointed_as answer_by
    point_answered = go found f
      where
        go : (r : Result StepPoint Refusal) → pointed_as r ≡ padded_point (pointed s p) → IsOk r
        go (Ok q) e = refl
        go (Err k) e =
            let other : refused (refusal_number k) ≡ answered (padded 0ℤ 4 (point_of (dimension s) (field_of s) (facet_of s p))) = e ∙ padded_is in
            cc

    pub point_shown : {q : StepPoint} → found ≡ Ok q → dimension s ≤ 4 → take (dimension s) q.steps ≡ point_of (dimension s) (field_of s) (facet_of s p)
    unfolding pointed_as answer_by facet_of
    point_shown {q} e h =
        let whole : answered q.steps ≡ answered (padded 0ℤ 4 (point_of (dimension s) (field_of s) (facet_of s p))) = sym (ap pointed_as e) ∙ f ∙ padded_is in
        let same : q.steps ≡ padded 0ℤ 4 (point_of (dimension s) (field_of s) (facet_of s p)) = cc in
        ap (take (dimension s)) same
        ∙ take_padded 0ℤ 4 (dimension s) (point_of (dimension s) (field_of s) (facet_of s p))
        (point_length (dimension s) (field_of s) (facet_of s p) ∙ decoded_low_length (dimension s) p) h

-- the place read and the point make the line
pub line_shown : {n : ℕ} {s p : List ℕ} → HasLine n s p → {r : HeldPlace} → PlaceRead n p r
    → {found : Result StepPoint Refusal} {q : StepPoint} → found ≡ Ok q → pointed_as found ≡ padded_point (pointed s p)
    → place_line (facet_as n r) (take n q.steps) ≡ line_of s p
unfolding place_as
line_shown {n} {s} {p} a {r} at {found} {q} e f =
    ap₂ place_line (ap (λ (x : Place). x.facet) at.is ∙ facet_at_lem s p a.job.dimension)
    (ap (λ (m : ℕ). take m q.steps) a.job.dimension
    ∙ point_shown s p a.passes found f e (opens_range (opens s a.job.opens)).high)
