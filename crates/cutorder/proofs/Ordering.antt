-- The list gone through up to a position: none of those before it is refused, and the first of them with a later one inside it is known.
use Prim.Native.Nat.{ℕ, suc, ◌+◌, ◌-◌, ◌≤◌, ◌<◌}
use native.Mathlib.Omega.{arith}
use mathlib.Core.Path.{◌≡◌, refl, sym, ap, ap₂, subst, ◌∙◌}
use mathlib.Core.List.{List}
use Rattle.std.proofs.Common.{Option, None}
use Rattle.paper.specs.Refusals.{refusal_number}
use Rattle.paper.specs.declared.Refusal.{Refusal}
use Rattle.paper.proofs.Refused.{refusal_some}
use Rattle.exact.specs.Crossed.{count_from}
use Rattle.paper.specs.Operations.{refused, answered, first_refusal, point_refusal}
use Rattle.paper.specs.Pen.{place_bytes, place_count}
use Rattle.paper.proofs.Refusals.{first_refuses, first_passes, neither_refused, unless_refused, unless_answered}
use Rattle.nesting.specs.Standing.{standing}
use Rattle.nesting.specs.Answers.{standing_of}
use Rattle.nesting.specs.CutOrder.{loop_inside, listed_at, first_listed, position_refusal, positions_refusal}
use Rattle.positions.specs.Positions.{outer_of, TakesUpTo}
use Rattle.cutorder.specs.Ordering.{earlier_of, first_broken, ordered_in}
use Rattle.cutorder.proofs.Broken.{broken_last, standing_is}
use Rattle.positions.proofs.ListedPlaces.{listed_last}
use Rattle.positions.proofs.AtPosition.{takes_next}

pub record Ordering (s ps : List ℕ) (first : Option ℕ) (k : ℕ) : Type 0 where
  pub within : k ≤ place_count s ps
  pub takes : TakesUpTo s ps k
  pub rest : positions_refusal s ps 0 (place_count s ps) ≡ positions_refusal s ps k (place_count s ps - k)
  pub broken : first ≡ first_broken (loop_inside s) 0 (first_listed s ps k)

module _ (s ps : List ℕ) where
  abbrev count : ℕ
  count = place_count s ps

  pub ordering_begins : Ordering s ps None 0
  unfolding first_listed count_from first_broken
  ordering_begins = record {
    within = omega arith;
    takes = λ i h. absurd (omega (arith, h));
    rest = ap (positions_refusal s ps 0) (omega arith);
    broken = refl;
  }

  module _ {first : Option ℕ} {k : ℕ} (c : Ordering s ps first k) (h : k < count) where
    -- the refusals that are left, one by one
    rest_is : positions_refusal s ps 0 count ≡ first_refusal (position_refusal s ps k) (positions_refusal s ps (suc k) (count - suc k))
    unfolding positions_refusal
    rest_is =
        let next : count - k ≡ suc (count - suc k) = omega (arith, h) in
        c.rest ∙ ap (positions_refusal s ps k) next

    -- this position is refused
    pub ordering_refused : (e : Refusal) → refusal_number e ≡ position_refusal s ps k → refused (refusal_number e) ≡ ordered_in s ps
    unfolding ordered_in
    ordering_refused e is =
        let some = refusal_some e in
        let all : positions_refusal s ps 0 count ≡ refusal_number e =
        rest_is ∙ first_refuses (position_refusal s ps k) _ (λ z. some (is ∙ z)) ∙ sym is in
        sym
        (unless_refused (positions_refusal s ps 0 count) (standing (loop_inside s) (first_listed s ps count)) (λ z. some (sym all ∙ z))
        ∙ ap refused all)

    -- it is not, and its loop is inside that of an earlier one or of none
    pub ordering_on : {outer next : Option ℕ} → (position_refusal s ps k ≡ 0) × (outer ≡ outer_of s ps k) → next ≡ earlier_of first outer → Ordering s ps next (k + 1)
    unfolding outer_of position_refusal
    ordering_on {outer} {next} r f =
        let l = first_listed s ps k in
        let p = listed_at s ps k in
        record {
          within = omega (arith, h);
          takes = subst (TakesUpTo s ps) up (takes_next s ps k c.takes (neither_refused (point_refusal s (place_bytes s ps k)) _ r.0).first);
          rest = rest_is ∙ first_passes _ r.0 ∙ ap (λ m. positions_refusal s ps m (count - m)) up;
          broken =
              f
              ∙ ap₂ earlier_of c.broken r.1
              ∙ sym (broken_last (loop_inside s) 0 l p)
              ∙ ap (first_broken (loop_inside s) 0) (sym (listed_last s ps k));
        }
      where
        up : suc k ≡ k + 1
        up = omega arith

  -- all positions are gone through
  module _ {first : Option ℕ} {k : ℕ} (c : Ordering s ps first k) (h : count ≤ k) where
    all : k ≡ count
    all = omega (arith, h, c.within)

    none_refused : positions_refusal s ps 0 count ≡ 0
    unfolding positions_refusal
    none_refused = let none : count - k ≡ 0 = omega (arith, h) in c.rest ∙ ap (positions_refusal s ps k) none

    pub ordering_ends : answered (standing_of first) ≡ ordered_in s ps
    unfolding ordered_in
    ordering_ends =
        ap (λ o. answered (standing_of o)) (c.broken ∙ ap (λ m. first_broken (loop_inside s) 0 (first_listed s ps m)) all)
        ∙ ap answered (standing_is (loop_inside s) (first_listed s ps count))
        ∙ sym (unless_answered (standing (loop_inside s) (first_listed s ps count)) none_refused)
