-- What Step answers, as the paper's answer.
use Prim.Native.Nat.{ℕ, suc, zero}
use mathlib.Core.Path.{◌≡◌, refl, sym, ap, ◌∙◌}
use mathlib.Core.List.{List}
use Rattle.std.proofs.Common.{Result, Ok, Err, MatchResult}
use Rattle.std.specs.Result.{IsOkAnd}
use Rattle.curves.specs.Grid.{Place}
use Rattle.curves.specs.Walk.{Next, go}
use Rattle.curves.specs.Step as Walk
use Rattle.paper.specs.Job.{dimension, decode_place}
use Rattle.paper.specs.Operations.{unless, step_in, stepped, point_refusal}
use Rattle.paper.specs.Refusals.{RefusedOr}
use Rattle.paper.specs.Answers.{placed_as, padded_place, padded_next, padded_step, next_as, stepped_as}
use Rattle.paper.specs.declared.HeldPlace.{HeldPlace}
use Rattle.paper.specs.declared.Stop.{Stop}
use Rattle.paper.specs.declared.Refusal.{Refusal}
use Rattle.paper.proofs.Refused.{answered_by}
use Rattle.places.specs.Held.{place_as}
use Rattle.step.specs.Ahead.{AheadIs}

padded_unless : (k : ℕ) (a : Next Place Walk.Stop) → unless k (padded_next a) ≡ padded_step (unless k a)
unfolding unless padded_step
padded_unless zero a = refl
padded_unless (suc k) a = refl

pub step_answered : (s p : List ℕ) (r : Result (Result HeldPlace Stop) Refusal)
    → RefusedOr (point_refusal s p) (λ a. next_as a ≡ padded_next (step_in s (decode_place (dimension s) p))) r
    → stepped_as r ≡ padded_step (stepped s p)
unfolding stepped_as stepped
step_answered s p r h =
    let a : Next Place Walk.Stop = step_in s (decode_place (dimension s) p) in
    answered_by next_as (point_refusal s p) (padded_next a) r h ∙ padded_unless (point_refusal s p) a

-- what lies ahead, with the next place as the answer has it
pub ahead_answered : (s : List ℕ) (n : ℕ) (x : Place) (P : HeldPlace → HeldPlace → Type 0) (r a : Result HeldPlace Stop) → AheadIs s n x r
    → MatchResult r (λ q. IsOkAnd a (P q)) (λ w. a ≡ Err w) → ((q y : HeldPlace) → P q y → placed_as y ≡ padded_place (place_as n q))
    → next_as a ≡ padded_next (step_in s x)
unfolding next_as padded_next
ahead_answered s n x P (Ok q) (Ok y) l h f = ap go (f q y h) ∙ ap padded_next (sym l.is)
ahead_answered s n x P (Ok q) (Err w) l h f = absurd h
ahead_answered s n x P (Err w) a l h f = ap next_as h ∙ ap padded_next (sym l)
