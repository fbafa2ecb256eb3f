-- The refusals of Trace are those of Point at the job's own start.
use mathlib.Core.Path.{◌≡◌, refl, sym, ap, ◌∙◌}
use mathlib.Core.Bool.{not}
use mathlib.Core.List.{List}
use Prim.Native.Nat.{ℕ, suc, zero}
use Rattle.paper.specs.Job.{dimension, body, open_refusal, refuse_if}
use Rattle.paper.specs.Operations.{facet_refusal, facet_of, place_bad, crossed_in, first_refusal, judge_refusal, point_refusal, start_of, trace_refusal}
use Rattle.paper.proofs.Refusals.{refuse_later}
use Rattle.paper.proofs.Opens.{Opens, opens}
use Rattle.paper.proofs.Bodies.{start_length}
use Rattle.located.proofs.PlaceForm.{right_form}

pub first_assoc : (a b c : ℕ) → first_refusal (first_refusal a b) c ≡ first_refusal a (first_refusal b c)
unfolding first_refusal
first_assoc zero b c = refl
first_assoc (suc a) b c = refl

-- a refusal that counts only if the first is 0 may be changed there
under_first : (a : ℕ) {b c : ℕ} → (a ≡ 0 → b ≡ c) → first_refusal a b ≡ first_refusal a c
unfolding first_refusal
under_first zero h = h refl
under_first (suc a) h = refl

pub start_refusal_lem : (s : List ℕ) → trace_refusal s ≡ point_refusal s (body s (dimension s))
unfolding trace_refusal point_refusal judge_refusal start_of facet_of
start_refusal_lem s =
    let start : List ℕ = body s (dimension s) in
    let not_crossed : ℕ = refuse_if (not (crossed_in s (facet_of s start))) 11 0 in
    under_first (open_refusal s) (λ z.
    let o : Opens s = opens s z in
    ap (λ k. first_refusal k not_crossed)
    (sym (refuse_later 13 (facet_refusal s (facet_of s start)) (right_form (dimension s) start (start_length o) o.start))))
    ∙ sym (first_assoc (open_refusal s) (refuse_if (place_bad (dimension s) start) 13 (facet_refusal s (facet_of s start))) not_crossed)
