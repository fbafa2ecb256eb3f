-- When 13 refuses a place: its bytes are not 3n, or it is malformed; and what Judge refuses once the job has opened.
use mathlib.Core.Path.{◌≡◌, sym, ap, ◌∙◌}
use mathlib.Core.Bool.{true, false}
use mathlib.Core.List.{List}
use Prim.Native.Nat.{ℕ, ◌*◌}
use lib.ListN.{length}
use borrow.Author.Tests.{eq-eqb, ne_eqb}
use Rattle.curves.specs.Grid.{place_ok}
use Rattle.paper.specs.Job.{dimension, decode_place, refuse_if}
use Rattle.paper.specs.Operations.{facet_refusal, facet_of, place_bad, judge_refusal}
use Rattle.paper.proofs.Refusals.{first_passes}
use Rattle.job.specs.OpenJob.{JobOf}

module _ (n : ℕ) (p : List ℕ) where
  pub wrong_length : (length p ≡ 3 * n → ⊥) → place_bad n p ≡ true
  unfolding place_bad
  wrong_length h = rw (ne_eqb (length p) (3 * n) h)

  pub wrong_form : length p ≡ 3 * n → place_ok n (decode_place n p) ≡ false → place_bad n p ≡ true
  unfolding place_bad
  wrong_form l h = rw (eq-eqb (length p) (3 * n) l, h)

  pub right_form : length p ≡ 3 * n → place_ok n (decode_place n p) ≡ true → place_bad n p ≡ false
  unfolding place_bad
  right_form l h = rw (eq-eqb (length p) (3 * n) l, h)

-- behind Open's refusals
pub judge_refusal_lem :
    {n : ℕ} {s : List ℕ} → JobOf n s → (p : List ℕ)
    → judge_refusal s p ≡ refuse_if (place_bad n p) 13 (facet_refusal s (facet_of s p))
unfolding judge_refusal
judge_refusal_lem {s} job p =
    first_passes (refuse_if (place_bad (dimension s) p) 13 (facet_refusal s (facet_of s p))) job.opens
    ∙ ap (λ k. refuse_if (place_bad k p) 13 (facet_refusal s (facet_of s p))) (sym job.dimension)
