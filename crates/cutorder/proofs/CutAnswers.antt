-- What each return of the operation says, as the request's answer.
use Prim.Native.Nat.{ℕ, ◌*◌, ◌%◌}
use mathlib.Core.Path.{◌≡◌, sym, ap, ◌∙◌}
use mathlib.Core.Bool.{not}
use mathlib.Core.List.{List}
use lib.ListN.{length}
use borrow.Author.Tests.{eq-eqb}
use Rattle.paper.specs.Job.{dimension, open_refusal}
use Rattle.paper.specs.Operations.{refused, unless}
use Rattle.paper.specs.Pen.{place_count}
use Rattle.paper.proofs.Refusals.{first_passes, refuse_later}
use Rattle.job.specs.OpenJob.{JobOf}
use Rattle.job.proofs.Opened.{job_opens}
use Rattle.nesting.specs.Standing.{standing}
use Rattle.nesting.specs.CutOrder.{loop_inside, first_listed, order_refusal, ordered}
use Rattle.nesting.proofs.OrderAnswers.{order_not_opened, order_other_dimension, order_uneven}
use Rattle.cutorder.specs.Ordering.{ordered_in}

module _ (s ps : List ℕ) where
  pub cut_not_opened : (l : ℕ) → l ≡ open_refusal s → (l ≡ 0 → ⊥) → refused l ≡ ordered s ps
  cut_not_opened l e h = ap refused e ∙ sym (order_not_opened s ps (λ z. h (e ∙ z)))

  pub cut_other_dimension : {n : ℕ} → JobOf n s → (n ≡ 2 → ⊥) → refused 3 ≡ ordered s ps
  cut_other_dimension j h = sym (order_other_dimension (job_opens j) ps (λ e. h (j.dimension ∙ e)))

  module _ (j : JobOf 2 s) where
    pub cut_uneven : (length ps % 6 ≡ 0 → ⊥) → refused 13 ≡ ordered s ps
    cut_uneven h = sym (order_uneven (job_opens j) ps (sym j.dimension) h)

    pub cut_even : length ps % 6 ≡ 0 → ordered_in s ps ≡ ordered s ps
    unfolding ordered_in ordered order_refusal
    cut_even h =
        sym
        (ap (λ k. unless k (standing (loop_inside s) (first_listed s ps (place_count s ps))))
        (first_passes _ j.opens
        ∙ refuse_later 3 _ (ap not (eq-eqb (dimension s) 2 (sym j.dimension)))
        ∙ refuse_later 13 _ (ap not (eq-eqb (length ps % (3 * dimension s)) 0 (ap (λ d. length ps % (3 * d)) (sym j.dimension) ∙ h)))))
