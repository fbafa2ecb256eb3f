-- What each return of Pen says, as the paper's answer. n is the job's dimension, as the code holds it.
use Prim.Native.Nat.{ℕ, ◌+◌, ◌*◌, ◌-◌, ◌/◌, ◌%◌, ◌≤◌, ◌<◌}
use native.Mathlib.Omega.{arith}
use mathlib.Core.Path.{◌≡◌, sym, ap, subst, ◌∙◌}
use mathlib.Core.Bool.{Bool, true, false, not, cond}
use mathlib.Core.List.{List}
use lib.ListN.{length, take, drop}
use lib.Dec.{ltb}
use borrow.Author.Tests.{eq-eqb, ne_eqb, lt-ltb, le-ltb}
use Rattle.paper.specs.Job.{dimension, refuse_if, open_refusal}
use Rattle.paper.specs.Operations.{refused, answered, unless, point_refusal}
use Rattle.paper.specs.Pen.{close, place_bytes, place_count, point_millimetres, closes, pen_refusal, pen_move, move_as, penned}
use Rattle.paper.proofs.Refusals.{first_passes, refuse_here, refuse_later, unless_refused, unless_answered}
use Rattle.paper.proofs.PlaceLists.{count_is, part_is}
use Rattle.std.proofs.Common.{Result}
use Rattle.std.specs.Result.{IsErrAnd}
use Rattle.paper.specs.declared.PenMove.{PenMove}
use Rattle.paper.specs.declared.Refusal.{Refusal}
use Rattle.paper.specs.Refusals.{refusal_number, answer_by}
use Rattle.paper.proofs.Refused.{refused_first, answered_by}
use Rattle.job.specs.OpenJob.{JobOf}
use Rattle.located.proofs.Passed.{passed_on}
use Rattle.pen.specs.Moves.{closes_at, move_to, moved_to}

module _ (s ps : List ℕ) (mark : Bool) (k : ℕ) where
  -- a refusal's number is the answer
  refusal_answers : (l : ℕ) → pen_refusal s ps mark k ≡ l → 0 < l → refused l ≡ penned s ps mark k
  unfolding penned
  refusal_answers l e h =
      sym (unless_refused (pen_refusal s ps mark k) (pen_move s ps mark k) (λ z. omega (arith, e, z)) ∙ ap refused e)

  pub pen_not_opened : (e : Refusal) (r : Result PenMove Refusal) → IsErrAnd r (λ d. d ≡ e) → refusal_number e ≡ open_refusal s
      → answer_by move_as r ≡ penned s ps mark k
  unfolding penned pen_refusal
  pen_not_opened e r is h =
      answered_by move_as (pen_refusal s ps mark k) (pen_move s ps mark k) r (passed_on _ e r is (refused_first e _ h))

  module _ {n : ℕ} (job : JobOf n s) where
    o : open_refusal s ≡ 0
    o = job.opens

    e : n ≡ dimension s
    e = job.dimension

    pub pen_uneven : (length ps % (3 * n) ≡ 0 → ⊥) → refused 13 ≡ penned s ps mark k
    unfolding pen_refusal
    pen_uneven h =
        refusal_answers 13
        (first_passes _ o ∙ refuse_here 13 _ (ap not (ne_eqb _ 0 (subst (λ d. length ps % (3 * d) ≡ 0 → ⊥) e h))))
        (omega arith)

    module _ (even : length ps % (3 * n) ≡ 0) where
      closes_is : closes_at (length ps / (3 * n)) mark k ≡ closes s ps mark k
      unfolding closes_at closes
      closes_is = ap (λ c. closes_at c mark k) (count_is s ps e)

      -- behind the test of the length
      past_length :
          pen_refusal s ps mark k
          ≡ cond (closes s ps mark k) 0 (refuse_if (not (ltb k (place_count s ps))) 12 (point_refusal s (place_bytes s ps k)))
      unfolding pen_refusal
      past_length =
          first_passes _ o ∙ refuse_later 13 _ (ap not (eq-eqb _ 0 (subst (λ d. length ps % (3 * d) ≡ 0) e even)))

      pub pen_closes : closes_at (length ps / (3 * n)) mark k ≡ true → answered close ≡ penned s ps mark k
      unfolding penned pen_move
      pen_closes h =
          let c : closes s ps mark k ≡ true = sym closes_is ∙ h in
          let none : pen_refusal s ps mark k ≡ 0 = past_length ∙ rw c in
          let move : pen_move s ps mark k ≡ close = rw c in
          sym (unless_answered (pen_move s ps mark k) none ∙ ap answered move)

      module _ (c : closes_at (length ps / (3 * n)) mark k ≡ false) where
        not_closed : closes s ps mark k ≡ false
        not_closed = sym closes_is ∙ c

        past_close : pen_refusal s ps mark k ≡ refuse_if (not (ltb k (place_count s ps))) 12 (point_refusal s (place_bytes s ps k))
        past_close =
            past_length ∙ ap (λ t. cond t 0 (refuse_if (not (ltb k (place_count s ps))) 12 (point_refusal s (place_bytes s ps k)))) not_closed

        pub pen_past : length ps / (3 * n) ≤ k → refused 12 ≡ penned s ps mark k
        pen_past h =
            refusal_answers 12
            (past_close ∙ refuse_here 12 _ (ap not (le-ltb k (place_count s ps) (subst (λ c. c ≤ k) (count_is s ps e) h))))
            (omega arith)

        module _ (h : k < length ps / (3 * n)) where
          refusal_is : pen_refusal s ps mark k ≡ point_refusal s (place_bytes s ps k)
          refusal_is = past_close ∙ refuse_later 12 _ (ap not (lt-ltb k (place_count s ps) (subst (λ m. k < m) (count_is s ps e) h)))

          move_is : pen_move s ps mark k ≡ move_to k (point_millimetres s (place_bytes s ps k))
          unfolding pen_move move_to
          move_is = ap (λ t. cond t close (move_to k (point_millimetres s (place_bytes s ps k)))) not_closed

          -- what place k answers
          pub pen_at :
              (part : List ℕ) → part ≡ take (3 * n * k + 3 * n - 3 * n * k) (drop (3 * n * k) ps)
              → moved_to s part k ≡ penned s ps mark k
          unfolding penned moved_to
          pen_at part q = ap (λ p. moved_to s p k) (part_is s ps e k q) ∙ sym (λ i. unless (refusal_is i) (move_is i))
