-- The answers of writing a job and the buffer at exit, by what the code has tested and laid.
use Prim.Native.Nat.{ℕ, ◌+◌, ◌<◌, ◌≤◌}
use native.Mathlib.Omega.{arith}
use mathlib.Core.Path.{◌≡◌, sym, ap, ◌∙◌}
use mathlib.Core.Bool.{true, false, not}
use mathlib.Core.List.{List}
use lib.ListN.{length}
use lib.Dec.{lit<}
use lib.Seq.{sets}
use borrow.Author.Tests.{not-false}
use Rattle.paper.specs.Limits.{dimension_ok}
use Rattle.paper.specs.Job.{contents_end, open_refusal}
use Rattle.paper.specs.Operations.{Answer, refused, answered}
use Rattle.paper.proofs.Refusals.{not_refused, refuse_later}
use Rattle.assembly.specs.Assembled.{Loose, handed, body_of, bodies_of, job_from, assembled}
use Rattle.assembly.specs.Written.{written, buffer_written}
use Rattle.assembly.specs.LooseRefusal.{lengths_ok, form_refusal, loose_refusal}
use Rattle.assembly.proofs.Lengths.{job_length, job_same, sets_over}
use Rattle.assembly.proofs.OpensTo.{opens_to}
use Rattle.assembly.proofs.WriteAnswers.{write_loose, write_not_dimension, write_no_room, write_room, refused_nothing}
use Rattle.laying.specs.Laid.{Laid}
use Rattle.loose.specs.Arranged.{Arranged}

-- the answer and the buffer at exit are the definition's
pub record Outcome (d : Loose) (buffer : List ℕ) (r : Answer ℕ) (after : List ℕ) : Type 0 where
  pub answer : r ≡ written d buffer
  pub bytes : after ≡ buffer_written d buffer

-- the bias is no part of a body
pub any_bias : (n bias : ℕ) (b p q r s : List ℕ) (f : ℕ → List ℕ) → Arranged (handed n 0 b p q r s) f → Arranged (handed n bias b p q r s) f
unfolding Arranged body_of
any_bias n bias b p q r s f a = a

-- bodies that are not refused have the right lengths
pub right_lengths : (n : ℕ) (f : ℕ → List ℕ) → form_refusal n f ≡ 0 → lengths_ok n f ≡ true
unfolding form_refusal
right_lengths n f h = not-false _ (not_refused _ 5 _ (lit< tt) h).test

module _ (d : Loose) (buffer : List ℕ) where
  -- a refusal touches nothing
  refusal : (k : ℕ) → written d buffer ≡ refused k → Outcome d buffer (refused k) buffer
  refusal k e = record { answer = sym e; bytes = sym (refused_nothing d buffer k e) }

  pub no_dimension : dimension_ok d.n ≡ false → Outcome d buffer (refused 3) buffer
  no_dimension h = refusal 3 (write_not_dimension d buffer h)

  module _ (f : ℕ → List ℕ) (a : Arranged d f) (h : dimension_ok d.n ≡ true) where
    -- the job from the bodies by index
    job_is : job_from d.n d.bias f ≡ assembled d
    unfolding Arranged assembled
    job_is = job_same d.n d.bias f (body_of d) a

    pub length_is : contents_end d.n + length (bodies_of f 0 (d.n + 1)) ≡ length (assembled d)
    length_is = sym (job_length d.n d.bias f) ∙ ap length job_is

    pub job_long : length (assembled d) ≤ length buffer → length (job_from d.n d.bias f) ≤ length buffer
    job_long l = omega (arith, ap length job_is)

    form_is : loose_refusal d.n (body_of d) ≡ form_refusal d.n f
    unfolding loose_refusal assembled
    form_is =
        sym (opens_to d.n d.bias (body_of d)) ∙ ap open_refusal (sym job_is) ∙ opens_to d.n d.bias f
        ∙ refuse_later 3 _ (ap not h)

    pub wrong_form : (r : ℕ) → r ≡ form_refusal d.n f → (r ≡ 0 → ⊥) → Outcome d buffer (refused r) buffer
    wrong_form r e n = refusal r (write_loose d buffer r (omega (arith, n)) (form_is ∙ sym e))

    module _ (e : form_refusal d.n f ≡ 0) where
      pub no_room : length buffer < length (assembled d) → Outcome d buffer (refused 16) buffer
      no_room l = refusal 16 (write_no_room d buffer (form_is ∙ e) l)

      pub laid : (after : List ℕ) (r : ℕ) → length (assembled d) ≤ length buffer → Laid buffer 0 (job_from d.n d.bias f) after r
          → Outcome d buffer (answered r) after
      laid after r l p =
          let w = write_room d buffer (form_is ∙ e) l in
          let same : r ≡ length (assembled d) = omega (arith, p.position, ap length job_is) in
          record {
            answer = ap answered same ∙ sym w.0;
            bytes = p.buffer ∙ ap (sets buffer 0) job_is ∙ sets_over (assembled d) buffer l ∙ sym w.1;
          }
