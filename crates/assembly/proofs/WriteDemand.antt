-- What an answer means, in the request's words, follows from the answer.
use Prim.Native.Nat.{ℕ, ◌+◌, ◌≤◌, ◌<◌}
use native.Mathlib.Omega.{arith}
use mathlib.Core.Path.{◌≡◌, sym, ap, subst, ◌∙◌}
use mathlib.Core.Bool.{not}
use mathlib.Core.List.{List}
use lib.ListN.{length, take}
use borrow.Author.Tests.{lt-ltb}
use Rattle.paper.specs.Job.{dimension, bias, open_refusal}
use Rattle.paper.specs.Operations.{answered, body_refusal, body_part}
use Rattle.paper.proofs.Refusals.{first_passes, refuse_later}
use Rattle.paper.proofs.Bodies.{given_part}
use Rattle.assembly.specs.Assembled.{Loose, body_of, assembled}
use Rattle.assembly.specs.Written.{written, over, buffer_written}
use Rattle.assembly.specs.LooseRefusal.{loose_refusal}
use Rattle.assembly.specs.WriteDemand.{WriteDemand}
use Rattle.assembly.proofs.Lengths.{over_front, over_behind, over_length}
use Rattle.assembly.proofs.OpensTo.{job_dimension, job_bias, same_body, opens_to}
use Rattle.assembly.proofs.WriteAnswers.{write_given, loose_form}

module _ (d : Loose) (h : loose_refusal d.n (body_of d) ≡ 0) where
  written_opens : open_refusal (assembled d) ≡ 0
  unfolding assembled
  written_opens = opens_to d.n d.bias (body_of d) ∙ h

  written_part : (k : ℕ) → k ≤ d.n → body_part (assembled d) k ≡ body_of d k
  unfolding assembled body_refusal
  written_part k l =
      let t = loose_form d.n (body_of d) h in
      let under : k < dimension (assembled d) + 1 = omega (arith, job_dimension d.n d.bias (body_of d)) in
      given_part (assembled d) k
      (first_passes _ written_opens ∙ refuse_later 12 0 (ap not (lt-ltb k (dimension (assembled d) + 1) under)))
      ∙ same_body d.n d.bias (body_of d) t.dimensions t.lengths k l

  over_demand : (buffer : List ℕ) → length (assembled d) ≤ length buffer → WriteDemand d buffer (over (assembled d) buffer) (length (assembled d))
  unfolding assembled
  over_demand buffer room =
      let front : take (length (assembled d)) (over (assembled d) buffer) ≡ assembled d = over_front (assembled d) buffer in
      record {
        room = room;
        same_length = over_length (assembled d) buffer room;
        opens = ap open_refusal front ∙ written_opens;
        same_dimension = ap dimension front ∙ job_dimension d.n d.bias (body_of d);
        same_bias = ap bias front ∙ job_bias d.n d.bias (body_of d);
        same_bodies = λ k l. ap (λ s. body_part s k) front ∙ written_part k l;
        behind = over_behind (assembled d) buffer;
      }

pub written_demand : (d : Loose) (buffer : List ℕ) (l : ℕ) → written d buffer ≡ answered l → WriteDemand d buffer (buffer_written d buffer) l
written_demand d buffer l h =
    let g = write_given d buffer l h in
    subst (λ k. WriteDemand d buffer (buffer_written d buffer) k) g.is
    (subst (λ after. WriteDemand d buffer after (length (assembled d))) (sym g.left) (over_demand d g.loose buffer g.room))
