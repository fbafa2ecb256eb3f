-- Body's offset and length: for a body that is not refused they are its entry of the contents, and mark a part inside the job.
use mathlib.Core.Path.{◌≡◌, sym, ◌∙◌}
use mathlib.Core.List.{List}
use Prim.Native.Nat.{ℕ, ◌+◌, ◌≤◌}
use lib.ListN.{length, take, drop}
use Rattle.paper.specs.Job.{entry_offset, entry_length, body}
use Rattle.paper.specs.Operations.{body_refusal, body_part}
use Rattle.paper.proofs.Opens.{opens}
use Rattle.paper.proofs.Bodies.{body_given, given_part}
use Rattle.paper.proofs.Refusals.{unless_refused, unless_answered}
use Rattle.entries.specs.Parts.{PartInside}
use Rattle.entries.proofs.EntrySteps.{contents_part}
use Rattle.jobnumbers.specs.declared.BodyAnswer.{BodyAnswer}
use Rattle.jobnumbers.specs.Numbers.{body_entry, body_numbers}

module _ (s : List ℕ) (k : ℕ) where
  pub refused_entry : {r : ℕ} → r ≡ body_refusal s k → (r ≡ 0 → ⊥)
      → ◌≡◌ {A = BodyAnswer} (record { refusal = r; offset = 0; length = 0 }) (body_numbers (body_entry s k))
  unfolding body_entry body_numbers
  refused_entry e h = rw (e, unless_refused {A = ℕ × ℕ} (body_refusal s k) (entry_offset s k, entry_length s k) (λ g. h (e ∙ g)))

  -- the entry and the body lie inside the job
  pub entry_inside : body_refusal s k ≡ 0 → PartInside s k
  entry_inside h = let g = body_given s k h in contents_part _ _ _ (opens _ g.opened).contents g.index

  module _ (h : body_refusal s k ≡ 0) {at l : ℕ} (e : at ≡ entry_offset s k) (f : l ≡ entry_length s k) where
    pub given_entry : ◌≡◌ {A = BodyAnswer} (record { refusal = 0; offset = at; length = l }) (body_numbers (body_entry s k))
    unfolding body_entry body_numbers
    given_entry = rw (e, f, unless_answered {A = ℕ × ℕ} (entry_offset s k, entry_length s k) h)

    pub given_bytes : take l (drop at s) ≡ body_part s k
    unfolding body
    given_bytes = rw (e, f) (sym (given_part s k h))

    pub given_inside : at + l ≤ length s
    given_inside = rw (e, f) (entry_inside h).end
