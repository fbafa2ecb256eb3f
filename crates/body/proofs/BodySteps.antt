-- The refusals of Body, and where its part begins: what each return says, given what the tests before it showed.
use Rattle.std.proofs.Common.{◌≡◌, sym, ap, ◌∙◌, not, List, [], ℕ, ◌+◌, ◌≤◌, ◌<◌, arith, Result, Ok, Err, MatchOption, Bor}
use Rattle.std.specs.Result.{result_err, result_unwrap_or}
use borrow.Author.Tests.{lt-ltb, le-ltb, eq-eqb, ne_eqb}
use Rattle.paper.specs.Job.{dimension, entry_offset, open_refusal}
use Rattle.paper.specs.Operations.{body_refusal, body_part}
use Rattle.paper.specs.Refusals.{refusal_number, RefusedOr}
use Rattle.paper.specs.declared.Refusal.{Refusal}
use Rattle.paper.specs.declared.Refusal.TheVariants.{Index}
use Rattle.paper.proofs.Refusals.{refuse_here, refuse_later, first_passes}
use Rattle.paper.proofs.Refused.{refusal_some, refused_first}
use Rattle.paper.proofs.Bodies.{refused_part, given_part}
use Rattle.entries.specs.Parts.{BeginsAt}
use Rattle.body.specs.PartOffset.{part_offset, PartOf}

-- ---- Body's refusal

module _ (s : List ℕ) (k : ℕ) where
  pub not_opened : (e : Refusal) → refusal_number e ≡ open_refusal s → refusal_number e ≡ body_refusal s k
  unfolding body_refusal
  not_opened e h = refused_first e _ h

  module _ {n : ℕ} (z : open_refusal s ≡ 0) (d : n ≡ dimension s) where
    pub index_right : k ≤ n → body_refusal s k ≡ 0
    unfolding body_refusal
    index_right l = let u : k < dimension s + 1 = omega arith in first_passes _ z ∙ refuse_later 12 0 (ap not (lt-ltb _ _ u))

    pub index_wrong : n < k → refusal_number Index ≡ body_refusal s k
    unfolding body_refusal refusal_number
    index_wrong l = let u : dimension s + 1 ≤ k = omega arith in sym (first_passes _ z ∙ refuse_here 12 0 (ap not (le-ltb _ _ u)))

-- the refusal of the test
pub refusal_of : (P : Bor (List ℕ) → Type 0) (k : ℕ) (r : Result (Bor (List ℕ)) Refusal) → RefusedOr k P r
    → MatchOption (result_err r) (k ≡ 0) (λ e. refusal_number e ≡ k)
refusal_of P k (Ok x) h = h.0
refusal_of P k (Err e) h = h

-- ---- where Body's part begins

refused_offset : (s : List ℕ) (k : ℕ) → (body_refusal s k ≡ 0 → ⊥) → part_offset s k ≡ 0
unfolding part_offset
refused_offset s k h = rw (ne_eqb (body_refusal s k) 0 h)

given_offset : (s : List ℕ) (k : ℕ) → body_refusal s k ≡ 0 → part_offset s k ≡ entry_offset s k
unfolding part_offset
given_offset s k h = rw (eq-eqb (body_refusal s k) 0 h)

-- what Body gives: the part, or another that is empty
pub record Given (job : Bor (List ℕ)) (k : ℕ) (part : Bor (List ℕ)) : Type 0 where
  pub place : BeginsAt job (part_offset job.now k) part
  pub bytes : part.now ≡ body_part job.now k

pub given : (job : Bor (List ℕ)) (k : ℕ) (r : Result (Bor (List ℕ)) Refusal) (none : Bor (List ℕ)) → RefusedOr (body_refusal job.now k) (PartOf job k) r
    → BeginsAt job 0 none → none.now ≡ [] → Given job k (result_unwrap_or r none)
given job k (Ok x) none h begins empty = record { place = rw (given_offset job.now k h.0) h.1.place; bytes = h.1.bytes ∙ sym (given_part _ _ h.0) }
given job k (Err e) none h begins empty =
    let refused : body_refusal job.now k ≡ 0 → ⊥ = λ z. refusal_some e (h ∙ z) in
    record { place = rw (refused_offset job.now k refused) begins; bytes = empty ∙ sym (refused_part _ _ refused) }
