-- The refusals of Open in the order of the code: what each return says, given what the tests before it showed.
-- n is the number that the code read from byte 1.
use Rattle.std.proofs.Common.{◌≡◌, sym, ◌∙◌, true, false, List, [], ◌∷◌, ℕ, ◌+◌, ◌≤◌, ◌<◌, length}
use borrow.Author.Tests.{lt-ltb, le-ltb, eq-eqb, ne_eqb}
use Rattle.exact.specs.Crossed.{count_from}
use Rattle.paper.specs.Bytes.{byte}
use Rattle.paper.specs.Limits.{dimension_ok}
use Rattle.paper.specs.Job.{dimension, refuse_if, open_refusal}
use Rattle.paper.specs.Operations.{answered, polynomial_terms, open_values}
use Rattle.paper.specs.Refusals.{refusal_number}
use Rattle.paper.specs.declared.Refusal.TheVariants.{Short, Version, Dimension, EntryCount}
use Rattle.bodytests.specs.BodyTests.{bodies_refusal}

-- ---- refusals 1 to 4

-- the first tests passed, and n is what byte 1 holds
pub record HeadRight (n : ℕ) (s : List ℕ) : Type 0 where
  pub long : 4 ≤ length s
  pub mark : byte s 0 ≡ 1
  pub is : n ≡ byte s 1

pub refuse_short : (s : List ℕ) → length s < 4 → refusal_number Short ≡ open_refusal s
unfolding open_refusal refuse_if refusal_number
refuse_short s h = rw (lt-ltb _ _ h)

pub refuse_mark : (s : List ℕ) → 4 ≤ length s → (byte s 0 ≡ 1 → ⊥) → refusal_number Version ≡ open_refusal s
unfolding open_refusal refuse_if refusal_number
refuse_mark s l h = rw (le-ltb _ _ l, ne_eqb _ _ h)

module _ {n : ℕ} {s : List ℕ} (r : HeadRight n s) where
  pub refuse_dimension : dimension_ok n ≡ false → refusal_number Dimension ≡ open_refusal s
  unfolding open_refusal refuse_if refusal_number dimension
  refuse_dimension t = rw (le-ltb _ _ r.long, eq-eqb _ _ r.mark, ← r.is, t)

  pub refuse_count : {m : ℕ} → dimension_ok n ≡ true → m ≡ byte s 2 → (m ≡ n + 1 → ⊥) → refusal_number EntryCount ≡ open_refusal s
  unfolding open_refusal refuse_if refusal_number dimension
  refuse_count t e h =
      rw (le-ltb _ _ r.long, eq-eqb _ _ r.mark, ← r.is, t, ne_eqb _ _ (λ g. h (e ∙ g)))

  -- what is left is 5 to 8
  pub head_passes : {m : ℕ} → dimension_ok n ≡ true → m ≡ byte s 2 → m ≡ n + 1 → bodies_refusal n s ≡ open_refusal s
  unfolding open_refusal refuse_if dimension
  head_passes t e h = rw (le-ltb _ _ r.long, eq-eqb _ _ r.mark, ← r.is, t, eq-eqb _ _ (sym e ∙ h))

-- ---- Open's answer

pub open_values_lem : (s : List ℕ) {n a b d : ℕ} → n ≡ dimension s → a ≡ polynomial_terms s 1 → b ≡ polynomial_terms s 2 → d ≡ polynomial_terms s 3
    → answered (n ∷ a ∷ b ∷ d ∷ []) ≡ answered (open_values s)
unfolding open_values count_from
open_values_lem s e f g k = rw (e, f, g, k)
