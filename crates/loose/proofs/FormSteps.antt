-- The lengths of loose bodies by kind, and the refusal of a wrong one.
use Rattle.std.proofs.Common.{◌≡◌, true, false, List, ℕ, ◌*◌, ◌<◌, length, arith}
use Rattle.paper.specs.Job.{refuse_if}
use Rattle.paper.specs.Refusals.{refusal_number}
use Rattle.paper.specs.declared.Refusal.TheVariants.{Contents}
use Rattle.paper.proofs.Bodies.{box_kind, start_kind}
use Rattle.assembly.specs.LooseRefusal.{lengths_ok, form_refusal}
use Rattle.assembly.proofs.Entries.{kind_at}
use Rattle.bodytests.specs.BodyTests.{forms_refusal}

module _ (n : ℕ) (f : ℕ → List ℕ) where
  pub refuse_lengths : lengths_ok n f ≡ false → refusal_number Contents ≡ form_refusal n f
  unfolding form_refusal refuse_if refusal_number
  refuse_lengths a = rw a

  module _ (a : lengths_ok n f ≡ true) where
    -- a body of the right length has the length of its kind
    pub box_long : length (f 0) ≡ 4 * n
    box_long = box_kind n (length (f 0)) (kind_at n f a 0 (omega arith))

    pub start_long : 0 < n → length (f n) ≡ 3 * n
    start_long p = start_kind n (length (f n)) p (kind_at n f a n (omega arith))

    -- the lengths are right: the bodies decide
    pub forms_decide : forms_refusal n f ≡ form_refusal n f
    unfolding form_refusal refuse_if
    forms_decide = rw a
