-- What an `Ok` and an `Err` of the code say of the paper's chain of refusals.
use Rattle.std.proofs.Common.{◌≡◌, ℕ, ◌∙◌, sym, ap, refl, arith, Result, Ok, Err}
use Rattle.paper.specs.declared.Refusal.{Refusal}
use Rattle.paper.specs.declared.Refusal.TheVariants.{Short, Version, Dimension, EntryCount, Contents, Bounds, Terms, Start, Outside, Unreadable, NotCrossed, Index, Place, Language, Formula, Room, SmallCutter, NoNewLoop}
use Rattle.paper.specs.Job.{refuse_if}
use Rattle.paper.specs.Operations.{Answer, refused, answered, unless, first_refusal}
use Rattle.paper.specs.Refusals.{refusal_number, answer_by, RefusedOr}
use Rattle.paper.proofs.Refusals.{first_refuses, first_passes, unless_refused, unless_answered}

-- no refusal has the number 0
pub refusal_some : (e : Refusal) → refusal_number e ≡ 0 → ⊥
unfolding refusal_number
refusal_some Short h = omega arith
refusal_some Version h = omega arith
refusal_some Dimension h = omega arith
refusal_some EntryCount h = omega arith
refusal_some Contents h = omega arith
refusal_some Bounds h = omega arith
refusal_some Terms h = omega arith
refusal_some Start h = omega arith
refusal_some Outside h = omega arith
refusal_some Unreadable h = omega arith
refusal_some NotCrossed h = omega arith
refusal_some Index h = omega arith
refusal_some Place h = omega arith
refusal_some Language h = omega arith
refusal_some Formula h = omega arith
refusal_some Room h = omega arith
refusal_some SmallCutter h = omega arith
refusal_some NoNewLoop h = omega arith

-- a refusal is that of a chain that begins with it
pub refused_first : (e : Refusal) {k : ℕ} (l : ℕ) → refusal_number e ≡ k → refusal_number e ≡ first_refusal k l
refused_first e l h = h ∙ sym (first_refuses _ l (λ z. refusal_some e (h ∙ z)))

-- a refusal behind none
pub refused_next : (e : Refusal) {k l : ℕ} → k ≡ 0 → refusal_number e ≡ l → refusal_number e ≡ first_refusal k l
refused_next e {l} z h = h ∙ sym (first_passes l z)

-- the answer of a function that refuses with number k, or answers what f reads as v
pub answered_by : {T A : Type 0} (f : T → A) (k : ℕ) (v : A) (r : Result T Refusal) → RefusedOr k (λ x. f x ≡ v) r → answer_by f r ≡ unless k v
unfolding answer_by
answered_by f k v (Ok x) h = ap answered h.1 ∙ sym (unless_answered v h.0)
answered_by f k v (Err e) h = ap refused h ∙ sym (unless_refused _ v (λ z. refusal_some e (h ∙ z)))
