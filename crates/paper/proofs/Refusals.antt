-- A chain of refusals, taken apart: what holds if nothing refuses, and what the chain is once a test is known.
use mathlib.Core.Path.{◌≡◌, refl}
use mathlib.Core.Bool.{Bool, true, false}
use mathlib.Core.Logic.{◌≢◌}
use mathlib.Core.List.{List, []}
use Prim.Native.Nat.{ℕ, suc, zero, ◌<◌}
use native.Mathlib.Omega.{arith}
use Rattle.paper.specs.Job.{refuse_if}
use Rattle.paper.specs.Operations.{refused, answered, unless, first_refusal, part_unless}

-- ---- one test

-- another number than the test's own is answered: the test failed, and the rest answers it
pub record AnsweredLater (t : Bool) (rest m : ℕ) : Type 0 where
  pub test : t ≡ false
  pub next : rest ≡ m

pub answered_later : (t : Bool) (k rest : ℕ) {m : ℕ} → k ≢ m → refuse_if t k rest ≡ m → AnsweredLater t rest m
unfolding refuse_if
answered_later true k rest d h = absurd (d h)
answered_later false k rest d h = record { test = refl; next = h }

-- no refusal
pub not_refused : (t : Bool) (k rest : ℕ) → 0 < k → refuse_if t k rest ≡ 0 → AnsweredLater t rest 0
not_refused t k rest p h = answered_later t k rest (λ z. omega arith) h

pub refuse_here : {t : Bool} (k rest : ℕ) → t ≡ true → refuse_if t k rest ≡ k
unfolding refuse_if
refuse_here k rest h = rw h

pub refuse_later : {t : Bool} (k rest : ℕ) → t ≡ false → refuse_if t k rest ≡ rest
unfolding refuse_if
refuse_later k rest h = rw h

-- ---- one refusal, then another

pub record NeitherRefused (a b : ℕ) : Type 0 where
  pub first : a ≡ 0
  pub next : b ≡ 0

pub neither_refused : (a b : ℕ) → first_refusal a b ≡ 0 → NeitherRefused a b
unfolding first_refusal
neither_refused zero b h = record { first = refl; next = h }
neither_refused (suc a) b h = absurd (omega arith)

pub first_refuses : (a b : ℕ) → (a ≡ 0 → ⊥) → first_refusal a b ≡ a
unfolding first_refusal
first_refuses zero b h = absurd (h refl)
first_refuses (suc a) b h = refl

pub first_passes : {a : ℕ} (b : ℕ) → a ≡ 0 → first_refusal a b ≡ b
unfolding first_refusal
first_passes b h = rw h

-- ---- the answer behind a refusal

pub unless_refused : {A : Type 0} (k : ℕ) (a : A) → (k ≡ 0 → ⊥) → unless k a ≡ refused k
unfolding unless
unless_refused zero a h = absurd (h refl)
unless_refused (suc k) a h = refl

pub unless_answered : {A : Type 0} {k : ℕ} (a : A) → k ≡ 0 → unless k a ≡ answered a
unfolding unless
unless_answered a h = rw h

-- an answer comes from no refusal, and a refusal from a number above 0
pub record Answered {A : Type 0} (k : ℕ) (a b : A) : Type 0 where
  pub none : k ≡ 0
  pub is : a ≡ b

pub answered_inv : {A : Type 0} (k : ℕ) (a b : A) → unless k a ≡ answered b → Answered k a b
unfolding unless
answered_inv zero a b h = record { none = refl; is = cc }
answered_inv (suc k) a b h = let z : ◌≡◌ {A = ℕ} 0 1 = cc in absurd (omega arith)

-- a refusal is the number that refuses
pub record RefusedBy (k m : ℕ) : Type 0 where
  pub some : 0 < k
  pub is : k ≡ m

pub refused_inv : {A : Type 0} (k : ℕ) (a : A) {m : ℕ} → unless k a ≡ refused m → RefusedBy k m
unfolding unless
refused_inv zero a h = let z : ◌≡◌ {A = ℕ} 0 1 = cc in absurd (omega arith)
refused_inv (suc k) a h = record { some = omega arith; is = cc }

pub part_refused : (k : ℕ) (b : List ℕ) → (k ≡ 0 → ⊥) → part_unless k b ≡ []
unfolding part_unless
part_refused zero b h = absurd (h refl)
part_refused (suc k) b h = refl

pub part_given : {k : ℕ} (b : List ℕ) → k ≡ 0 → part_unless k b ≡ b
unfolding part_unless
part_given b h = rw h
