-- One position of the list: what the trace from its place says of its refusal, and of the answer there.
use Prim.Native.Nat.{ℕ, suc, zero}
use native.Mathlib.Omega.{arith}
use mathlib.Core.Path.{◌≡◌, refl, sym, ap, ◌∙◌}
use mathlib.Core.Bool.{Bool, true, false, not, ◌||◌, false≢true}
use mathlib.Core.List.{List}
use lib.Dec.{eqb}
use lib.ListN.{length}
use borrow.Author.Tests.{eqb-true, eqb-false}
use denote.Enum.Bare.{sameb}
use Rattle.curves.specs.Grid.{Place}
use Rattle.curves.specs.Walk.{Verdict, Trace}
use Rattle.curves.specs.Step.{Stop}
use Rattle.paper.specs.Job.{refuse_if}
use Rattle.paper.specs.Operations.{Answer, refused, answered, unless, point_refusal, verdict_and_count}
use Rattle.paper.specs.Pen.{place_bytes}
use Rattle.paper.specs.Answers.{verdict_as}
use Rattle.paper.specs.declared.Verdict as Code
use Rattle.paper.specs.contracts.Verdict.{the_type}
use Rattle.paper.proofs.Refusals.{first_refuses, first_passes, refuse_here, answered_inv}
use Rattle.seamlist.specs.WholeTrace.{whole_trace}
use Rattle.nesting.specs.Standing.{some}
use Rattle.nesting.specs.CutOrder.{is_loop, on_loop, same_loop, listed_at, first_listed, position_refusal}
use Rattle.lengths.specs.Length.{traced_from}
use Rattle.positions.specs.Positions.{compared_refusal, TakesUpTo}

-- ---- an answer taken apart

-- a refusal's number is none of an answer
pub record RefusedBy (k m : ℕ) : Type 0 where
  pub is : k ≡ m
  pub some : k ≡ 0 → ⊥

pub refused_inv : {A : Type 0} (k : ℕ) (a : A) (m : ℕ) → refused m ≡ unless k a → RefusedBy k m
unfolding unless
refused_inv {A} zero a m e = absurd (false≢true (ap answers e))
  where
    answers : Answer A → Bool
    answers (refused l) = false
    answers (answered b) = true
refused_inv {A} (suc k) a m e = record { is = sym (ap number e); some = λ z. omega (arith, z) }
  where
    number : Answer A → ℕ
    number (refused l) = l
    number (answered b) = 0

-- verdict and count of a trace, unless it is refused
counted_unless : (k : ℕ) (t : Trace Place Stop) → verdict_and_count (unless k t) ≡ unless k (t.verdict, length t.places)
unfolding unless verdict_and_count
counted_unless zero t = refl
counted_unless (suc k) t = refl

-- ---- the position

-- the place at position k is taken, and this is the verdict of its trace
pub record TakenAs (s ps : List ℕ) (k : ℕ) (v : Verdict Stop) : Type 0 where
  pub none : point_refusal s (place_bytes s ps k) ≡ 0
  pub verdict : (whole_trace s (listed_at s ps k)).verdict ≡ v

module _ (s ps : List ℕ) (k : ℕ) {part : List ℕ} (is : part ≡ place_bytes s ps k) where
  abbrev refusal : ℕ
  refusal = point_refusal s (place_bytes s ps k)

  abbrev whole : Trace Place Stop
  whole = whole_trace s (listed_at s ps k)

  -- the trace from the place
  trace_at : verdict_and_count (traced_from s part) ≡ unless refusal (whole.verdict, length whole.places)
  unfolding traced_from listed_at
  trace_at = ap (λ p. verdict_and_count (traced_from s p)) is ∙ counted_unless refusal whole

  -- Point refuses the place
  pub at_refused : (m : ℕ) → refused m ≡ verdict_and_count (traced_from s part) → m ≡ position_refusal s ps k
  unfolding position_refusal
  at_refused m e =
      let r = refused_inv refusal (whole.verdict, length whole.places) m (e ∙ trace_at) in
      sym (first_refuses refusal _ r.some ∙ r.is)

  pub at_taken : {v : Verdict Stop} {m : ℕ} → answered (v, m) ≡ verdict_and_count (traced_from s part) → TakenAs s ps k v
  at_taken {v} {m} e =
      let r = answered_inv refusal (whole.verdict, length whole.places) (v, m) (sym (e ∙ trace_at)) in
      record { none = r.none; verdict = ap (λ (p : Verdict Stop × ℕ). p.0) r.is }

module _ {s ps : List ℕ} {k : ℕ} {v : Verdict Stop} (t : TakenAs s ps k v) where
  -- its trace is no loop
  pub at_no_loop : is_loop v ≡ false → 18 ≡ position_refusal s ps k
  unfolding position_refusal on_loop
  at_no_loop e =
      let none : is_loop (whole_trace s (listed_at s ps k)).verdict ≡ false = ap is_loop t.verdict ∙ e in
      sym (first_passes _ t.none ∙ refuse_here 18 0 (rw none refl))

  -- it is a loop, and the earlier positions decide
  pub at_loop : is_loop v ≡ true → compared_refusal s ps k ≡ position_refusal s ps k
  unfolding compared_refusal position_refusal on_loop
  at_loop e =
      let is : is_loop (whole_trace s (listed_at s ps k)).verdict ≡ true = ap is_loop t.verdict ∙ e in
      sym
      (first_passes _ t.none
      ∙ ap (λ b. refuse_if (not b || some (same_loop s (listed_at s ps k)) (first_listed s ps k)) 18 0) is)

-- the code's test of a verdict
pub loop_told : (v : Code.Verdict) {r b : Bool} → r ≡ not (sameb the_type v Code.TheVariants.Loop) → r ≡ not b → is_loop (verdict_as v) ≡ b
unfolding is_loop verdict_as
loop_told Code.TheVariants.Loop {b = true} e h = refl
loop_told Code.TheVariants.Loop {b = false} e h = cc
loop_told Code.TheVariants.Edge {b = true} e h = cc
loop_told Code.TheVariants.Edge {b = false} e h = refl
loop_told Code.TheVariants.Limit {b = true} e h = cc
loop_told Code.TheVariants.Limit {b = false} e h = refl
loop_told Code.TheVariants.Full {b = true} e h = cc
loop_told Code.TheVariants.Full {b = false} e h = refl

-- one more is taken
pub takes_next : (s ps : List ℕ) (k : ℕ) → TakesUpTo s ps k → point_refusal s (place_bytes s ps k) ≡ 0 → TakesUpTo s ps (suc k)
takes_next s ps k before z i h = go (eqb i k) refl
  where
    go : (b : Bool) → eqb i k ≡ b → point_refusal s (place_bytes s ps i) ≡ 0
    go true e = ap (λ m. point_refusal s (place_bytes s ps m)) (eqb-true i k e) ∙ z
    go false e = before i (omega (arith, eqb-false i k e))
