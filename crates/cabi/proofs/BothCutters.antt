-- What a caller of the C interface reads off the structs of both cutters: a function of the small one answers refusal 17, or what that of the full one
-- answers; and 17 exactly if Open takes the job and it is too large.
use Prim.Native.Nat.{ℕ, suc, zero}
use mathlib.Core.Path.{◌≡◌, refl, sym, ap, ◌∙◌}
use mathlib.Core.Logic.{◌≢◌, ◌↔◌}
use mathlib.Core.List.{List}
use Rattle.curves.specs.Grid.{Place}
use Rattle.curves.specs.Walk.{Trace}
use Rattle.curves.specs.Step.{Stop}
use Rattle.paper.specs.Job.{open_refusal}
use Rattle.paper.specs.Operations.{unless, open_values, opened, traced, space_of, verdict_and_count, buffer_after}
use Rattle.small.specs.Small.{small_refusal, small_opened, small_trace_refusal, small_traced, TooLarge}
use Rattle.small.proofs.SameAsFull.{open_or_17, trace_or_17}
use Rattle.small.proofs.OwnRefusal.{refusal_17, trace_refusal_17}
use Rattle.jobnumbers.specs.Numbers.{open_numbers}
use Rattle.walknumbers.specs.Numbers.{trace_numbers}

-- ---- the field `refusal` is the number that refuses

open_number : (k : ℕ) (v : List ℕ) → (open_numbers (unless k v)).refusal ≡ k
unfolding unless open_numbers
open_number zero v = refl
open_number (suc k) v = refl

trace_number : (k : ℕ) (t : Trace Place Stop) → (trace_numbers (verdict_and_count (unless k t))).refusal ≡ k
unfolding unless verdict_and_count trace_numbers
trace_number zero t = refl
trace_number (suc k) t = refl

module _ (s : List ℕ) where
  full_number : (open_numbers (opened s)).refusal ≡ open_refusal s
  unfolding opened
  full_number = open_number (open_refusal s) (open_values s)

  small_number : (open_numbers (small_opened s)).refusal ≡ small_refusal s
  unfolding small_opened
  small_number = open_number (small_refusal s) (open_values s)

  small_trace_number : (space : ℕ) → (trace_numbers (verdict_and_count (small_traced s space))).refusal ≡ small_trace_refusal s
  unfolding small_traced
  small_trace_number space = trace_number (small_trace_refusal s) _

  -- ---- Open

  pub open_numbers_17 : ((open_numbers (small_opened s)).refusal ≡ 17) ↔ (((open_numbers (opened s)).refusal ≡ 0) × TooLarge s)
  open_numbers_17 = (
    λ h. let f = (refusal_17 s).0 (sym small_number ∙ h) in (full_number ∙ f.0, f.1),
    λ h. small_number ∙ (refusal_17 s).1 (sym full_number ∙ h.0, h.1),
  )

  pub open_numbers_alike : (open_numbers (small_opened s)).refusal ≢ 17 → open_numbers (small_opened s) ≡ open_numbers (opened s)
  unfolding open_numbers
  open_numbers_alike h = ap open_numbers (open_or_17 s (λ e. h (ap (λ a. (open_numbers a).refusal) e)))

  -- ---- Trace

  pub trace_numbers_17 : (space : ℕ)
      → ((trace_numbers (verdict_and_count (small_traced s space))).refusal ≡ 17) ↔ (((open_numbers (opened s)).refusal ≡ 0) × TooLarge s)
  trace_numbers_17 space = (
    λ h. let f = (trace_refusal_17 s).0 (sym (small_trace_number space) ∙ h) in (full_number ∙ f.0, f.1),
    λ h. small_trace_number space ∙ (trace_refusal_17 s).1 (sym full_number ∙ h.0, h.1),
  )

  -- the struct and the buffer
  pub record TraceAlike (b : List ℕ) : Type 0 where
    pub numbers : trace_numbers (verdict_and_count (small_traced s (space_of s b))) ≡ trace_numbers (verdict_and_count (traced s (space_of s b)))
    pub buffer : buffer_after (small_traced s (space_of s b)) b ≡ buffer_after (traced s (space_of s b)) b

  pub trace_numbers_alike : (b : List ℕ) → (trace_numbers (verdict_and_count (small_traced s (space_of s b)))).refusal ≢ 17 → TraceAlike b
  unfolding verdict_and_count trace_numbers
  trace_numbers_alike b h =
      let e = trace_or_17 s (space_of s b) (λ e. h (ap (λ a. (trace_numbers (verdict_and_count a)).refusal) e)) in
      record { numbers = ap (λ a. trace_numbers (verdict_and_count a)) e; buffer = ap (λ a. buffer_after a b) e }
