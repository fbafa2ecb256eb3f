-- Polynomials past the first n − 1 are not read: loose bodies that differ in them alone give the same job, the same answer and the same buffer.
use Prim.Native.Nat.{ℕ, ◌-◌, ◌≤◌, ◌<◌}
use native.Mathlib.Omega.{arith}
use mathlib.Core.Path.{◌≡◌, refl, sym, ap₂, ◌∙◌}
use mathlib.Core.Bool.{Bool, true, false}
use mathlib.Core.List.{List, []}
use lib.ListN.{get_or}
use lib.Dec.{eqb}
use borrow.Author.Tests.{eqb-false}
use Rattle.assembly.specs.Assembled.{Loose, body_of, job_from, assembled}
use Rattle.assembly.specs.Written.{write_refusal, written, buffer_written}
use Rattle.assembly.proofs.Lengths.{job_same}

module _ (d e : Loose) (n-same : d.n ≡ e.n) (bias-same : d.bias ≡ e.bias) (box-same : d.box ≡ e.box) (start-same : d.start ≡ e.start)
    (first-same : (k : ℕ) → k < d.n - 1 → get_or d.polynomials k [] ≡ get_or e.polynomials k []) where
  -- bodies 0 to n are the same
  bodies_read : (k : ℕ) → k ≤ d.n → body_of d k ≡ body_of e k
  unfolding body_of
  bodies_read k l = go (eqb k 0) refl (eqb k d.n) refl
    where
      go : (a : Bool) → eqb k 0 ≡ a → (b : Bool) → eqb k d.n ≡ b → body_of d k ≡ body_of e k
      go true p b q = rw p box-same
      go false p true q = rw (sym n-same, p, q) start-same
      go false p false q = rw (sym n-same, p, q) (first-same (k - 1) (omega (arith, eqb-false k 0 p, eqb-false k d.n q)))

  same_job : assembled d ≡ assembled e
  unfolding assembled
  same_job = job_same d.n d.bias (body_of d) (body_of e) bodies_read ∙ ap₂ (λ n b. job_from n b (body_of e)) n-same bias-same

  pub unread : (buffer : List ℕ) → (written d buffer ≡ written e buffer) × (buffer_written d buffer ≡ buffer_written e buffer)
  unfolding write_refusal written buffer_written
  unread buffer = (rw same_job, rw same_job)
