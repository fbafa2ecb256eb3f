-- A body too long for its entry is 5 whatever the entries say: no bytes in their place make a job of such bodies whose contents are right.
use Prim.Native.Nat.{ℕ, zero, suc, ◌+◌, ◌*◌, ◌≤◌, ◌<◌}
use native.Mathlib.Omega.{arith}
use mathlib.Core.Path.{◌≡◌, refl, subst}
use mathlib.Core.Bool.{Bool, true, false}
use mathlib.Core.List.{List, [], ◌∷◌, ◌++◌}
use lib.ListN.{length, length-append}
use lib.Dec.{eqb}
use borrow.Author.Tests.{eqb-true, eqb-false, le-ltb, eq-eqb}
use Rattle.paper.specs.Limits.{dimension_ok}
use Rattle.paper.specs.Bytes.{byte}
use Rattle.paper.specs.Job.{dimension, contents_end, entries_ok, contents_ok, refuse_if, open_refusal}
use Rattle.paper.proofs.Tests.{dimension_range}
use Rattle.paper.proofs.Bodies.{entries_first, entries_none, contents_entries}
use Rattle.assembly.specs.Assembled.{bodies_of}
use Rattle.assembly.proofs.Entries.{kind_small}

-- entries that are right end within 560 bytes a body
entries_short : (n : ℕ) (s : List ℕ) (m k at : ℕ) → n ≤ 4 → k + m ≡ n + 1 → entries_ok n s m k at ≡ true → length s ≤ at + 560 * m
entries_short n s zero k at u e h = omega (arith, entries_none n s k at h)
entries_short n s (suc m) k at u e h =
    let f = entries_first n s m k at h in
    omega (
      arith,
      kind_small n k _ u (omega arith) f.kind,
      entries_short n s m (k + 1) _ u (omega arith) f.later,
    )

-- so a list of 65,536 bytes or more has no contents that are right
contents_wrong : (n : ℕ) (s : List ℕ) → n ≤ 4 → 65536 ≤ length s → contents_ok n s ≡ false
unfolding contents_end
contents_wrong n s u l = go (contents_ok n s) refl
  where
    go : (t : Bool) → contents_ok n s ≡ t → contents_ok n s ≡ false
    go true e =
        let short : length s ≤ 4 * n + 8 + 560 * (n + 1) = entries_short n s (n + 1) 0 (contents_end n) u (omega arith) (contents_entries n s e) in
        absurd (omega (arith, short))
    go false e = e

-- a body is no longer than all of them
body_most : (f : ℕ → List ℕ) (j m k : ℕ) → j ≤ k → k < j + m → length (f k) ≤ length (bodies_of f j m)
unfolding bodies_of
body_most f j zero k l u = absurd (omega arith)
body_most f j (suc m) k l u = go (body_most f (j + 1) m k) (eqb j k) refl
  where
    go : (j + 1 ≤ k → k < j + 1 + m → length (f k) ≤ length (bodies_of f (j + 1) m)) → (t : Bool) → eqb j k ≡ t
        → length (f k) ≤ length (f j ++ bodies_of f (j + 1) m)
    go later true e =
        subst (λ i. length (f i) ≤ length (f j ++ bodies_of f (j + 1) m)) (eqb-true j k e)
        (omega (arith, length-append (f j) (bodies_of f (j + 1) m)))
    go later false e =
        omega (arith, length-append (f j) (bodies_of f (j + 1) m), later (omega (arith, eqb-false j k e)) (omega arith))

module _ (n bias : ℕ) (entries : List ℕ) (f : ℕ → List ℕ) where
  -- the first four bytes, anything for the entries, and the bodies
  abbrev pub any_entries : List ℕ
  any_entries = 1 ∷ n ∷ (n + 1) ∷ bias ∷ (entries ++ bodies_of f 0 (n + 1))

  pub any_entries_five : dimension_ok n ≡ true → (k : ℕ) → k ≤ n → 65536 ≤ length (f k) → open_refusal any_entries ≡ 5
  unfolding open_refusal refuse_if byte dimension
  any_entries_five d k l h =
      let long : 65536 ≤ length any_entries
      = omega (arith, length-append entries (bodies_of f 0 (n + 1)), body_most f 0 (n + 1) k (omega arith) (omega arith)) in
      rw (
        le-ltb (length any_entries) 4 (omega (arith, long)),
        d,
        eq-eqb (n + 1) (n + 1) refl,
        contents_wrong n any_entries (dimension_range n d).high long,
      )
