-- The size of a determinant: entries of size at most B give a determinant of size at most n! · B to the n; with top entries of size
-- at most 1, n! · B to the n − 1. A matrix that is not square has determinant 0.
use Prim.Native.Nat.{ℕ, suc, zero, ◌*◌, ◌^◌}
use native.Mathlib.Omega.{arith}
use native.Mathlib.Nat as Nat
use native.Mathlib.Decide.{ℕ_discrete}
use mathlib.Core.Path.{◌≡◌, refl, ap, ap₂, ◌∙◌}
use mathlib.Core.Logic.{◌≢◌}
use mathlib.Core.List.{List, [], ◌∷◌}
use lib.IntN.{ℤ}
use lib.ListN.{length, get_or}
use Rattle.exact.specs.Int.{◌⊖◌, ◌⊗◌, 0ℤ}
use Rattle.exact.specs.Size.{Size}
use Rattle.exact.specs.Factorial.{factorial}
use Rattle.exact.specs.Det.{Column, laplace, if_none, det, rows_from, determinant}
use Rattle.exact.proofs.Identities.{ring}
use Rattle.exact.proofs.SizeLaws.{size_weaken, size_sub, size_mul}
use Rattle.exact.proofs.DetRows.{In, here, there}
use Rattle.exact.proofs.Rows.{row, rows_all}

size_zero : (m : ℕ) → Size m 0ℤ
size_zero m = record { size = omega arith }

regroup : (m f b k : ℕ) → m * f * b ^ suc k ≡ m * (b * (f * b ^ k))
regroup m f b k = simp (Nat.pow-succ', Nat.mul_assoc, Nat.mul_left_comm)

module _ {C : Type 0} where
  -- Q holds of each column
  abbrev pub Each : (C → Type 0) → List C → Type 0
  Each Q [] = Unit
  Each Q (c ∷ cs) = Q c × Each Q cs

  -- ---- as many rows as columns, or 0
  laplace_other_length :
      (h : C → ℤ) (D : List C → ℤ) (cs : List C) → ((xs : List C) → suc (length xs) ≡ length cs → D xs ≡ 0ℤ) → laplace h D cs ≡ 0ℤ
  unfolding laplace
  laplace_other_length h D [] k = refl
  laplace_other_length h D (c ∷ cs) k =
      ap₂ (λ u w. h c ⊗ u ⊖ w) (k cs refl) (laplace_other_length h (λ xs. D (c ∷ xs)) cs (λ xs e. k (c ∷ xs) (ap suc e))) ∙ simp ring

  pub det_other_length : (hs : List (C → ℤ)) (cs : List C) → length hs ≢ length cs → det hs cs ≡ 0ℤ
  unfolding det if_none
  det_other_length [] [] n = absurd (n refl)
  det_other_length [] (c ∷ cs) n = refl
  det_other_length (h ∷ hs) cs n =
      laplace_other_length h (det hs) cs (λ xs e. det_other_length hs xs (λ w. n (ap suc w ∙ e)))

  -- ---- bounds
  module _ (Q : C → Type 0) where
    laplace_size :
        (A M : ℕ) (h : C → ℤ) (D : List C → ℤ) → ((c : C) → Q c → Size A (h c)) → ((xs : List C) → Each Q xs → Size M (D xs))
        → (cs : List C) → Each Q cs → Size (length cs * (A * M)) (laplace h D cs)
    unfolding laplace
    laplace_size A M h D p q [] k = size_zero _
    laplace_size A M h D p q (c ∷ cs) k =
        size_weaken (size_sub (size_mul (p c k.0) (q cs k.1)) (laplace_size A M h (λ xs. D (c ∷ xs)) p (λ xs r. q (c ∷ xs) (k.0, r)) cs k.1))
        (omega (arith, Nat.suc-mul (length cs) (A * M)))

    -- one more row, of size A, above rows whose determinant has size M
    pub det_cons_size :
        (A M : ℕ) (h : C → ℤ) (hs : List (C → ℤ)) → ((c : C) → Q c → Size A (h c)) → ((xs : List C) → Each Q xs → Size M (det hs xs))
        → (cs : List C) → Each Q cs → Size (suc (length hs) * (A * M)) (det (h ∷ hs) cs)
    unfolding det
    det_cons_size A M h hs p q cs k = go (ℕ_discrete (suc (length hs)) (length cs))
      where
        go : Dec (suc (length hs) ≡ length cs) → Size (suc (length hs) * (A * M)) (laplace h (det hs) cs)
        go (yes e) = rw e (laplace_size A M h (det hs) p q cs k)
        go (no n) = rw (det_other_length (h ∷ hs) cs n) (size_zero _)

    pub det_size :
        (B : ℕ) (hs : List (C → ℤ)) → ((h : C → ℤ) → In h hs → (c : C) → Q c → Size B (h c)) → (cs : List C) → Each Q cs
        → Size (factorial (length hs) * B ^ length hs) (det hs cs)
    unfolding det if_none factorial
    det_size B [] p [] k = record { size = omega (arith, Nat.pow-zero B) }
    det_size B [] p (c ∷ cs) k = size_zero _
    det_size B (h ∷ hs) p cs k =
        rw (regroup (suc (length hs)) (factorial (length hs)) B (length hs))
        (det_cons_size B (factorial (length hs) * B ^ length hs) h hs (p h here) (det_size B hs (λ g m. p g (there m))) cs k)

pub length_rows_from : (k m : ℕ) → length (rows_from k m) ≡ m
unfolding rows_from
length_rows_from k zero = refl
length_rows_from k (suc m) = ap suc (length_rows_from (suc k) m)

-- every entry has size at most B
abbrev pub EntriesWithin : ℕ → Column → Type 0
EntriesWithin B c = (j : ℕ) → Size B (get_or c j 0ℤ)

rows_from_size :
    (B k n : ℕ) (Q : Column → Type 0) → ((c : Column) → Q c → EntriesWithin B c) → (cs : List Column) → Each Q cs
    → Size (factorial n * B ^ n) (det (rows_from k n) cs)
rows_from_size B k n Q w cs q =
    rw length_rows_from at
    (det_size Q B (rows_from k n) (rows_all (λ h. (c : Column) → Q c → Size B (h c)) k n (λ j low high c r. w c r j)) cs q)

pub determinant_size :
    (n B : ℕ) (cs : List Column) → Each (EntriesWithin B) cs → Size (factorial n * B ^ n) (determinant n cs)
unfolding determinant
determinant_size n B cs q = rows_from_size B 0 n (EntriesWithin B) (λ c r. r) cs q

-- top entries of size at most 1
pub determinant_size_top :
    (n B : ℕ) (cs : List Column) → Each (λ c. Size 1 (get_or c 0 0ℤ) × EntriesWithin B c) cs
    → Size (factorial (suc n) * B ^ n) (determinant (suc n) cs)
unfolding determinant rows_from factorial
determinant_size_top n B cs q =
    simp (length_rows_from, Nat.one-mul, ← Nat.mul_assoc) at
    (det_cons_size Q 1 (factorial n * B ^ n) (row 0) (rows_from 1 n) (λ c r. r.0) (rows_from_size B 1 n Q (λ c r. r.1)) cs q)
  where
    Q : Column → Type 0
    Q c = Size 1 (get_or c 0 0ℤ) × EntriesWithin B c
