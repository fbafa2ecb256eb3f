-- The size of a coefficient: with entries of size at most B, it is at most (n − 1)! · B to the n − 1, as a cofactor of n − 1 rows.
use Prim.Native.Nat.{ℕ, suc, zero, ◌*◌, ◌^◌, ◌<◌}
use native.Mathlib.Omega.{arith}
use mathlib.Core.Path.{◌≡◌, sym, subst}
use mathlib.Core.List.{List, [], ◌∷◌}
use lib.IntN.{ℤ}
use lib.ListN.{length}
use Rattle.exact.specs.Size.{Size}
use Rattle.exact.specs.Factorial.{factorial}
use Rattle.exact.specs.Det.{Column, det, rows_from}
use Rattle.exact.specs.Crossed.{coefficient, remove}
use Rattle.exact.specs.Minors.{alternate}
use Rattle.exact.proofs.SizeLaws.{size_neg}
use Rattle.exact.proofs.Position.{length_remove}
use Rattle.exact.proofs.DetRows.{In, here, there}
use Rattle.exact.proofs.Rows.{rows_all}
use Rattle.exact.proofs.DetSize.{Each, EntriesWithin, det_size, length_rows_from}
use Rattle.exact.proofs.Cofactor.{coefficient_minor}

in_remove : {C : Type 0} {h : C → ℤ} (p : ℕ) (hs : List (C → ℤ)) → In h (remove p hs) → In h hs
unfolding remove
in_remove p [] m = m
in_remove zero (g ∷ hs) m = there m
in_remove (suc p) (g ∷ hs) here = here
in_remove (suc p) (g ∷ hs) (there m) = there (in_remove p hs m)

pub each_remove : {C : Type 0} (Q : C → Type 0) (p : ℕ) (cs : List C) → Each Q cs → Each Q (remove p cs)
unfolding remove
each_remove Q p [] k = tt
each_remove Q zero (c ∷ cs) k = k.1
each_remove Q (suc p) (c ∷ cs) k = (k.0, each_remove Q p cs k.1)

size_alternate : {m : ℕ} {x : ℤ} (p : ℕ) → Size m x → Size m (alternate p x)
unfolding alternate
size_alternate zero s = s
size_alternate (suc p) s = size_neg (size_alternate p s)

module _ (n B : ℕ) (cs : List Column) (q : Each (EntriesWithin B) cs) (i j : ℕ) (hj : j < suc n) where
  -- the minor without column i and row j
  pub minor_size : Size (factorial n * B ^ n) (det (remove j (rows_from 0 (suc n))) (remove i cs))
  minor_size =
      subst (λ (m : ℕ). Size (factorial m * B ^ m) (det (remove j (rows_from 0 (suc n))) (remove i cs))) left
      (det_size (EntriesWithin B) B (remove j (rows_from 0 (suc n)))
      (λ h m. rows_all (λ g. (c : Column) → EntriesWithin B c → Size B (g c)) 0 (suc n) (λ k low high c r. r k) h (in_remove j (rows_from 0 (suc n)) m))
      (remove i cs) (each_remove (EntriesWithin B) i cs q))
    where
      left : length (remove j (rows_from 0 (suc n))) ≡ n
      left =
          let all = length_rows_from 0 (suc n) in
          let less = length_remove j (rows_from 0 (suc n)) (omega arith) in
          omega arith

  pub coefficient_size : i < length cs → Size (factorial n * B ^ n) (coefficient (suc n) cs i j)
  coefficient_size hi =
      subst (Size (factorial n * B ^ n)) (sym (coefficient_minor (suc n) cs i j hi hj)) (size_alternate i (size_alternate j minor_size))
