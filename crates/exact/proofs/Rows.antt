-- The rows of a matrix of numbers: row j is one of `rows_from k m` if k ≤ j < k + m, and there is no other. Expansion along such a row.
use Prim.Native.Nat.{ℕ, suc, zero, ◌+◌, ◌≤◌, ◌<◌}
use native.Mathlib.Omega.{arith}
use native.Mathlib.Decide.{ℕ_discrete}
use mathlib.Core.Path.{◌≡◌, refl, sym, ap, ◌∙◌}
use mathlib.Core.List.{List, [], ◌∷◌}
use lib.IntN.{ℤ}
use lib.ListN.{length, get_or}
use Rattle.exact.specs.Int.{◌⊕◌, ◌⊗◌, neg, 0ℤ}
use Rattle.exact.specs.Det.{Column, laplace, rows_from}
use Rattle.exact.specs.Crossed.{remove}
use Rattle.exact.specs.Minors.{alternate, sum_to}
use Rattle.exact.proofs.Ring.{sub_eq, mul_neg}
use Rattle.exact.proofs.DetRows.{In, here, there}
use Rattle.exact.proofs.Sums.{sum_to_ext, sum_to_neg}

-- entry j of a column
abbrev pub row : ℕ → Column → ℤ
row j c = get_or c j 0ℤ

pub row_in : (k m j : ℕ) → k ≤ j → j < k + m → In (row j) (rows_from k m)
unfolding rows_from
row_in k zero j low high = absurd (omega arith)
row_in k (suc m) j low high = go (ℕ_discrete j k) (λ lo hi. row_in (suc k) m j lo hi)
  where
    go : Dec (j ≡ k) → (suc k ≤ j → j < suc k + m → In (row j) (rows_from (suc k) m)) → In (row j) (row k ∷ rows_from (suc k) m)
    go (yes e) r = rw e here
    go (no n) r = there (r (omega arith) (omega arith))

pub rows_all :
    (P : (Column → ℤ) → Type 0) (k m : ℕ) → ((j : ℕ) → k ≤ j → j < k + m → P (row j)) → (h : Column → ℤ) → In h (rows_from k m) → P h
unfolding rows_from
rows_all P k zero a h i = elim i [ ]
rows_all P k (suc m) a h here = a k (omega arith) (omega arith)
rows_all P k (suc m) a h (there i) = rows_all P (suc k) m (λ j low high. a j (omega arith) (omega arith)) h i

-- the expansion of `laplace` as a sum with alternating signs
pub laplace_sum :
    {C : Type 0} (h : C → ℤ) (D : List C → ℤ) (d : C) (cs : List C)
    → laplace h D cs ≡ sum_to (length cs) (λ p. h (get_or cs p d) ⊗ alternate p (D (remove p cs)))
unfolding laplace sum_to alternate remove
laplace_sum h D d [] = refl
laplace_sum h D d (c ∷ cs) =
    sub_eq (h c ⊗ D cs) _
    ∙ ap (λ z. h c ⊗ D cs ⊕ z)
    (ap neg (laplace_sum h (λ xs. D (c ∷ xs)) d cs)
    ∙ sym (sum_to_neg (length cs) _)
    ∙ sum_to_ext (length cs) _ _ (λ p lt. sym (mul_neg (h (get_or cs p d)) (alternate p (D (c ∷ remove p cs))))))
