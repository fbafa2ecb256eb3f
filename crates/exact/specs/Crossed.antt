-- "Crossed", over columns: document 01, section Crossed. Column i of a facet is 1, f1(wi), .., f(n−1)(wi).
-- Put (1, e, .., e to the n−1) in place of column i: the determinant is a sum of coefficients times powers of e.
-- `coefficient n cs i j` is the coefficient of power j: the determinant with the j-th unit column in place of column i
-- (that this is the paper's coefficient is `proofs.Coefficient`).
use Rattle.std.specs.Prelude.{ℕ, suc, zero, ◌+◌, ◌<◌, ◌≡◌, ◌≢◌, Bool, true, false, not, ◌&&◌, List, [], ◌∷◌, ◌++◌, map, ℤ, set, replicate, eqb}
use Rattle.exact.specs.Int.{0ℤ, 1ℤ}
use Rattle.exact.specs.Sign.{Sign, nought, sign, lex_sign, same_sign}
use Rattle.exact.specs.Det.{Column, determinant}

-- 0, 1, .., m − 1, begun at k
unfoldable pub count_from : ℕ → ℕ → List ℕ
count_from k zero = []
count_from k (suc m) = k ∷ count_from (suc k) m

-- the column with 1 at power j and 0 elsewhere
unfoldable pub unit_column : ℕ → Column
unit_column j = replicate j 0ℤ ++ (1ℤ ∷ [])

unfoldable pub coefficient : ℕ → List Column → ℕ → ℕ → ℤ
coefficient n cs i j = determinant n (set cs i (unit_column j))

-- the coefficients of vertex i, in rising powers
unfoldable pub coefficients : ℕ → List Column → ℕ → List ℤ
coefficients n cs i = map (λ j. coefficient n cs i j) (count_from 0 n)

-- the first non-zero coefficient of each of the vertices has the sign s
unfoldable pub all_have_sign : ℕ → List Column → Sign → List ℕ → Bool
all_have_sign n cs s [] = true
all_have_sign n cs s (i ∷ is) = same_sign (lex_sign (coefficients n cs i)) s && all_have_sign n cs s is

-- D is not 0 and, for every i, the first non-zero coefficient in rising powers has the sign of D
unfoldable pub crossed : ℕ → List Column → Bool
crossed n cs =
    not (same_sign (sign (determinant n cs)) nought) && all_have_sign n cs (sign (determinant n cs)) (count_from 0 n)

-- the same in the paper's words, as a statement (`proofs.CrossedTest` has that the two agree): D is not 0 and, for every i,
-- the first coefficient that is not 0, that of some power j, has the sign of D
pub record Crossed (n : ℕ) (cs : List Column) : Type 0 where
  pub determined : determinant n cs ≢ 0ℤ
  pub agree :
      (i : ℕ) → i < n
      → (j : ℕ) × (j < n) × ((k : ℕ) → k < j → coefficient n cs i k ≡ 0ℤ) × (sign (coefficient n cs i j) ≡ sign (determinant n cs))

-- ---- simplices

-- the list without the element at an index; the whole list if it ends before
unfoldable pub remove : {A : Type 0} → ℕ → List A → List A
remove p [] = []
remove zero (x ∷ xs) = xs
remove (suc p) (x ∷ xs) = x ∷ remove p xs

-- the first vertex of a list, other than p, whose opposite facet is crossed; `none` if there is no such vertex
unfoldable pub other_crossed : ℕ → List Column → ℕ → ℕ → List ℕ → ℕ
other_crossed n us p none [] = none
other_crossed n us p none (q ∷ qs) =
    elim (not (eqb q p) && crossed n (remove q us)) [ true ↦ q | false ↦ other_crossed n us p none qs ]

-- the vertex opposite the other crossed facet of a simplex with columns us, of which the facet opposite p is crossed
unfoldable pub exit : ℕ → List Column → ℕ → ℕ
exit n us p = other_crossed n us p (suc n) (count_from 0 (suc n))
