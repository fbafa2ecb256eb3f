-- The signed minors of a simplex: n + 1 columns, of which one is left out, and perhaps another replaced.
-- They are what the proofs about crossed facets speak of; the crossed test itself (specs/Crossed) uses none of them.
use Rattle.std.specs.Prelude.{ℕ, suc, zero, List, [], ◌∷◌, ℤ, set}
use Rattle.exact.specs.Int.{◌⊕◌, ◌⊗◌, neg, 0ℤ, 1ℤ}
use Rattle.exact.specs.Det.{Column, determinant}
use Rattle.exact.specs.Crossed.{remove}

-- (−1) to the p, times x
unfoldable pub alternate : ℕ → ℤ → ℤ
alternate zero x = x
alternate (suc p) x = neg (alternate p x)

-- f 0 + f 1 + .. + f (m − 1)
unfoldable pub sum_to : ℕ → (ℕ → ℤ) → ℤ
sum_to zero f = 0ℤ
sum_to (suc m) f = f zero ⊕ sum_to m (λ i. f (suc i))

-- the place of element q in the list without element p: q if q < p, q − 1 if p < q
unfoldable pub position : ℕ → ℕ → ℕ
position zero zero = zero
position zero (suc q) = q
position (suc p) zero = zero
position (suc p) (suc q) = suc (position p q)

-- the place in the whole list of element i of the list without element p: i if i < p, i + 1 if not
unfoldable pub skip : ℕ → ℕ → ℕ
skip zero i = suc i
skip (suc p) zero = zero
skip (suc p) (suc i) = suc (skip p i)

-- d p: the determinant of the columns other than p, with alternating sign
unfoldable pub minor : ℕ → List Column → ℕ → ℤ
minor n us p = alternate p (determinant n (remove p us))

-- c t p q: the same with column q replaced by t
unfoldable pub replaced_minor : ℕ → List Column → Column → ℕ → ℕ → ℤ
replaced_minor n us t p q = alternate p (determinant n (set (remove p us) (position p q) t))

-- x, T · x, T · T · x, ..: m entries
unfoldable pub powers_from : ℤ → ℤ → ℕ → Column
powers_from T x zero = []
powers_from T x (suc m) = x ∷ powers_from T (T ⊗ x) m

-- the column 1, T, .., T to the n − 1
unfoldable pub powers : ℤ → ℕ → Column
powers T n = powers_from T 1ℤ n
