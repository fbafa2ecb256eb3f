-- Determinants. A matrix is a list of rows, each a function that gives its entry in a column, and a list of columns.
-- `laplace` expands along the first row: h of each column, with alternating sign, times what `rest` says of the columns that are left.
-- A matrix whose numbers of rows and columns differ has determinant 0. The closed forms for two and three columns are in proofs/.
use Rattle.std.specs.Prelude.{ℕ, suc, zero, List, [], ◌∷◌, ℤ, get_or}
use Rattle.exact.specs.Int.{◌⊖◌, ◌⊗◌, 0ℤ, 1ℤ}

-- a column of a matrix of numbers, top entry first; entries below its end are 0
abbrev pub Column : Type 0
Column = List ℤ

-- h c₀ · rest (c₁ ..) − h c₁ · rest (c₀, c₂ ..) + ..
unfoldable pub laplace : {C : Type 0} → (C → ℤ) → (List C → ℤ) → List C → ℤ
laplace h rest [] = 0ℤ
laplace h rest (c ∷ cs) = h c ⊗ rest cs ⊖ laplace h (λ xs. rest (c ∷ xs)) cs

-- 1 for no column, else 0
unfoldable pub if_none : {C : Type 0} → List C → ℤ
if_none [] = 1ℤ
if_none (c ∷ cs) = 0ℤ

-- the determinant with the given rows and columns
unfoldable pub det : {C : Type 0} → List (C → ℤ) → List C → ℤ
det [] cs = if_none cs
det (h ∷ hs) cs = laplace h (det hs) cs

-- rows k, k + 1, .., k + m − 1 of a matrix of numbers
unfoldable pub rows_from : ℕ → ℕ → List (Column → ℤ)
rows_from k zero = []
rows_from k (suc m) = (λ c. get_or c k 0ℤ) ∷ rows_from (suc k) m

-- the determinant of n columns of n numbers each
unfoldable pub determinant : ℕ → List Column → ℤ
determinant n cs = det (rows_from 0 n) cs
