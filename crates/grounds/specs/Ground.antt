-- The ground of a judgement, over columns: document 02, request 2.9. Vertices are numbered from 0 in chain order, and powers from 0.
use Rattle.std.specs.Prelude.{ℕ, suc, ◌<◌, ◌≡◌, ◌≢◌, Bool, true, false, cond, List, [], ◌∷◌, map, ℤ, length, get_or}
use Rattle.exact.specs.Int.{0ℤ}
use Rattle.exact.specs.Sign.{Sign, nought, sign, lex_sign, same_sign}
use Rattle.exact.specs.Det.{Column, determinant}
use Rattle.exact.specs.Crossed.{count_from, coefficient, coefficients}

-- why a facet is crossed or not
pub data Ground : Type 0 where
  -- not crossed: D is 0
  zero_determinant : Ground
  -- not crossed: the first vertex, in chain order, whose sign is against D, and the power whose coefficient decided it
  vertex_against : ℕ → ℕ → Ground
  -- crossed: for each vertex, in chain order, the power that decided
  all_with : List ℕ → Ground

-- ---- the ground as it is found

-- how many numbers stand before the first that is not 0
unfoldable pub leading_zeros : List ℤ → ℕ
leading_zeros [] = 0
leading_zeros (x ∷ xs) = cond (same_sign (sign x) nought) (suc (leading_zeros xs)) 0

-- the power that decides vertex i: the lowest whose coefficient is not 0; n if there is none
unfoldable pub deciding_power : ℕ → List Column → ℕ → ℕ
deciding_power n cs i = leading_zeros (coefficients n cs i)

-- the ground where D has the sign s, from the vertices that are left to look at
unfoldable pub ground_from : ℕ → List Column → Sign → List ℕ → Ground
ground_from n cs s [] = all_with (map (deciding_power n cs) (count_from 0 n))
ground_from n cs s (i ∷ is) =
    cond (same_sign (lex_sign (coefficients n cs i)) s) (ground_from n cs s is) (vertex_against i (deciding_power n cs i))

unfoldable pub ground : ℕ → List Column → Ground
ground n cs =
    cond (same_sign (sign (determinant n cs)) nought) zero_determinant
    (ground_from n cs (sign (determinant n cs)) (count_from 0 n))

-- ---- the ground as it is read

-- the yes or no that a ground stands for
unfoldable pub crossed_by : Ground → Bool
crossed_by zero_determinant = false
crossed_by (vertex_against i j) = false
crossed_by (all_with js) = true

-- power j decides a vertex with the coefficients a: its own is not 0, and all lower ones are
pub record Decides (n : ℕ) (a : ℕ → ℤ) (j : ℕ) : Type 0 where
  pub power : j < n
  pub lower : (k : ℕ) → k < j → a k ≡ 0ℤ
  pub itself : a j ≢ 0ℤ

-- it decides with the sign of D
pub record With (n : ℕ) (D : ℤ) (a : ℕ → ℤ) (j : ℕ) : Type 0 where
  pub decides : Decides n a j
  pub agrees : sign (a j) ≡ sign D

-- D is not 0 and power j decides vertex i, with the other sign; a i k is the coefficient of vertex i and power k
pub record Against (n : ℕ) (D : ℤ) (a : ℕ → ℕ → ℤ) (i j : ℕ) : Type 0 where
  pub determined : D ≢ 0ℤ
  pub vertex : i < n
  pub decides : Decides n (a i) j
  pub differs : sign (a i j) ≢ sign D

-- D is not 0 and there is a power for each vertex, which decides it with the sign of D
pub record EachWith (n : ℕ) (D : ℤ) (a : ℕ → ℕ → ℤ) (js : List ℕ) : Type 0 where
  pub determined : D ≢ 0ℤ
  pub count : length js ≡ n
  pub each : (i : ℕ) → i < n → With n D (a i) (get_or js i 0)

-- the ground holds: whoever reads it is handed D and the coefficients, and nothing else of the facet
unfoldable pub HoldsOf : ℕ → ℤ → (ℕ → ℕ → ℤ) → Ground → Type 0
HoldsOf n D a zero_determinant = D ≡ 0ℤ
HoldsOf n D a (vertex_against i j) = Against n D a i j
HoldsOf n D a (all_with js) = EachWith n D a js

-- no vertex before the one named is against D
unfoldable pub NamesFirstOf : ℕ → ℤ → (ℕ → ℕ → ℤ) → Ground → Type 0
NamesFirstOf n D a zero_determinant = Unit
NamesFirstOf n D a (vertex_against i j) = (k : ℕ) → k < i → (l : ℕ) × With n D (a k) l
NamesFirstOf n D a (all_with js) = Unit

-- the same of columns
unfoldable pub Holds : ℕ → List Column → Ground → Type 0
Holds n cs g = HoldsOf n (determinant n cs) (coefficient n cs) g

unfoldable pub NamesFirst : ℕ → List Column → Ground → Type 0
NamesFirst n cs g = NamesFirstOf n (determinant n cs) (coefficient n cs) g

-- the ground names power j for vertex i
unfoldable pub Names : Ground → ℕ → ℕ → Type 0
Names zero_determinant i j = ⊥
Names (vertex_against v p) i j = (i ≡ v) × (j ≡ p)
Names (all_with js) i j = (i < length js) × (j ≡ get_or js i 0)
