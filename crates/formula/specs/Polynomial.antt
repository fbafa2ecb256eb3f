-- Polynomials as coefficients, one for each monomial of degree at most 4 in the four letters: request 2.1, and the limits of a term of document 01.
use Rattle.std.specs.Prelude.{ℕ, suc, zero, ◌+◌, ◌-◌, ◌≡◌, Bool, true, false, cond, ◌&&◌, ◌||◌, ℤ, pos, nat_abs, length, get_or, eqb, leb}
use mathlib.Core.List.{List, [], ◌∷◌, map, flat_map}
use Rattle.std.proofs.Math.Option.{Option, none, some}
use Rattle.exact.specs.Int.{◌⊕◌, ◌⊖◌, ◌⊗◌, 0ℤ, 1ℤ}
use Rattle.exact.specs.Crossed.{count_from}
use Rattle.curves.specs.Grid.{Vertex}
use Rattle.curves.specs.Step.{every}
use Rattle.paper.specs.Limits.{coefficient_limit, degree_limit}
use Rattle.paper.specs.Job.{all_from}
use Rattle.paper.specs.RunningSum.{exponent_sum, powers_product}

-- ---- monomials

-- the exponents of m letters with a sum of at most d, in rising order, the first weighing most
unfoldable pub exponents_up_to : ℕ → ℕ → List (List ℕ)
exponents_up_to zero d = [] ∷ []
exponents_up_to (suc m) d = flat_map (λ (e : ℕ). map (λ es. e ∷ es) (exponents_up_to m (d - e))) (count_from 0 (d + 1))

-- of the four letters, in the order of a job's terms
unfoldable pub monomials : List (List ℕ)
monomials = exponents_up_to 4 degree_limit

-- how many these are (`monomials_counted`)
unfoldable pub monomial_count : ℕ
monomial_count = 70

-- the exponents of monomial k
unfoldable pub exponents_at : ℕ → List ℕ
exponents_at k = get_or monomials k []

unfoldable pub degree_at : ℕ → ℕ
degree_at k = exponent_sum (exponents_at k)

-- exponents of a product of monomials
unfoldable pub sum_exponents : List ℕ → List ℕ → List ℕ
sum_exponents [] es = es
sum_exponents (d ∷ ds) [] = d ∷ ds
sum_exponents (d ∷ ds) (e ∷ es) = (d + e) ∷ sum_exponents ds es

unfoldable pub same_exponents : List ℕ → List ℕ → Bool
same_exponents [] [] = true
same_exponents [] (e ∷ es) = false
same_exponents (d ∷ ds) [] = false
same_exponents (d ∷ ds) (e ∷ es) = eqb d e && same_exponents ds es

-- where exponents stand in a list of exponents; its length if they do not
unfoldable pub position_in : List (List ℕ) → List ℕ → ℕ
position_in [] e = 0
position_in (d ∷ ds) e = cond (same_exponents d e) 0 (suc (position_in ds e))

-- the monomial with given exponents; 70 if there is none
unfoldable pub slot : List ℕ → ℕ
slot e = position_in monomials e

-- the product of monomials i and k
unfoldable pub product_slot : ℕ → ℕ → ℕ
product_slot i k = slot (sum_exponents (exponents_at i) (exponents_at k))

-- ---- polynomials: coefficient k is that of monomial k

abbrev pub Polynomial : Type 0
Polynomial = List ℤ

unfoldable pub cell : Polynomial → ℕ → ℤ
cell p k = get_or p k 0ℤ

unfoldable pub is_zero : ℤ → Bool
is_zero x = eqb (nat_abs x) 0

unfoldable pub zeros : ℕ → Polynomial
zeros zero = []
zeros (suc m) = 0ℤ ∷ zeros m

unfoldable pub zero_polynomial : Polynomial
zero_polynomial = zeros monomial_count

-- p with x more at coefficient k
unfoldable pub add_at : Polynomial → ℕ → ℤ → Polynomial
add_at [] k x = []
add_at (y ∷ p) zero x = (y ⊕ x) ∷ p
add_at (y ∷ p) (suc k) x = y ∷ add_at p k x

-- the one term x · monomial k
unfoldable pub single : ℕ → ℤ → Polynomial
single k x = add_at zero_polynomial k x

unfoldable pub cellwise : (ℤ → ℤ → ℤ) → Polynomial → Polynomial → Polynomial
cellwise f [] q = []
cellwise f (x ∷ p) [] = []
cellwise f (x ∷ p) (y ∷ q) = f x y ∷ cellwise f p q

-- a coefficient 0 is no term
unfoldable pub unless_nought : ℤ → Polynomial → Polynomial → Polynomial
unless_nought x next r = cond (is_zero x) r next

-- r with c · monomial i · (the m terms of q from term k on) added
unfoldable pub add_row : ℤ → ℕ → Polynomial → ℕ → ℕ → Polynomial → Polynomial
add_row c i q k zero r = r
add_row c i q k (suc m) r = add_row c i q (k + 1) m (unless_nought (cell q k) (add_at r (product_slot i k) (c ⊗ cell q k)) r)

-- r with (the m terms of p from term i on) · q added
unfoldable pub add_rows : Polynomial → Polynomial → ℕ → ℕ → Polynomial → Polynomial
add_rows p q i zero r = r
add_rows p q i (suc m) r = add_rows p q (i + 1) m (unless_nought (cell p i) (add_row (cell p i) i q 0 monomial_count r) r)

unfoldable pub multiplied : Polynomial → Polynomial → Polynomial
multiplied p q = add_rows p q 0 monomial_count zero_polynomial

-- its value at a vertex: the sum of the m terms from term k on, of them all
unfoldable pub value_from : Polynomial → Vertex → ℕ → ℕ → ℤ
value_from p v k zero = 0ℤ
value_from p v k (suc m) = cell p k ⊗ powers_product (exponents_at k) v ⊕ value_from p v (k + 1) m

unfoldable pub polynomial_value : Polynomial → Vertex → ℤ
polynomial_value p v = value_from p v 0 monomial_count

-- ---- limits of a term

-- the degree of the product: no two terms have a product of degree above 4. Those of the highest degrees do not cancel (`fits_exactly`)
unfoldable pub row_fits : ℕ → Polynomial → Bool
row_fits i q = all_from (λ k. is_zero (cell q k) || leb (degree_at i + degree_at k) degree_limit) 0 monomial_count

unfoldable pub fits : Polynomial → Polynomial → Bool
fits p q = all_from (λ i. is_zero (cell p i) || row_fits i q) 0 monomial_count

-- the coefficients are at most 1,048,576 in size
unfoldable pub coefficients_within : Polynomial → Bool
coefficients_within p = every (λ x. leb (nat_abs x) coefficient_limit) p

-- what every inner result keeps: 70 coefficients within the limit
abbrev pub Kept : Polynomial → Type 0
Kept p = (length p ≡ monomial_count) × (coefficients_within p ≡ true)

-- an inner result: none if it breaks a limit
unfoldable pub within : Polynomial → Option Polynomial
within p = cond (coefficients_within p) (some p) none

-- ---- one operation each

unfoldable pub constant : ℕ → Option Polynomial
constant v = within (single 0 (pos v))

-- the letter of axis a, counted from 0
unfoldable pub unit_exponents : ℕ → List ℕ
unit_exponents a = map (λ k. cond (eqb k a) 1 0) (0 ∷ 1 ∷ 2 ∷ 3 ∷ [])

unfoldable pub variable_polynomial : ℕ → Option Polynomial
variable_polynomial a = within (single (slot (unit_exponents a)) 1ℤ)

unfoldable pub sum_of : Polynomial → Polynomial → Option Polynomial
sum_of p q = within (cellwise ◌⊕◌ p q)

unfoldable pub difference_of : Polynomial → Polynomial → Option Polynomial
difference_of p q = within (cellwise ◌⊖◌ p q)

unfoldable pub product_of : Polynomial → Polynomial → Option Polynomial
product_of p q = cond (fits p q) (within (multiplied p q)) none
