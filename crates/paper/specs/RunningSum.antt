-- Summing from the top: request 2.8. First over any list of terms, then over the terms of a polynomial's body, which are summed from the last to
-- the first, then the operation that shows the running sum.
use Rattle.std.specs.Prelude.{ℕ, ◌+◌, ◌*◌, ◌-◌, ◌^◌, ◌≤◌, ◌≡◌, Bool, true, not, ◌&&◌, List, [], ◌∷◌, map, reverse, ℤ, nat_abs, length, take, leb, ltb}
use Rattle.exact.specs.Int.{◌⊕◌, ◌⊗◌, power, 0ℤ, 1ℤ}
use Rattle.exact.specs.Crossed.{count_from}
use Rattle.curves.specs.Grid.{Vertex}
use Rattle.curves.specs.Step.{every}
use Rattle.paper.specs.Limits.{coordinate_limit, term_limit, coefficient_limit, degree_limit}
use Rattle.paper.specs.Job.{dimension, body, term_count, coefficient_of, exponent_of, refuse_if, open_refusal}
use Rattle.paper.specs.Values.{sum_from, inside_from}
use Rattle.paper.specs.Operations.{Answer, unless, first_refusal}

-- ---- any list of terms

-- a coefficient, and the exponents for axis 1 on; an axis without one is as if it had exponent 0
pub record Term : Type 0 where
  pub coefficient : ℤ
  pub exponents : List ℕ

-- the product of the powers of the coordinates; 0 to the power 0 is 1
unfoldable pub powers_product : List ℕ → Vertex → ℤ
powers_product [] v = 1ℤ
powers_product (e ∷ es) [] = 1ℤ
powers_product (e ∷ es) (x ∷ v) = power x e ⊗ powers_product es v

unfoldable pub value_at : Vertex → Term → ℤ
value_at v t = t.coefficient ⊗ powers_product t.exponents v

-- the terms of a list, added to a sum one after another
unfoldable pub add_terms : Vertex → ℤ → List Term → ℤ
add_terms v sum [] = sum
add_terms v sum (t ∷ ts) = add_terms v (sum ⊕ value_at v t) ts

-- the sum of the terms, in the order of the list
unfoldable pub sum_in_order : Vertex → List Term → ℤ
sum_in_order v ts = add_terms v 0ℤ ts

-- the partial sum after the first k terms of that order
unfoldable pub partial_sum : Vertex → List Term → ℕ → ℤ
partial_sum v ts k = sum_in_order v (take k ts)

-- ---- their limits

-- the sum of a term's exponents
unfoldable pub exponent_sum : List ℕ → ℕ
exponent_sum [] = 0
exponent_sum (e ∷ es) = e + exponent_sum es

-- coefficient and degree are within the limits; that a coefficient is not 0, and no axis above n is named, is not asked
unfoldable pub term_within : Term → Bool
term_within t = leb (nat_abs t.coefficient) coefficient_limit && leb (exponent_sum t.exponents) degree_limit

-- no more terms than a body of dimension n may hold, each within the limits
pub record TermsWithin (n : ℕ) (ts : List Term) : Type 0 where
  pub count : length ts ≤ term_limit n
  pub each : every term_within ts ≡ true

-- each coordinate is one that a box may have
unfoldable pub vertex_within : Vertex → Bool
vertex_within v = every (λ x. leb (nat_abs x) coordinate_limit) v

-- so large may be the size of a product of powers, of a term, and of any partial sum in dimension n
unfoldable pub monomial_limit : ℕ
monomial_limit = coordinate_limit ^ degree_limit

unfoldable pub term_size : ℕ
term_size = coefficient_limit * monomial_limit

unfoldable pub partial_sum_limit : ℕ → ℕ
partial_sum_limit n = term_limit n * term_size

-- ---- the terms of a body

-- term i, with its four exponents
unfoldable pub term_of : List ℕ → ℕ → Term
term_of b i = record { coefficient = coefficient_of b i; exponents = map (exponent_of b i) (count_from 0 4) }

unfoldable pub terms_of : List ℕ → List Term
terms_of b = map (term_of b) (count_from 0 (term_count b))

-- the running sum from the last term to the first, after k terms
unfoldable pub running_sum : List ℕ → Vertex → ℕ → ℤ
running_sum b v k = partial_sum v (reverse (terms_of b)) k

-- the sum of the last k terms
unfoldable pub sum_of_last : List ℕ → Vertex → ℕ → ℤ
sum_of_last b v k = sum_from b v (term_count b - k) k

-- ---- the running sum as an operation

-- polynomials are numbered from 0, and a vertex is given by four numbers, of which those above n are not read
unfoldable pub summed_body : List ℕ → ℕ → List ℕ
summed_body s p = body s (p + 1)

unfoldable pub summed_vertex : List ℕ → List ℤ → Vertex
summed_vertex s v = take (dimension s) v

-- 12 no such polynomial, or it has not so many terms; then 9 the vertex outside the box
unfoldable pub running_sum_refusal : List ℕ → ℕ → List ℤ → ℕ → ℕ
running_sum_refusal s p v k =
    first_refusal (open_refusal s)
    (refuse_if (not (ltb p (dimension s - 1))) 12
    (refuse_if (not (leb k (term_count (summed_body s p)))) 12
    (refuse_if (not (inside_from (body s 0) 0 (summed_vertex s v))) 9 0)))

-- the exact sum, without the readable test and without the bias
unfoldable pub running_summed : List ℕ → ℕ → List ℤ → ℕ → Answer ℤ
running_summed s p v k = unless (running_sum_refusal s p v k) (running_sum (summed_body s p) (summed_vertex s v) k)
