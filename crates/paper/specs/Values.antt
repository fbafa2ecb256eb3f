-- Values at vertices, readable values and points: document 01, section "Crossed", the bias of request 2.7 and the rounding of request 2.5.
use Rattle.std.specs.Prelude.{ℕ, suc, zero, ◌+◌, ◌*◌, ◌-◌, ◌/◌, ◌%◌, ◌^◌, Bool, true, cond, ◌&&◌, List, [], ◌∷◌, map, ℤ, pos, negsuc, nat_abs, leb, ltb, eqb}
use Rattle.std.specs.Int.Signed.{le_z}
use Rattle.exact.specs.Int.{◌⊕◌, ◌⊗◌, neg, power, 0ℤ, 1ℤ}
use Rattle.exact.specs.Det.{Column, determinant}
use Rattle.exact.specs.Crossed.{count_from, coefficient}
use Rattle.curves.specs.Grid.{Vertex, Facet, facet_vertices}
use Rattle.curves.specs.Step.{Field, columns, every}
use Rattle.paper.specs.Limits.{readable_limit, steps_per_unit}
use Rattle.paper.specs.Job.{dimension, bias, body, low_end, high_end, coefficient_of, exponent_of, term_count}

-- ---- the polynomial's exact sum

-- the product of the powers of the coordinates, from axis a on; 0 to the power 0 is 1
unfoldable pub monomial : List ℕ → ℕ → ℕ → Vertex → ℤ
monomial b i a [] = 1ℤ
monomial b i a (x ∷ v) = power x (exponent_of b i a) ⊗ monomial b i (suc a) v

unfoldable pub term_value : List ℕ → Vertex → ℕ → ℤ
term_value b v i = coefficient_of b i ⊗ monomial b i 0 v

-- the sum of the m terms from term i on
unfoldable pub sum_from : List ℕ → Vertex → ℕ → ℕ → ℤ
sum_from b v i zero = 0ℤ
sum_from b v i (suc m) = term_value b v i ⊕ sum_from b v (i + 1) m

-- the exact sum of the polynomial with body b at a vertex
unfoldable pub raw_sum : List ℕ → Vertex → ℤ
raw_sum b v = sum_from b v 0 (term_count b)

-- a sum is readable from minus the limit to the limit
unfoldable pub readable_sum : ℕ → ℤ → Bool
readable_sum n z = leb (nat_abs z) (readable_limit n)

-- the value that judging, stepping and points go by, of a readable sum: 0 if the sum is no larger in size than the bias
unfoldable pub value_of : ℕ → ℤ → ℤ
value_of bias z = cond (leb (nat_abs z) bias) 0ℤ z

-- ---- the job's values, box and readable vertices

-- the polynomials' sums at a vertex
unfoldable pub sums : List ℕ → Vertex → List ℤ
sums s v = map (λ k. raw_sum (body s k) v) (count_from 1 (dimension s - 1))

-- a vertex lies in the box, from axis a on
unfoldable pub inside_from : List ℕ → ℕ → Vertex → Bool
inside_from b a [] = true
inside_from b a (x ∷ v) = le_z (low_end b a) x && (le_z x (high_end b a) && inside_from b (suc a) v)

-- what curves are drawn on, from the dimension n, the bias, the box and the sums; readable is tested of the sums, the bias counts behind it
unfoldable pub field_from : ℕ → ℕ → List ℕ → (Vertex → List ℤ) → Field
field_from n bias box sums = record {
  value = λ v. map (value_of bias) (sums v);
  in_box = inside_from box 0;
  readable = λ v. every (readable_sum n) (sums v);
}

-- what the curves of a job are drawn on
unfoldable pub field_of : List ℕ → Field
field_of s = field_from (dimension s) (bias s) (body s 0) (sums s)

-- ---- points

-- q steps and rest / den of a step, as a number of steps: less than a half goes down, more goes up, and a half goes to the even count
unfoldable pub nearest_steps : ℕ → ℕ → ℕ → ℕ
nearest_steps q rest den = cond (ltb (2 * rest) den) q (cond (ltb den (2 * rest)) (suc q) (q + q % 2))

-- a number of steps num / den, rounded to the nearest, a half to the even count; the same on both sides of 0
unfoldable pub round_steps : ℤ → ℕ → ℤ
round_steps (pos a) den = pos (nearest_steps (a / den) (a % den) den)
round_steps (negsuc a) den = neg (pos (nearest_steps (suc a / den) (suc a % den) den))

-- a mask has the axis a
unfoldable pub has_axis : ℕ → ℕ → Bool
has_axis m a = eqb (m / 2 ^ a % 2) 1

-- the sum of the coefficients of power 0 of those vertices, from vertex i on, whose mask has the axis
unfoldable pub weight_sum : ℕ → List Column → ℕ → List ℕ → ℕ → ℤ
weight_sum n cs i [] a = 0ℤ
weight_sum n cs i (m ∷ ms) a = cond (has_axis m a) (coefficient n cs i 0) 0ℤ ⊕ weight_sum n cs (suc i) ms a

-- num / d as a fraction over the size of d
unfoldable pub over_size : ℤ → ℤ → ℤ
over_size num (pos d) = num
over_size num (negsuc d) = neg num

-- the share num / d of a unit in steps, rounded
unfoldable pub share_steps : ℤ → ℤ → ℤ
share_steps num d = round_steps (pos steps_per_unit ⊗ over_size num d) (nat_abs d)

-- 1024 times the lowest vertex's coordinate, plus the steps of the share that is the sum of the weights a_i / D: the whole coordinate rounded, since 1024
-- is even
unfoldable pub coordinate_steps : ℤ → ℤ → ℤ → ℤ
coordinate_steps low num d = pos steps_per_unit ⊗ low ⊕ share_steps num d

-- the point's coordinates from axis a on; the lowest vertex has mask 0, so vertex 0 has no part in a sum
unfoldable pub point_from : ℕ → List Column → List ℕ → ℕ → Vertex → List ℤ
point_from n cs ms a [] = []
point_from n cs ms a (x ∷ v) =
    coordinate_steps x (weight_sum n cs 1 ms a) (determinant n cs) ∷ point_from n cs ms (suc a) v

-- the point of a facet in steps of 1/1024, axis by axis
unfoldable pub point_of : ℕ → Field → Facet → List ℤ
point_of n φ f = point_from n (columns φ (facet_vertices f)) f.masks 0 f.low
