-- The constant array of the code has the exponents of each monomial.
use Prim.Native.Nat.{ℕ, suc, zero, ◌+◌, ◌*◌, ◌/◌, ◌%◌, ◌<◌}
use mathlib.Core.Path.{◌≡◌, refl, sym, subst}
use mathlib.Core.Bool.{Bool, true, false}
use mathlib.Core.List.{List, [], ◌∷◌, flat_map}
use native.Mathlib.Numerals.{add-one}
use native.Mathlib.Omega.{arith}
use lib.ListN.{get_or}
use lib.Dec.{eqb, ltb, lit≤}
use borrow.Author.Tests.{eqb-true, eqb-false, ltb-true}
use Rattle.exact.specs.Crossed.{count_from}
use Rattle.paper.specs.Job.{all_from}
use Rattle.paper.specs.Limits.{degree_limit}
use Rattle.paper.specs.RunningSum.{exponent_sum}
use Rattle.paper.proofs.Tests.{all_at}
use Rattle.formula.specs.Polynomial.{monomial_count, monomials, exponents_up_to, exponents_at, degree_at}
use Rattle.monomials.specs.Weight.{weight}
use Rattle.monomials.proofs.FourDigits.{Four, four, four_within, within_four, four_more, weight_small}

-- the array of the code
abbrev pub codes_array : List ℕ
codes_array =
    0x0000 ∷ 0x0001 ∷ 0x0002 ∷ 0x0003 ∷ 0x0004 ∷ 0x0010 ∷ 0x0011 ∷ 0x0012 ∷ 0x0013 ∷ 0x0020 ∷ 0x0021 ∷ 0x0022 ∷ 0x0030 ∷ 0x0031 ∷ 0x0040
    ∷ 0x0100 ∷ 0x0101 ∷ 0x0102 ∷ 0x0103 ∷ 0x0110 ∷ 0x0111 ∷ 0x0112 ∷ 0x0120 ∷ 0x0121 ∷ 0x0130
    ∷ 0x0200 ∷ 0x0201 ∷ 0x0202 ∷ 0x0210 ∷ 0x0211 ∷ 0x0220 ∷ 0x0300 ∷ 0x0301 ∷ 0x0310 ∷ 0x0400
    ∷ 0x1000 ∷ 0x1001 ∷ 0x1002 ∷ 0x1003 ∷ 0x1010 ∷ 0x1011 ∷ 0x1012 ∷ 0x1020 ∷ 0x1021 ∷ 0x1030
    ∷ 0x1100 ∷ 0x1101 ∷ 0x1102 ∷ 0x1110 ∷ 0x1111 ∷ 0x1120 ∷ 0x1200 ∷ 0x1201 ∷ 0x1210 ∷ 0x1300
    ∷ 0x2000 ∷ 0x2001 ∷ 0x2002 ∷ 0x2010 ∷ 0x2011 ∷ 0x2020 ∷ 0x2100 ∷ 0x2101 ∷ 0x2110 ∷ 0x2200
    ∷ 0x3000 ∷ 0x3001 ∷ 0x3010 ∷ 0x3100 ∷ 0x4000 ∷ []

-- ---- one computed test for all monomials

module _ (t : List ℕ → ℕ → Bool) where
  abbrev everywhere : Bool
  everywhere = all_from (λ k. t (exponents_at k) k) 0 70

  passes : everywhere ≡ true → (k : ℕ) → k < monomial_count → t (exponents_at k) k ≡ true
  unfolding monomial_count
  passes h k l = all_at (λ k. t (exponents_at k) k) 0 70 k h (omega arith) (omega arith)

same_code : List ℕ → ℕ → Bool
same_code e k = eqb (get_or codes_array k 0) (weight e)

pub code_is : (k : ℕ) → k < monomial_count → get_or codes_array k 0 ≡ weight (exponents_at k)
unfolding same_code weight exponents_at monomials exponents_up_to degree_limit count_from flat_map all_from
code_is k l = eqb-true (get_or codes_array k 0) (weight (exponents_at k)) (passes same_code refl k l)

few_digits : List ℕ → ℕ → Bool
few_digits e k = four_within 4 e

pub exponents_four : (k : ℕ) → k < monomial_count → Four 4 (exponents_at k)
unfolding few_digits four_within exponents_at monomials exponents_up_to degree_limit count_from flat_map all_from
exponents_four k l = within_four 4 (exponents_at k) (passes few_digits refl k l)

-- the digits of the weight of four exponents are the exponents
weight_digits : {es : List ℕ} → Four 4 es → weight es / 4096 ∷ weight es / 256 % 16 ∷ weight es / 16 % 16 ∷ weight es % 16 ∷ [] ≡ es
unfolding weight
weight_digits (four {a} {b} {c} {d} h i j k) =
    let first : (a * 4096 + b * 256 + c * 16 + d) / 4096 ≡ a = omega arith in
    let second : (a * 4096 + b * 256 + c * 16 + d) / 256 % 16 ≡ b = omega arith in
    let third : (a * 4096 + b * 256 + c * 16 + d) / 16 % 16 ≡ c = omega arith in
    let fourth : (a * 4096 + b * 256 + c * 16 + d) % 16 ≡ d = omega arith in
    rw (first, second, third, fourth) refl

pub code_digits : {w : ℕ} (k : ℕ) → k < monomial_count → w ≡ weight (exponents_at k) → w / 4096 ∷ w / 256 % 16 ∷ w / 16 % 16 ∷ w % 16 ∷ [] ≡ exponents_at k
code_digits k l e = rw e (weight_digits (exponents_four k l))

pub weight_below : (k : ℕ) → k < monomial_count → weight (exponents_at k) < 65536
weight_below k l = weight_small (four_more (lit≤ tt) (exponents_four k l))

-- the sum of four exponents is the degree
sum_degree : {m : ℕ} {es : List ℕ} → Four m es → get_or es 0 0 + get_or es 1 0 + get_or es 2 0 + get_or es 3 0 ≡ exponent_sum es
unfolding exponent_sum
sum_degree (four h i j k) = omega arith

pub exponents_degree : {es : List ℕ} (k : ℕ) → k < monomial_count → es ≡ exponents_at k
    → get_or es 0 0 + get_or es 1 0 + get_or es 2 0 + get_or es 3 0 ≡ degree_at k
unfolding degree_at
exponents_degree k l e = rw e (sum_degree (exponents_four k l))

rises : ℕ → Bool
rises k = ltb (get_or codes_array k 0) (get_or codes_array (k + 1) 0)

-- the codes rise
rise_next : (k : ℕ) → k < 69 → get_or codes_array k 0 < get_or codes_array (k + 1) 0
unfolding rises all_from
rise_next k l = ltb-true (get_or codes_array k 0) (get_or codes_array (k + 1) 0) (all_at rises 0 69 k refl (omega arith) l)

pub codes_rise : (i k : ℕ) → i < k → k < 70 → get_or codes_array i 0 < get_or codes_array k 0
codes_rise i zero h l = absurd (omega arith)
codes_rise i (suc k) h l = go (codes_rise i k) (eqb i k) refl
  where
    next : get_or codes_array k 0 < get_or codes_array (suc k) 0
    next = subst (λ (n : ℕ). get_or codes_array k 0 < get_or codes_array n 0) (add-one k) (rise_next k (omega arith))

    go : (i < k → k < 70 → get_or codes_array i 0 < get_or codes_array k 0) → (b : Bool) → eqb i k ≡ b → get_or codes_array i 0 < get_or codes_array (suc k) 0
    go earlier true e = subst (λ (n : ℕ). get_or codes_array n 0 < get_or codes_array (suc k) 0) (sym (eqb-true i k e)) next
    go earlier false e = omega (arith, earlier (omega (arith, eqb-false i k e)) (omega arith), next)
