-- The test of a term as the code makes it: the coefficient, the exponents axis by axis, their sum, in place of the definitions' own.
use Rattle.std.proofs.Common.{◌≡◌, refl, ap, ◌∙◌, Bool, true, false, not, ◌&&◌, ◌||◌, List, ℕ, ◌+◌, ◌*◌, arith, nat_abs, [], ◌∷◌, slice_index, sum}
use lib.Dec.{leb, ltb, eqb}
use Rattle.paper.specs.Bytes.{byte}
use Rattle.paper.specs.Limits.{coefficient_limit, degree_limit}
use Rattle.paper.specs.Job.{coefficient_of, exponent_of, all_from, exponents_zero, degree, term_ok}
use Rattle.paper.proofs.Tests.{all_from_on}
use Rattle.terms.specs.Carried.{coefficient_ok, exponents_of, exponents_ok, short_weight}

-- a test that follows another two
and_last : (p q r s : Bool) → (p && (q && (r && s))) ≡ ((p && q) && (r && s))
and_last false q r s = refl
and_last true q r s = refl

degree_is : (b : List ℕ) (i : ℕ) → degree b i ≡ sum (exponents_of b i)
unfolding exponents_of degree
degree_is b i = omega arith

-- the exponents of the axes by index
uppers : (n : ℕ) (b : List ℕ) (i : ℕ)
    → all_from (λ a. ltb a n || eqb (exponent_of b i a) 0) 0 4 ≡ all_from (λ a. ltb a n || eqb (slice_index (exponents_of b i) a) 0) 0 4
unfolding exponents_of all_from
uppers n b i = refl

term_test : (n : ℕ) (b : List ℕ) (i : ℕ) → term_ok n b i ≡ (coefficient_ok b i && exponents_ok n (exponents_of b i))
unfolding term_ok coefficient_ok exponents_ok exponents_zero
term_test n b i =
    rw (all_from_on (λ k. eqb (exponent_of b i k) 0) n 4, degree_is b i)
    (and_last (not (eqb (nat_abs (coefficient_of b i)) 0)) (leb (nat_abs (coefficient_of b i)) coefficient_limit)
    (all_from (λ a. ltb a n || eqb (exponent_of b i a) 0) 0 4) (leb (sum (exponents_of b i)) degree_limit)
    ∙ ap (λ t. (not (eqb (nat_abs (coefficient_of b i)) 0) && leb (nat_abs (coefficient_of b i)) coefficient_limit) && (t && leb (sum (exponents_of b i)) degree_limit)) (uppers n b i))

-- what two tests say of the term
module _ (n : ℕ) (b : List ℕ) (i : ℕ) where
  pub coefficient_fails : coefficient_ok b i ≡ false → term_ok n b i ≡ false
  coefficient_fails h = rw (term_test n b i, h)

  pub exponents_fail : {e : List ℕ} → coefficient_ok b i ≡ true → e ≡ exponents_of b i → exponents_ok n e ≡ false → term_ok n b i ≡ false
  exponents_fail h f g = rw (term_test n b i, h, ← f, g)

  pub term_passes : {e : List ℕ} → coefficient_ok b i ≡ true → e ≡ exponents_of b i → exponents_ok n e ≡ true → term_ok n b i ≡ true
  term_passes h f g = rw (term_test n b i, h, ← f, g)

-- four bytes that were read are the exponents
pub exponents_read : (b : List ℕ) (i : ℕ) {x y z w : ℕ} → x ≡ byte b (8 * i + 4) → y ≡ byte b (8 * i + 4 + 1) → z ≡ byte b (8 * i + 4 + 2)
    → w ≡ byte b (8 * i + 4 + 3) → x ∷ y ∷ z ∷ w ∷ [] ≡ exponents_of b i
unfolding exponents_of exponent_of
exponents_read b i e f g h = let first : 8 * i + 4 + 0 ≡ 8 * i + 4 = omega arith in rw (e, f, g, h, first)

-- their digits are the weight
pub weight_is : (b : List ℕ) (i : ℕ) {e : List ℕ} → e ≡ exponents_of b i
    → ((slice_index e 0 * 8 + slice_index e 1) * 8 + slice_index e 2) * 8 + slice_index e 3 ≡ short_weight b i
unfolding exponents_of short_weight
weight_is b i h = rw h
