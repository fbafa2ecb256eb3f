-- What is read where a term of a polynomial stands in a body: its coefficient, its exponents, and what stands behind it.
use Prim.Native.Nat.{ℕ, suc, zero, ◌+◌, ◌*◌, ◌≤◌, ◌<◌}
use native.Mathlib.Omega.{arith}
use mathlib.Core.Path.{◌≡◌, refl, sym, ap, ap₂, ◌∙◌}
use mathlib.Core.Bool.{true}
use mathlib.Core.List.{List, [], ◌∷◌, ◌++◌}
use lib.IntN.{nat_abs}
use lib.ListN.{length, get_or, drop, get_or-append}
use lib.Seq.{get_or-drop}
use lib.Dec.{lit≤, leb}
use borrow.Author.Tests.{leb-true}
use Rattle.exact.specs.Int.{◌⊗◌, power}
use Rattle.exact.proofs.AndTests.{and_left, and_right}
use Rattle.curves.specs.Grid.{Vertex}
use Rattle.curves.specs.Step.{every}
use Rattle.paper.specs.Limits.{coefficient_limit}
use Rattle.paper.specs.Bytes.{byte}
use Rattle.paper.specs.Job.{coefficient_of, exponent_of}
use Rattle.paper.specs.Values.{monomial}
use Rattle.paper.specs.RunningSum.{powers_product}
use Rattle.paper.proofs.Encode.{drop_on}
use Rattle.formula.specs.Polynomial.{Polynomial, cell, monomial_count, exponents_at, coefficients_within}
use Rattle.formula.specs.Read.{double_word_bytes}
use Rattle.formula.proofs.Slots.{monomial_length}
use Rattle.formula.proofs.TermBytes.{eight_bytes, read_double_word}

-- every coefficient is within its limit
pub cell_within : (p : Polynomial) (k : ℕ) → coefficients_within p ≡ true → nat_abs (cell p k) ≤ coefficient_limit
unfolding coefficients_within every cell coefficient_limit
cell_within [] k h = lit≤ tt
cell_within (x ∷ p) zero h = leb-true _ _ (and_left (leb (nat_abs x) coefficient_limit) (coefficients_within p) h)
cell_within (x ∷ p) (suc k) h = cell_within p k (and_right (leb (nat_abs x) coefficient_limit) (coefficients_within p) h)

-- a product of powers by exponents that are read
product_is : (b : List ℕ) (i : ℕ) (es : List ℕ) (a : ℕ) (v : Vertex) → ((j : ℕ) → j < length es → exponent_of b i (a + j) ≡ get_or es j 0)
    → length v ≤ length es → monomial b i a v ≡ powers_product es v
unfolding monomial powers_product
product_is b i [] a [] h l = refl
product_is b i [] a (x ∷ v) h l = absurd (omega arith)
product_is b i (e ∷ es) a [] h l = refl
product_is b i (e ∷ es) a (x ∷ v) h l =
    ap₂ (λ y z. power x y ⊗ z) (ap (exponent_of b i) here ∙ h 0 (omega arith))
    (product_is b i es (suc a) v (λ j u. ap (exponent_of b i) (next j) ∙ h (suc j) (omega arith)) (omega arith))
  where
    here : a ≡ a + 0
    here = omega arith

    next : (j : ℕ) → suc a + j ≡ a + suc j
    next j = omega arith

module _ (p : Polynomial) (within : coefficients_within p ≡ true) (b : List ℕ) (i k : ℕ) (low : k < monomial_count) (rest : List ℕ)
    (stands : drop (8 * i) b ≡ (double_word_bytes (cell p k) ++ exponents_at k) ++ rest) where
  pub term_coefficient : coefficient_of b i ≡ cell p k
  unfolding coefficient_of double_word_bytes coefficient_limit
  term_coefficient = read_double_word b (8 * i) (cell p k) (exponents_at k ++ rest) stands (omega (arith, cell_within p k within))

  exponents_stand : drop (8 * i + 4) b ≡ exponents_at k ++ rest
  unfolding double_word_bytes
  exponents_stand = drop_on b (8 * i) 4 (8 * i + 4) (double_word_bytes (cell p k)) (exponents_at k ++ rest) refl refl stands

  pub term_behind : drop (8 * (i + 1)) b ≡ rest
  term_behind =
      drop_on b (8 * i) 8 (8 * (i + 1)) (double_word_bytes (cell p k) ++ exponents_at k) rest (omega arith) (eight_bytes p k low) stands

  pub term_exponent : (a : ℕ) → a < 4 → exponent_of b i a ≡ get_or (exponents_at k) a 0
  unfolding exponent_of byte
  term_exponent a l =
      sym (get_or-drop (8 * i + 4) b a 0)
      ∙ ap (λ r. get_or r a 0) exponents_stand
      ∙ get_or-append (exponents_at k) rest 0 a (omega (arith, monomial_length k low))

  pub term_monomial : (v : Vertex) → length v ≤ 4 → monomial b i 0 v ≡ powers_product (exponents_at k) v
  term_monomial v l =
      let e = monomial_length k low in
      product_is b i (exponents_at k) 0 v (λ j u. exponent_from j (omega (arith, e))) (omega (arith, e))
    where
      exponent_from : (j : ℕ) → j < 4 → exponent_of b i (0 + j) ≡ get_or (exponents_at k) j 0
      exponent_from j u = let same : 0 + j ≡ j = omega arith in ap (exponent_of b i) same ∙ term_exponent j u
