-- The exact sum of a polynomial's term list at a vertex is the polynomial's value there.
use Prim.Native.Nat.{ℕ, suc, zero, ◌+◌, ◌*◌, ◌≤◌, ◌<◌}
use native.Mathlib.Omega.{arith}
use mathlib.Core.Path.{◌≡◌, refl, sym, ap, ap₂, ◌∙◌}
use mathlib.Core.Bool.{Bool, true, false}
use mathlib.Core.List.{List, ◌++◌}
use lib.ListN.{length, drop}
use Rattle.exact.specs.Int.{◌⊕◌, ◌⊗◌}
use Rattle.exact.proofs.Ring.{zero-add, zero-mul}
use Rattle.curves.specs.Grid.{Vertex}
use Rattle.paper.specs.Job.{term_count}
use Rattle.paper.specs.Values.{term_value, sum_from, raw_sum}
use Rattle.paper.specs.RunningSum.{powers_product}
use Rattle.formula.specs.Polynomial.{Polynomial, cell, is_zero, monomial_count, exponents_at, coefficients_within, value_from, polynomial_value}
use Rattle.formula.specs.Read.{double_word_bytes, terms_from, term_list}
use Rattle.formula.proofs.Weighted.{zero_is}
use Rattle.formula.proofs.TermBytes.{is_term, passing, no_term, one_term, term_list_length}
use Rattle.formula.proofs.TermRead.{term_coefficient, term_monomial, term_behind}

module _ (p : Polynomial) where
  -- the terms from monomial k on begin with monomial k, or without it
  pub terms_without : (k m : ℕ) → is_zero (cell p k) ≡ true → terms_from p k (suc m) ≡ terms_from p (k + 1) m
  unfolding terms_from
  terms_without k m h = rw (no_term p k h)

  pub terms_with : (k m : ℕ) → is_zero (cell p k) ≡ false
      → terms_from p k (suc m) ≡ (double_word_bytes (cell p k) ++ exponents_at k) ++ terms_from p (k + 1) m
  unfolding terms_from
  terms_with k m h = rw (one_term p k h)

  pub passing_without : (k m : ℕ) → is_zero (cell p k) ≡ true → passing (is_term p) k (suc m) ≡ passing (is_term p) (k + 1) m
  unfolding passing is_term
  passing_without k m h = rw h (omega arith)

  pub passing_with : (k m : ℕ) → is_zero (cell p k) ≡ false → passing (is_term p) k (suc m) ≡ suc (passing (is_term p) (k + 1) m)
  unfolding passing is_term
  passing_with k m h = rw h (omega arith)

  module _ (within : coefficients_within p ≡ true) (b : List ℕ) (v : Vertex) (axes : length v ≤ 4) where
    sum_terms : (k m i : ℕ) → k + m ≤ monomial_count → drop (8 * i) b ≡ terms_from p k m → sum_from b v i (passing (is_term p) k m) ≡ value_from p v k m
    unfolding sum_from value_from passing term_value
    sum_terms k zero i l h = refl
    sum_terms k (suc m) i l h = go (λ j. sum_terms (k + 1) m j (omega arith)) (is_zero (cell p k)) refl
      where
        go : ((j : ℕ) → drop (8 * j) b ≡ terms_from p (k + 1) m → sum_from b v j (passing (is_term p) (k + 1) m) ≡ value_from p v (k + 1) m)
            → (t : Bool) → is_zero (cell p k) ≡ t → sum_from b v i (passing (is_term p) k (suc m)) ≡ value_from p v k (suc m)
        go later true e =
            ap (sum_from b v i) (passing_without k m e)
            ∙ later i (h ∙ terms_without k m e)
            ∙ sym (rw (zero_is (cell p k) e, zero-mul (powers_product (exponents_at k) v)) (zero-add (value_from p v (k + 1) m)))
        go later false e =
            let stands = h ∙ terms_with k m e in
            let low : k < monomial_count = omega arith in
            let rest : List ℕ = terms_from p (k + 1) m in
            ap (sum_from b v i) (passing_with k m e)
            ∙ ap₂ (λ x y. x ⊕ y)
            (ap₂ (λ x y. x ⊗ y) (term_coefficient p within b i k low rest stands) (term_monomial p within b i k low rest stands v axes))
            (later (i + 1) (term_behind p within b i k low rest stands))

  -- one term for each coefficient that is not 0
  pub terms_counted : term_count (term_list p) ≡ passing (is_term p) 0 monomial_count
  unfolding term_count
  terms_counted = omega (arith, term_list_length p)

pub term_list_sum : (p : Polynomial) → coefficients_within p ≡ true → (v : Vertex) → length v ≤ 4 → raw_sum (term_list p) v ≡ polynomial_value p v
unfolding raw_sum polynomial_value term_list
term_list_sum p within v axes =
    ap (sum_from (term_list p) v 0) (terms_counted p) ∙ sum_terms p within (term_list p) v axes 0 monomial_count 0 (omega arith) refl
