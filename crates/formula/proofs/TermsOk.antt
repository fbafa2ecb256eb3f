-- The term list of a polynomial passes the tests of a job's polynomial: each term is within the limits, the terms rise, and there are no more of them
-- than a body may hold.
use Prim.Native.Nat.{ℕ, suc, zero, ◌+◌, ◌*◌, ◌-◌, ◌%◌, ◌≤◌, ◌<◌}
use native.Mathlib.Omega.{arith}
use mathlib.Core.Path.{◌≡◌, refl, sym, ap, subst, ◌∙◌}
use mathlib.Core.Bool.{Bool, true, false, not, cond, ◌&&◌, ◌||◌, true≢false}
use mathlib.Core.List.{List, [], ◌∷◌, ◌++◌, flat_map}
use lib.ListN.{length, get_or, drop}
use lib.Dec.{eqb, ltb}
use borrow.Author.Tests.{eqb-true, eqb-false, eq-eqb, ne_eqb, ltb-true, lt-ltb, le-leb, not-true}
use Rattle.exact.specs.Crossed.{count_from}
use Rattle.exact.proofs.AndTests.{and-true}
use Rattle.curves.specs.Step.{every}
use Rattle.paper.specs.Limits.{dimension_ok, degree_limit, term_limit}
use Rattle.paper.specs.Job.{all_from, exponents_zero, degree, term_ok, exponent_weight, rises, polynomial_ok, polynomial_length_ok}
use Rattle.paper.specs.RunningSum.{exponent_sum}
use Rattle.curves.proofs.Orders.{each_tabled}
use Rattle.paper.proofs.Tests.{all_at, all_same, dimension_range}
use Rattle.formula.specs.Polynomial.{Polynomial, monomial_count, monomials, exponents_up_to, exponents_at, degree_at}
use Rattle.formula.specs.Polynomial.{cell, is_zero, coefficients_within}
use Rattle.formula.specs.Read.{double_word_bytes, terms_from, term_list}
use Rattle.formula.proofs.Slots.{monomial_length, monomial_degree}
use Rattle.formula.proofs.TermBytes.{is_term, passing, term_list_length}
use Rattle.formula.proofs.TermRead.{cell_within, term_coefficient, term_exponent, term_behind}
use Rattle.formula.proofs.TermSum.{terms_with, terms_without, passing_with, passing_without, terms_counted}
use Rattle.formula.proofs.UpperLetters.{low_monomial, upper_free, free_monomial}

-- ---- the weights of the monomials

-- exponents as the digits of a number, axis 1 weighing most
weight_of : List ℕ → ℕ
weight_of es = get_or es 0 0 * 16777216 + get_or es 1 0 * 65536 + get_or es 2 0 * 256 + get_or es 3 0

rises_at : ℕ → Bool
rises_at k = ltb (weight_of (exponents_at k)) (weight_of (exponents_at (k + 1)))

weights_tested : all_from rises_at 0 (monomial_count - 1) ≡ true
unfolding rises_at weight_of all_from exponents_at monomials monomial_count exponents_up_to degree_limit flat_map count_from
weights_tested = refl

-- they rise strictly
weights_rise : (j k : ℕ) → j < k → k < monomial_count → weight_of (exponents_at j) < weight_of (exponents_at k)
unfolding rises_at
weights_rise j zero l u = absurd (omega arith)
weights_rise j (suc k) l u = go (weights_rise j k) (eqb j k) refl
  where
    step : weight_of (exponents_at k) < weight_of (exponents_at (suc k))
    step =
        let next : k + 1 ≡ suc k = omega arith in
        subst (λ (m : ℕ). weight_of (exponents_at k) < weight_of (exponents_at m)) next
        (ltb-true _ _ (all_at rises_at 0 (monomial_count - 1) k weights_tested (omega arith) (omega arith)))

    go : (j < k → k < monomial_count → weight_of (exponents_at j) < weight_of (exponents_at k)) → (t : Bool) → eqb j k ≡ t
        → weight_of (exponents_at j) < weight_of (exponents_at (suc k))
    go earlier true e = subst (λ (m : ℕ). weight_of (exponents_at m) < weight_of (exponents_at (suc k))) (sym (eqb-true j k e)) step
    go earlier false e = omega (arith, step, earlier (omega (arith, eqb-false j k e)) (omega arith))

sum_of_four : (es : List ℕ) → length es ≡ 4 → get_or es 0 0 + get_or es 1 0 + get_or es 2 0 + get_or es 3 0 ≡ exponent_sum es
unfolding exponent_sum
sum_of_four [] h = absurd (omega arith)
sum_of_four (a ∷ []) h = absurd (omega arith)
sum_of_four (a ∷ b ∷ []) h = absurd (omega arith)
sum_of_four (a ∷ b ∷ c ∷ []) h = absurd (omega arith)
sum_of_four (a ∷ b ∷ c ∷ d ∷ []) h = omega arith
sum_of_four (a ∷ b ∷ c ∷ d ∷ e ∷ es) h = absurd (omega arith)

-- ---- one term

module _ (n : ℕ) (p : Polynomial) (within : coefficients_within p ≡ true) (b : List ℕ) where
  module _ (i k : ℕ) (low : k < monomial_count) (rest : List ℕ) (stands : drop (8 * i) b ≡ (double_word_bytes (cell p k) ++ exponents_at k) ++ rest) where
    term_weight : exponent_weight b i ≡ weight_of (exponents_at k)
    unfolding exponent_weight weight_of
    term_weight =
        let e = term_exponent p within b i k low rest stands in
        rw (e 0 (omega arith), e 1 (omega arith), e 2 (omega arith), e 3 (omega arith))

    term_degree : degree b i ≡ degree_at k
    unfolding degree degree_at
    term_degree =
        let e = term_exponent p within b i k low rest stands in
        rw (e 0 (omega arith), e 1 (omega arith), e 2 (omega arith), e 3 (omega arith)) (sum_of_four (exponents_at k) (monomial_length k low))

    term_low : low_monomial n k ≡ true → exponents_zero b i n (4 - n) ≡ true
    unfolding exponents_zero low_monomial
    term_low h =
        all_same _ _ n (4 - n) (λ a l u. ap (λ e. eqb e 0) (term_exponent p within b i k low rest stands a (omega arith))) ∙ h

    term_passes : is_zero (cell p k) ≡ false → low_monomial n k ≡ true → term_ok n b i ≡ true
    unfolding term_ok is_zero
    term_passes z h =
        let c = term_coefficient p within b i k low rest stands in
        let few : degree b i ≤ degree_limit = omega (arith, term_degree, monomial_degree k low) in
        rw c (and-true (ap not z) (and-true (le-leb _ _ (cell_within p k within)) (and-true (term_low h) (le-leb _ _ few))))

  -- ---- all terms

  -- the term before term i weighs less than monomial k and all behind it
  abbrev Over : ℕ → ℕ → Type 0
  Over i k = (j : ℕ) → k ≤ j → j < monomial_count → (eqb i 0 || ltb (exponent_weight b (i - 1)) (weight_of (exponents_at j))) ≡ true

  over_next : (i k : ℕ) → exponent_weight b i ≡ weight_of (exponents_at k) → Over (i + 1) (k + 1)
  over_next i k w j l u =
      let before : i + 1 - 1 ≡ i = omega arith in
      rw (ne_eqb (i + 1) 0 (λ e. omega arith), before, w) (lt-ltb _ _ (weights_rise k j (omega arith) u))

  module _ (free : upper_free n p ≡ true) where
    -- the terms of the m monomials from k on pass where they stand from term i on
    abbrev Pass : ℕ → ℕ → ℕ → Type 0
    Pass k m i = drop (8 * i) b ≡ terms_from p k m → Over i k → all_from (λ i. term_ok n b i && rises b i) i (passing (is_term p) k m) ≡ true

    terms_pass : (k m i : ℕ) → k + m ≤ monomial_count → Pass k m i
    unfolding all_from passing rises
    terms_pass k zero i l h o = refl
    terms_pass k (suc m) i l h o = go (λ j. terms_pass (k + 1) m j (omega arith)) (is_zero (cell p k)) refl
      where
        go : ((j : ℕ) → Pass (k + 1) m j) → (t : Bool) → is_zero (cell p k) ≡ t
            → all_from (λ i. term_ok n b i && rises b i) i (passing (is_term p) k (suc m)) ≡ true
        go later true e =
            ap (all_from (λ i. term_ok n b i && rises b i) i) (passing_without p k m e)
            ∙ later i (h ∙ terms_without p k m e) (λ j u w. o j (omega arith) w)
        go later false e =
            let low : k < monomial_count = omega arith in
            let rest : List ℕ = terms_from p (k + 1) m in
            let stands = h ∙ terms_with p k m e in
            let weight = term_weight i k low rest stands in
            ap (all_from (λ i. term_ok n b i && rises b i) i) (passing_with p k m e)
            ∙ and-true (and-true (term_passes i k low rest stands e (free_monomial n p k free low e)) (rw weight (o k (omega arith) low)))
            (later (i + 1) (term_behind p within b i k low rest stands) (over_next i k weight))

pub term_list_ok : (n : ℕ) (p : Polynomial) → coefficients_within p ≡ true → upper_free n p ≡ true → polynomial_ok n (term_list p) ≡ true
unfolding polynomial_ok term_list
term_list_ok n p within free =
    ap (all_from _ 0) (terms_counted p) ∙ terms_pass n p within (term_list p) free 0 monomial_count 0 (omega arith) refl (λ j l u. refl)

-- ---- their number

passing_most : (t u : ℕ → Bool) (k m : ℕ) → ((i : ℕ) → k ≤ i → i < k + m → t i ≡ true → u i ≡ true) → passing t k m ≤ passing u k m
unfolding passing
passing_most t u k zero h = omega arith
passing_most t u k (suc m) h = go (t k) refl (passing_most t u (k + 1) m (λ i l w. h i (omega arith) (omega arith)))
  where
    go : (x : Bool) → t k ≡ x → passing t (k + 1) m ≤ passing u (k + 1) m
        → cond (t k) 1 0 + passing t (k + 1) m ≤ cond (u k) 1 0 + passing u (k + 1) m
    go true e later = rw (e, h k (omega arith) (omega arith) e) (omega arith)
    go false e later = rw e (omega arith)

passing_some : (t : ℕ → Bool) (k m i : ℕ) → k ≤ i → i < k + m → t i ≡ true → 0 < passing t k m
unfolding passing
passing_some t k zero i l u h = absurd (omega arith)
passing_some t k (suc m) i l u h = go (passing_some t (k + 1) m i) (eqb k i) refl
  where
    go : (k + 1 ≤ i → i < k + 1 + m → t i ≡ true → 0 < passing t (k + 1) m) → (x : Bool) → eqb k i ≡ x → 0 < cond (t k) 1 0 + passing t (k + 1) m
    go later true e = let here : t k ≡ true = ap t (eqb-true k i e) ∙ h in rw here (omega arith)
    go later false e = omega (arith, later (omega (arith, eqb-false k i e)) (omega arith) h)

-- the monomials in n letters are as many as the terms of a body may be
low_monomials : (n : ℕ) → dimension_ok n ≡ true → passing (low_monomial n) 0 monomial_count ≡ term_limit n
unfolding passing low_monomial term_limit all_from exponents_at monomials monomial_count exponents_up_to degree_limit flat_map count_from
low_monomials n h =
    let r = dimension_range n h in
    each_tabled (λ m. passing (low_monomial m) 0 monomial_count ≡ term_limit m) refl refl refl n r.low r.high

-- a polynomial that is not zero has a coefficient that is not 0
record Nonzero (p : Polynomial) : Type 0 where
  at : ℕ
  under : at < length p
  term : is_zero (cell p at) ≡ false

nonzero_cell : (p : Polynomial) → every is_zero p ≡ false → Nonzero p
unfolding every cell
nonzero_cell [] h = absurd (true≢false h)
nonzero_cell (x ∷ p) h = go (is_zero x) refl (nonzero_cell p)
  where
    go : (t : Bool) → is_zero x ≡ t → (every is_zero p ≡ false → Nonzero p) → Nonzero (x ∷ p)
    go true e later = let r = later (rw e at h) in record { at = suc r.at; under = omega (arith, r.under); term = r.term }
    go false e later = record { at = 0; under = omega arith; term = e }

module _ (n : ℕ) (p : Polynomial) where
  terms_most : dimension_ok n ≡ true → upper_free n p ≡ true → passing (is_term p) 0 monomial_count ≤ term_limit n
  unfolding is_term
  terms_most d free =
      subst (λ (m : ℕ). passing (is_term p) 0 monomial_count ≤ m) (low_monomials n d)
      (passing_most (is_term p) (low_monomial n) 0 monomial_count (λ k l u t. free_monomial n p k free (omega arith) (not-true _ t)))

  terms_some : length p ≡ monomial_count → every is_zero p ≡ false → 0 < passing (is_term p) 0 monomial_count
  unfolding is_term
  terms_some l h =
      let r = nonzero_cell p h in
      passing_some (is_term p) 0 monomial_count r.at (omega arith) (omega (arith, r.under)) (ap not r.term)

  pub term_list_length_ok : dimension_ok n ≡ true → length p ≡ monomial_count → upper_free n p ≡ true → every is_zero p ≡ false
      → polynomial_length_ok n (length (term_list p)) ≡ true
  unfolding polynomial_length_ok
  term_list_length_ok d l free h =
      let bytes : ℕ = length (term_list p) in
      let is = term_list_length p in
      and-true (eq-eqb (bytes % 8) 0 (omega (arith, is)))
      (and-true (le-leb 8 bytes (omega (arith, is, terms_some l h))) (le-leb bytes (8 * term_limit n) (omega (arith, is, terms_most d free))))
