-- What an answer means, in the request's words, follows from the answer; and each refusal is given exactly if its ground is there.
use Prim.Native.Nat.{ℕ, ◌≤◌, ◌<◌}
use native.Mathlib.Omega.{arith}
use mathlib.Core.Path.{◌≡◌, refl, sym, ap, subst, ◌∙◌}
use mathlib.Core.Bool.{Bool, true, false, not, true≢false, false≢true}
use mathlib.Core.Logic.{◌↔◌}
use mathlib.Core.List.{List}
use mathlib.Core.Option.{Option, none, some}
use lib.Dec.{leb, lit<}
use borrow.Author.Tests.{not-false, leb-true, leb-false}
use Rattle.curves.specs.Step.{every}
use Rattle.paper.specs.Limits.{dimension_ok}
use Rattle.paper.specs.Job.{refuse_if}
use Rattle.paper.specs.Operations.{answered}
use Rattle.paper.proofs.Tests.{dimension_range}
use Rattle.paper.proofs.Refusals.{not_refused, refuse_here, refuse_later, answered_inv}
use Rattle.formula.specs.Grammar.{Formula, nesting, sum, Text}
use Rattle.formula.specs.Reader.{Reading, outside, reads, reading_of}
use Rattle.formula.specs.Polynomial.{Polynomial, is_zero}
use Rattle.formula.specs.Meaning.{evaluate, on_result, unless_zero}
use Rattle.formula.specs.Read.{term_list, nesting_limit, in_language, result_of, polynomial_of, is_none, formula_refusal, terms_of_result, formula_terms}
use Rattle.formula.specs.FormulaDemand.{FormulaDemand, TurnedDown, too_deep, over_limit, zero_result}
use Rattle.formula.specs.FormulaDemand.{FormulaNumber, no_refusal, by_dimension, by_language, by_limits}
use Rattle.formula.proofs.Sizes.{evaluated_kept}
use Rattle.formula.proofs.Letters.{letters_under_lem}
use Rattle.formula.proofs.Complete.{formula_read}
use Rattle.formula.proofs.Sound.{read_formula, read_nesting}
use Rattle.formula.proofs.Exactly.{one_reading, inside_exactly, outside_exactly, too_deep_exactly}
use Rattle.formula.proofs.Meant.{meant}
use Rattle.formula.proofs.TermSum.{term_list_sum}
use Rattle.formula.proofs.UpperLetters.{evaluated_upper}
use Rattle.formula.proofs.TermsOk.{term_list_ok, term_list_length_ok}

-- ---- the result of a reading

-- what a result comes from
record Result (r : Reading) : Type 0 where
  reading : Formula
  polynomial : Polynomial
  read : r ≡ reads reading
  result : evaluate reading ≡ some polynomial
  nonzero : every is_zero polynomial ≡ false
  given : result_of r ≡ some polynomial

result_of_lem : (r : Reading) → is_none (result_of r) ≡ false → Result r
unfolding result_of is_none on_result unless_zero
result_of_lem outside h = absurd (true≢false h)
result_of_lem (reads f) h = evaluated (evaluate f) refl
  where
    tested : (p : Polynomial) → evaluate f ≡ some p → (t : Bool) → every is_zero p ≡ t → Result (reads f)
    tested p e true z = absurd (true≢false (rw (e, z) at h))
    tested p e false z = record { reading = f; polynomial = p; read = refl; result = e; nonzero = z; given = rw (e, z) }

    evaluated : (x : Option Polynomial) → evaluate f ≡ x → Result (reads f)
    evaluated none e = absurd (true≢false (rw e at h))
    evaluated (some p) e = tested p e (every is_zero p) refl

-- ---- an answer

module _ (n : ℕ) (s : List ℕ) where
  demand : dimension_ok n ≡ true → (r : Result (reading_of nesting_limit n s)) → FormulaDemand n s (term_list r.polynomial)
  demand d r =
      let f : Formula = r.reading in
      let p : Polynomial = r.polynomial in
      let t = read_formula nesting_limit n s r.read in
      let kept = evaluated_kept f r.result in
      let free = evaluated_upper n f (letters_under_lem t) r.result in
      let high = (dimension_range n d).high in
      record {
        dimensions = d;
        reading = f;
        text = t;
        one_reading = λ g w. one_reading w t;
        nested = read_nesting nesting_limit n s r.read;
        polynomial = p;
        result = r.result;
        nonzero = r.nonzero;
        terms = refl;
        body_length = term_list_length_ok n p d kept.0 free r.nonzero;
        body_terms = term_list_ok n p kept.1 free;
        meant = λ v l. term_list_sum p kept.1 v (omega arith) ∙ meant n v high l f (letters_under_lem t) r.result;
      }

pub formula_demand : (n : ℕ) (s b : List ℕ) → formula_terms n s ≡ answered b → FormulaDemand n s b
unfolding formula_terms formula_refusal polynomial_of terms_of_result
formula_demand n s b h =
    let a = answered_inv (formula_refusal n s) (terms_of_result (polynomial_of n s)) b h in
    let r3 = not_refused _ 3 _ (lit< tt) a.none in
    let r14 = not_refused _ 14 _ (lit< tt) r3.next in
    let r15 = not_refused _ 15 _ (lit< tt) r14.next in
    let r = result_of_lem (reading_of nesting_limit n s) r15.test in
    subst (FormulaDemand n s) (ap terms_of_result (sym r.given) ∙ a.is) (demand n s (not-false (dimension_ok n) r3.test) r)

-- ---- refusals

not_3 : (t u : Bool) → refuse_if t 14 (refuse_if u 15 0) ≡ 3 → ⊥
unfolding refuse_if
not_3 true u h = omega arith
not_3 false true h = omega arith
not_3 false false h = omega arith

not_14 : (t : Bool) → refuse_if t 15 0 ≡ 14 → ⊥
unfolding refuse_if
not_14 true h = omega arith
not_14 false h = omega arith

by_15 : (t : Bool) → refuse_if t 15 0 ≡ 15 → t ≡ true
unfolding refuse_if
by_15 true h = refl
by_15 false h = absurd (omega arith)

number_of : (t u w : Bool) → FormulaNumber (refuse_if t 3 (refuse_if u 14 (refuse_if w 15 0)))
unfolding refuse_if
number_of true u w = by_dimension refl
number_of false true w = by_language refl
number_of false false true = by_limits refl
number_of false false false = no_refusal refl

-- a reading has no result exactly if an inner result breaks a limit or the final result is zero
no_result : (f : Formula) → is_none (on_result unless_zero (evaluate f)) ≡ true → TurnedDown f
unfolding is_none on_result unless_zero
no_result f h = evaluated (evaluate f) refl
  where
    tested : (p : Polynomial) → evaluate f ≡ some p → (t : Bool) → every is_zero p ≡ t → TurnedDown f
    tested p e true z = zero_result p e z
    tested p e false z = absurd (false≢true (rw (e, z) at h))

    evaluated : (x : Option Polynomial) → evaluate f ≡ x → TurnedDown f
    evaluated none e = over_limit e
    evaluated (some p) e = tested p e (every is_zero p) refl

turned_down : (f : Formula) → nesting f ≤ nesting_limit → TurnedDown f → is_none (on_result unless_zero (evaluate f)) ≡ true
unfolding is_none on_result unless_zero
turned_down f l (too_deep h) = absurd (omega arith)
turned_down f l (over_limit h) = rw h
turned_down f l (zero_result p h z) = rw (h, z)

module _ (n : ℕ) (s : List ℕ) where
  -- no other number
  pub formula_number : FormulaNumber (formula_refusal n s)
  unfolding formula_refusal
  formula_number = number_of (not (dimension_ok n)) (not (in_language n s)) (is_none (polynomial_of n s))

  -- behind the test of the dimension, and behind that of the language
  behind_3 : dimension_ok n ≡ true → formula_refusal n s ≡ refuse_if (not (in_language n s)) 14 (refuse_if (is_none (polynomial_of n s)) 15 0)
  unfolding formula_refusal
  behind_3 d = refuse_later 3 _ (ap not d)

  behind_14 : dimension_ok n ≡ true → in_language n s ≡ true → formula_refusal n s ≡ refuse_if (is_none (polynomial_of n s)) 15 0
  behind_14 d h = behind_3 d ∙ refuse_later 14 _ (ap not h)

  -- 3 exactly for another dimension
  pub refused_3 : (formula_refusal n s ≡ 3) ↔ (dimension_ok n ≡ false)
  unfolding formula_refusal
  refused_3 = (λ h. go h (dimension_ok n) refl, λ h. refuse_here 3 _ (ap not h))
    where
      go : formula_refusal n s ≡ 3 → (t : Bool) → dimension_ok n ≡ t → dimension_ok n ≡ false
      go h false e = e
      go h true e = absurd (not_3 (not (in_language n s)) (is_none (polynomial_of n s)) (sym (behind_3 e) ∙ h))

  module _ (d : dimension_ok n ≡ true) where
    -- then 14 exactly for a text outside the language
    pub refused_14 : (formula_refusal n s ≡ 14) ↔ ((f : Formula) → Text n sum f s → ⊥)
    refused_14 =
        (λ h. (outside_exactly n s).0 (go h (in_language n s) refl), λ h. behind_3 d ∙ refuse_here 14 _ (ap not ((outside_exactly n s).1 h)))
      where
        go : formula_refusal n s ≡ 14 → (t : Bool) → in_language n s ≡ t → in_language n s ≡ false
        go h false e = e
        go h true e = absurd (not_14 (is_none (polynomial_of n s)) (sym (behind_14 d e) ∙ h))

    module _ (f : Formula) (t : Text n sum f s) where
      inside : in_language n s ≡ true
      inside = (inside_exactly n s).1 (record { formula = f; text = t })

      deep_result : nesting_limit < nesting f → is_none (polynomial_of n s) ≡ true
      unfolding polynomial_of result_of is_none
      deep_result h = rw ((too_deep_exactly nesting_limit t).1 h)

      read_result : nesting f ≤ nesting_limit → is_none (polynomial_of n s) ≡ is_none (on_result unless_zero (evaluate f))
      unfolding polynomial_of result_of
      read_result h = rw (formula_read nesting_limit t h)

      -- then 15 exactly for a text that nests too deep, breaks a limit at an inner result or ends in zero
      pub refused_15 : (formula_refusal n s ≡ 15) ↔ TurnedDown f
      refused_15 = (
        λ h. ground h (leb (nesting f) nesting_limit) refl,
        λ g. behind_14 d inside ∙ refuse_here 15 0 (refuses g (leb (nesting f) nesting_limit) refl),
      )
        where
          ground : formula_refusal n s ≡ 15 → (b : Bool) → leb (nesting f) nesting_limit ≡ b → TurnedDown f
          ground h true e =
              let none : is_none (polynomial_of n s) ≡ true = by_15 _ (sym (behind_14 d inside) ∙ h) in
              no_result f (sym (read_result (leb-true (nesting f) nesting_limit e)) ∙ none)
          ground h false e = too_deep (leb-false (nesting f) nesting_limit e)

          refuses : TurnedDown f → (b : Bool) → leb (nesting f) nesting_limit ≡ b → is_none (polynomial_of n s) ≡ true
          refuses g true e = let l = leb-true (nesting f) nesting_limit e in read_result l ∙ turned_down f l g
          refuses g false e = deep_result (leb-false (nesting f) nesting_limit e)
