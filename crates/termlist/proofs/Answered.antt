-- What is answered at each return of the operation.
use Prim.Native.Nat.{ℕ}
use mathlib.Core.Path.{◌≡◌, refl, sym, ap, ◌∙◌}
use mathlib.Core.Bool.{Bool, true, false, cond, true≢false}
use mathlib.Core.List.{List}
use mathlib.Core.Option.{Option, none, some}
use Rattle.curves.specs.Step.{every}
use Rattle.paper.specs.Limits.{dimension_ok}
use Rattle.paper.specs.Job.{refuse_if}
use Rattle.paper.specs.Operations.{refused, answered, unless}
use Rattle.formula.specs.Reader.{Reading, outside, reads, reading_of}
use Rattle.formula.specs.Polynomial.{Polynomial, is_zero}
use Rattle.formula.specs.Meaning.{on_result, unless_zero}
use Rattle.formula.specs.Read.{nesting_limit, is_read, in_language, result_of, polynomial_of, is_none, formula_refusal, terms_of_result, term_list, formula_terms, handed_back}
use Rattle.termbytes.specs.Terms.{answer_of}
use Rattle.paper.specs.Refusals.{refusal_number}
use Rattle.paper.specs.declared.Refusal as Refusal
use Rattle.std.specs.Prelude as Prelude
use Rattle.std.specs.Prelude.{Ok, Err}
use Rattle.std.specs.Option.{ok_or}
use Rattle.formula.specs.Answers.{handed_as}
use Rattle.rows.specs.declared.Polynomial as Held
use Rattle.coefficients.specs.Result.{result_as}
use Rattle.readers.proofs.Steps.{Whole}

pub answers_3 : (n : ℕ) (s : List ℕ) → dimension_ok n ≡ false → formula_terms n s ≡ refused 3
unfolding formula_terms formula_refusal refuse_if unless
answers_3 n s d = rw d refl

pub answers_14 : (n : ℕ) (s : List ℕ) → dimension_ok n ≡ true → in_language n s ≡ false → formula_terms n s ≡ refused 14
unfolding formula_terms formula_refusal refuse_if unless
answers_14 n s d h = rw (d, h) refl

-- behind these two tests
behind : (n : ℕ) (s : List ℕ) (p : Option Polynomial) → dimension_ok n ≡ true → in_language n s ≡ true → polynomial_of n s ≡ p → formula_terms n s ≡ unless (refuse_if (is_none p) 15 0) (terms_of_result p)
unfolding formula_terms formula_refusal
behind n s p d h e = rw (d, h, e) (unfold refuse_if in refl)

pub answers_deep : (n : ℕ) (s : List ℕ) → dimension_ok n ≡ true → in_language n s ≡ true → is_read (reading_of nesting_limit n s) ≡ false → formula_terms n s ≡ refused 15
unfolding polynomial_of result_of is_none refuse_if unless is_read
answers_deep n s d h r = go (reading_of nesting_limit n s) refl r
  where
    go : (x : Reading) → reading_of nesting_limit n s ≡ x → is_read x ≡ false → formula_terms n s ≡ refused 15
    go outside e r = behind n s none d h (ap result_of e)
    go (reads f) e r = absurd (true≢false r)

of_whole : (n : ℕ) (s : List ℕ) (p q : Option Polynomial) → Whole n s p → p ≡ q → polynomial_of n s ≡ on_result unless_zero q
unfolding polynomial_of result_of
of_whole n s p q w e = ap result_of w.reading ∙ ap (on_result unless_zero) (sym w.is ∙ e)

pub answers_limit : (n : ℕ) (s : List ℕ) (p : Option Polynomial) → dimension_ok n ≡ true → in_language n s ≡ true → Whole n s p → p ≡ none → formula_terms n s ≡ refused 15
unfolding on_result is_none refuse_if unless
answers_limit n s p d h w e = behind n s none d h (of_whole n s p none w e)

unless_zero_lem :
    (b : Bool) (cells : Polynomial)
    → unless (refuse_if (is_none (cond b none (some cells))) 15 0) (terms_of_result (cond b none (some cells))) ≡ cond b (refused 15) (answered (term_list cells))
unfolding is_none refuse_if unless terms_of_result
unless_zero_lem true cells = refl
unless_zero_lem false cells = refl

pub answers_terms :
    (n : ℕ) (s : List ℕ) (p : Option Polynomial) (cells : Polynomial) → dimension_ok n ≡ true → in_language n s ≡ true → Whole n s p → p ≡ some cells
    → formula_terms n s ≡ answer_of cells
unfolding on_result unless_zero answer_of
answers_terms n s p cells d h w e =
    behind n s (on_result unless_zero (some cells)) d h (of_whole n s p (some cells) w e) ∙ unless_zero_lem (every is_zero cells) cells

-- ---- a refusal as the code holds it

pub refuses : (e : Refusal.Refusal) → handed_as (Err e) ≡ handed_back (refused (refusal_number e))
unfolding handed_as handed_back
refuses e = refl

-- ---- an inner result as the code holds it, its lack a refusal

pub of_some : (o : Prelude.Option Held.Polynomial) (p : Held.Polynomial) (e : Refusal.Refusal) → Ok p ≡ ok_or o e → result_as o ≡ some p.cells
unfolding result_as
of_some (Prelude.Some q) p e h = let same : q ≡ p = cc in ap (λ (x : Held.Polynomial). some x.cells) same
of_some Prelude.None p e h = absurd cc

pub of_none : (o : Prelude.Option Held.Polynomial) (d e : Refusal.Refusal) → Err d ≡ ok_or o e → (d ≡ e) × (result_as o ≡ none)
unfolding result_as
of_none (Prelude.Some q) d e h = absurd cc
of_none Prelude.None d e h = (cc, refl)
