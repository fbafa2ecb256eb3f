-- `termlist::read_formula` meets its contract.
use mathlib.Core.Path.{sym, ap, ◌∙◌}
use Rattle.std.proofs.lemmas.Result.{err_from_is_err_and}
use Rattle.paper.specs.Refusals.{refusal_number}
use Rattle.formula.specs.Read.{nesting_limit, in_language, handed_back}
use Rattle.readers.proofs.Steps.{sum_whole, read_whole}
use Rattle.termlist.proofs.Answered.{answers_3, answers_14, answers_deep, answers_limit, answers_terms, refuses, of_some, of_none}
use Rattle.termlist.proofs.read_formula.Goals as goal

pub returns-then-not-dimension_ok : goal.returns-then-not-dimension_ok
unfolding refusal_number
returns-then-not-dimension_ok c = refuses _ ∙ ap handed_back (sym (answers_3 _ _ (sym c.dimension_ok.ensures ∙ c.if-not-dimension_ok.true)))

pub returns-then-not-passes : goal.returns-then-not-passes
unfolding in_language refusal_number
returns-then-not-passes c =
    refuses _
    ∙ ap handed_back (sym (answers_14 _ _ (sym c.dimension_ok.ensures ∙ c.if-not-dimension_ok.false) (sym c.passes.ensures ∙ c.if-not-passes.true)))

pub returns-then-not-passes-2 : goal.returns-then-not-passes-2
unfolding in_language nesting_limit refusal_number
returns-then-not-passes-2 c =
    refuses _
    ∙ ap handed_back (sym (answers_deep _ _ (sym c.dimension_ok.ensures ∙ c.if-not-dimension_ok.false) (sym c.passes.ensures ∙ c.if-not-passes.false) (sym c.passes-2.ensures ∙ c.if-not-passes-2.true)))

pub read_sum-sum-requires : goal.read_sum-sum-requires
unfolding nesting_limit
read_sum-sum-requires c = sum_whole _ _ (sym c.passes-2.ensures ∙ c.if-not-passes-2.false)

pub returns-in_err-result : goal.returns-in_err-result
unfolding in_language nesting_limit refusal_number
returns-in_err-result c =
    let p = err_from_is_err_and c.from_residual.result c.from_residual.ensures.1 in
    let e = of_none _ _ _ c.in_err-result.ensures.value in
    rw (p.1, p.2, e.0)
    (refuses _
    ∙ ap handed_back (sym (answers_limit _ _ _ (sym c.dimension_ok.ensures ∙ c.if-not-dimension_ok.false) (sym c.passes.ensures ∙ c.if-not-passes.false)
    (read_whole _ _ _ _ (sym c.passes-2.ensures ∙ c.if-not-passes-2.false) c.read_sum-sum.ensures) e.1)))

pub returns : goal.returns
unfolding in_language nesting_limit
returns c =
    c.terms_of.ensures
    ∙ ap handed_back (sym (answers_terms _ _ _ _ (sym c.dimension_ok.ensures ∙ c.if-not-dimension_ok.false) (sym c.passes.ensures ∙ c.if-not-passes.false)
    (read_whole _ _ _ _ (sym c.passes-2.ensures ∙ c.if-not-passes-2.false) c.read_sum-sum.ensures) (of_some _ _ _ c.in_ok-result.ensures.value)))
