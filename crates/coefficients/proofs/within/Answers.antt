-- `coefficients::within` meets its contract.
use Rattle.std.proofs.Common.{◌≡◌, ◌∙◌, sym, rules, tests, leb, nat_abs}
use Rattle.std.proofs.lemmas.Iterator.{YieldsList-from_slice}
use Rattle.std.proofs.lemmas.Iterator.Search.{all_from_yields_List}
use Rattle.paper.specs.Limits.{coefficient_limit}
use Rattle.formula.specs.Polynomial.{coefficients_within, within, monomial_count}
use Rattle.coefficients.specs.Result.{result_as}
use Rattle.coefficients.proofs.Limits.{all_is_every}
use Rattle.coefficients.proofs.within.Goals as goal
use Rattle.coefficients.proofs.within.Goals.{After-all}

tested : (c : After-all) → c.all.result ≡ coefficients_within c.args.cells
unfolding coefficients_within coefficient_limit
tested c =
    all_from_yields_List (λ x. leb (nat_abs x) 1048576) _ _ c.all.result c.all.ensures.ran (YieldsList-from_slice c.args.cells cc) (λ x b q k. search (rules, tests))
    ∙ all_is_every (λ x. leb (nat_abs x) 1048576) c.args.cells

pub invariant_of-result : goal.invariant_of-result
unfolding monomial_count
invariant_of-result c = record { kept = (search rules, sym (tested (goal.at.invariant_of-result c).After-all) ∙ c.if-all.true) }

pub returns-then-all : goal.returns-then-all
unfolding within result_as
returns-then-all c = rw (sym (tested (goal.at.returns-then-all c).After-all) ∙ c.if-all.true)

pub returns-else-all : goal.returns-else-all
unfolding within result_as
returns-else-all c = rw (sym (tested (goal.at.returns-else-all c).After-all) ∙ c.if-all.false)
