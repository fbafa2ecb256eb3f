-- `terms::exponents_ok` meets its contract.
use Rattle.std.proofs.Common.{◌≡◌, ◌∙◌, sym, ◌||◌, slice_index, refl}
use Rattle.std.proofs.lemmas.Iterator.{YieldsList-from_range}
use Rattle.std.proofs.lemmas.Iterator.Search.{all_from_yields_List}
use lib.Dec.{ltb, eqb}
use borrow.Author.Tests.{tests}
use borrow.Author.Rules.{rules}
use Rattle.paper.specs.Limits.{degree_limit}
use Rattle.paper.specs.Job.{all_from}
use Rattle.bits.proofs.RangeAll.{all_range}
use Rattle.terms.specs.Carried.{exponents_ok}
use Rattle.terms.proofs.exponents_ok.Goals as goal
use Rattle.terms.proofs.exponents_ok.Goals.{After-all}

upper : (c : After-all) → c.all.result ≡ all_from (λ a. ltb a c.args.n || eqb (slice_index c.args.exponents a) 0) 0 4
upper c =
    all_from_yields_List (λ a. ltb a c.args.n || eqb (slice_index c.args.exponents a) 0) _ _ _ c.all.ensures.ran
    (YieldsList-from_range 0 4 4 refl refl) (λ x b q k. search (rules, tests))
    ∙ all_range _ 0 4

pub returns-then-all : goal.returns-then-all
unfolding exponents_ok degree_limit
returns-then-all c = rw (sym (upper (goal.at.returns-then-all c).After-all) ∙ c.if-all.true, c.degree.ensures)

pub returns-else-all : goal.returns-else-all
unfolding exponents_ok
returns-else-all c = rw (sym (upper (goal.at.returns-else-all c).After-all) ∙ c.if-all.false) c.if-all.false
