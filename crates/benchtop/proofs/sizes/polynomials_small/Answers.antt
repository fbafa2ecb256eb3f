-- `benchtop::sizes::polynomials_small` meets its contract.
use Rattle.std.proofs.Common.{rules, ◌-◌, refl, ◌∙◌}
use Rattle.std.proofs.lemmas.Iterator.{YieldsList-from_range}
use Rattle.std.proofs.lemmas.Iterator.Search.{all_from_yields_List}
use borrow.Author.Tests.{tests}
use Rattle.bits.proofs.RangeAll.{all_range}
use Rattle.small.specs.Small.{terms_small, small_term_limit}
use Rattle.benchtop.proofs.sizes.polynomials_small.Goals as goal

pub returns : goal.returns
unfolding terms_small small_term_limit
returns c =
    all_from_yields_List (terms_small c.args.job.bytes.now) _ _ _ c.all.ensures.ran (YieldsList-from_range 1 c.args.job.n (c.args.job.n - 1) refl refl)
    (λ x b q k. search (rules, tests))
    ∙ all_range _ 1 (c.args.job.n - 1)
