-- `deciding::deciding_power` meets its contract: the first power whose coefficient is not 0.
use Rattle.std.proofs.Common.{rules, ◌≡◌, ◌≢◌, ◌∙◌}
use borrow.Author.Tests.{tests}
use Rattle.std.proofs.lemmas.Iterator.{first_from_Range}
use Rattle.exact.specs.Int.{0ℤ}
use Rattle.exact.specs.Crossed.{coefficient}
use Rattle.determinants.specs.Cells.{facet_columns}
use Rattle.deciding.proofs.Powers.{power_found}
use Rattle.deciding.proofs.deciding_power.Goals as goal

pub returns : goal.returns
returns c =
    let cs = facet_columns c.args.n c.args.cells.now c.args.n in
    c.unwrap_or.ensures
    ∙ power_found c.args.n cs c.args.i c.find.result
    (first_from_Range _ _ _ _ (λ j. coefficient c.args.n cs c.args.i j ≢ 0ℤ) (λ j. coefficient c.args.n cs c.args.i j ≡ 0ℤ) c.find.ensures.ran
    (λ j q e. search (rules, tests)) (λ j q e. search (rules, tests)))
