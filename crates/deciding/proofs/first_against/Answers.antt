-- `deciding::first_against` meets its contract: the first vertex that is against D.
use Rattle.std.proofs.Common.{rules, ◌≡◌, sym}
use borrow.Author.Tests.{tests}
use Rattle.std.proofs.lemmas.Iterator.{first_from_Range}
use Rattle.exact.specs.Sign.{sign}
use Rattle.exact.specs.Crossed.{coefficient}
use Rattle.grounds.specs.Ground.{deciding_power}
use Rattle.determinants.specs.Cells.{facet_columns}
use Rattle.facets.specs.Signs.{sign_as}
use Rattle.deciding.proofs.Powers.{vertex_found}
use Rattle.deciding.proofs.first_against.Goals as goal

pub returns : goal.returns
returns c =
    let cs = facet_columns c.args.n c.args.cells.now c.args.n in
    vertex_found c.args.n cs c.requires.n_nonzero (sym c.requires.side_value) c.find.result
    (first_from_Range _ _ _ _
    (λ i. sign (coefficient c.args.n cs i (deciding_power c.args.n cs i)) ≡ sign_as c.args.side → ⊥)
    (λ i. sign (coefficient c.args.n cs i (deciding_power c.args.n cs i)) ≡ sign_as c.args.side)
    c.find.ensures.ran (λ i q e. search (rules, tests)) (λ i q e. search (rules, tests)))
