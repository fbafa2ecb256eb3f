-- `facets::sign_of` meets its contract.
use Rattle.facets.proofs.SignOrder.{compared_with_zero}
use Rattle.facets.proofs.sign_of.Goals as goal

pub returns : goal.returns
returns c = compared_with_zero c.args.x c.ranges.x c.cmp.ensures
