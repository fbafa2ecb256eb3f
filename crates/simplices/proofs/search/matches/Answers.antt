-- `simplices::search::matches` meets its contract: the masks first, then the side.
use mathlib.Core.Path.{◌∙◌}
use Rattle.simplices.proofs.Matches.{matches_by_side, other_masks}
use Rattle.simplices.proofs.search.matches.Goals as goal

pub returns-then-same_masks : goal.returns-then-same_masks
returns-then-same_masks c =
    matches_by_side c.args.n c.args.row c.args.out c.args.p c.same_masks.ensures c.if-same_masks.true c.side.ensures

pub returns-else-same_masks : goal.returns-else-same_masks
returns-else-same_masks c =
    c.if-same_masks.false ∙ other_masks c.args.n c.args.row c.args.out c.args.p c.same_masks.ensures c.if-same_masks.false
