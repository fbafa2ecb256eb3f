-- `sides::facet::facet_masks` meets its contract: the row's masks are read as digits.
use mathlib.Core.Path.{ap, ◌∙◌}
use borrow.Author.Rules.{rules}
use Rattle.table.specs.Table.{order_at, vertex_mask}
use Rattle.sides.proofs.facet.facet_masks.Goals as goal

pub returns : goal.returns
returns c =
    let digits = c.vertex_masks-masks.ensures in
    c.masks_from.ensures c.args.n c.args.row c.requires.0 digits c.requires.1
    (c.digit.ensures ∙ digits.at c.skip.result (search rules) ∙ ap (vertex_mask (order_at c.args.n c.args.row)) c.skip.ensures.0)
