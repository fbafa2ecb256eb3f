-- `sides::facet::masks_from` meets its contract: a mask is a difference of digits of the row's masks.
use Rattle.sides.proofs.FacetMasks.{masks_of_digits}
use Rattle.sides.proofs.facet.masks_from.Goals as goal

pub returns : goal.returns
returns c n row t digits l base =
    masks_of_digits n row c.args.out t l digits base c.mask_from.ensures c.mask_from-2.ensures c.mask_from-3.ensures
