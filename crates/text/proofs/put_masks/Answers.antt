-- `text::put_masks` meets its contract: one mask more at each turn.
use Rattle.std.proofs.Common.{arith}
use Rattle.paper.specs.Listing.{blank_numbers}
use Rattle.decimals.proofs.WrittenParts.{writes_nothing, writes_then, writes_as}
use Rattle.text.proofs.LineParts.{one_mask_more}
use Rattle.text.proofs.put_masks.Goals as goal

pub loop-mask-init : goal.loop-mask-init
unfolding blank_numbers
loop-mask-init c = writes_nothing c.args.buffer.now c.args.at

pub loop-mask-preserved : goal.loop-mask-preserved
loop-mask-preserved c =
    writes_as (one_mask_more c.args.masks.now c.loop-mask.mask-index c.loop-mask-test.true) (omega arith)
    (writes_then (omega (arith, c.requires)) c.loop-mask.invariant (λ i. c.put_mask-end.ensures))
