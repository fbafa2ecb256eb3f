-- `text::put_numbers` meets its contract: one number more at each turn.
use Rattle.std.proofs.Common.{arith, get_or}
use Rattle.exact.specs.Int.{0ℤ}
use mir.Syntax.{w64}
use mir.Val.{SFits}
use Rattle.paper.specs.Listing.{blank_numbers}
use Rattle.decimals.proofs.WrittenParts.{writes_nothing, writes_then, writes_as}
use Rattle.text.proofs.LineParts.{one_more}
use Rattle.text.proofs.put_numbers.Goals as goal

pub loop-z-init : goal.loop-z-init
unfolding blank_numbers
loop-z-init c = writes_nothing c.args.buffer.now c.args.at

pub loop-z-preserved : goal.loop-z-preserved
loop-z-preserved c =
    let fits : SFits w64 (get_or c.args.numbers.now c.loop-z.z-index 0ℤ) = record { sfits = omega arith } in
    writes_as (one_more c.args.numbers.now c.loop-z.z-index fits c.loop-z-test.true) (omega arith)
    (writes_then (omega (arith, c.requires)) c.loop-z.invariant (λ i. c.put_next-end.ensures))
