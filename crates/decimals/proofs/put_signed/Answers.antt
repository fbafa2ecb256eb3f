-- `decimals::put_signed` meets its contract: the sign decides whether a minus stands in front of the size.
use Rattle.std.proofs.Common.{arith}
use Rattle.decimals.proofs.WrittenParts.{writes_then, writes_as}
use Rattle.decimals.proofs.SignedText.{text_under, text_from}
use Rattle.decimals.proofs.put_signed.Goals as goal

pub returns-then-z-lt0 : goal.returns-then-z-lt0
returns-then-z-lt0 c =
    writes_as (text_under c.args.z c.ranges.z c.if-z-lt0.true c.unsigned_abs.ensures.value) (omega arith)
    (writes_then (omega arith) c.put_byte-b.ensures (λ i. c.put_decimal.ensures))

pub returns-else-z-lt0 : goal.returns-else-z-lt0
returns-else-z-lt0 c =
    writes_as (text_from c.args.z c.ranges.z c.if-z-lt0.false c.unsigned_abs-else-z-lt0.ensures.value) (omega arith)
    c.put_decimal-else-z-lt0.ensures
