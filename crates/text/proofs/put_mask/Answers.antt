-- `text::put_mask` meets its contract: a blank, then the number.
use native.Mathlib.Omega.{arith}
use Rattle.decimals.proofs.WrittenParts.{writes_then, writes_as}
use Rattle.text.proofs.LineParts.{blank_mask}
use Rattle.text.proofs.put_mask.Goals as goal

pub returns : goal.returns
returns c =
    writes_as (blank_mask _) (omega arith)
    (writes_then (omega arith) c.put_byte-a.ensures (λ i. c.put_decimal.ensures))
