-- `text::put_next` meets its contract: a blank, then the number.
use mathlib.Core.Path.{ap, ◌∙◌}
use mathlib.Core.List.{◌∷◌}
use native.Mathlib.Omega.{arith}
use lib.IntN.{ℤ}
use Rattle.paper.specs.Listing.{signed_decimal}
use Rattle.decimals.proofs.WrittenParts.{writes_then, writes_as}
use Rattle.bits.proofs.SignedBits.{bits_are}
use Rattle.text.proofs.LineParts.{blank_number}
use Rattle.text.proofs.put_next.Goals as goal

pub returns : goal.returns
returns c =
    writes_as (ap (λ (x : ℤ). 32 ∷ signed_decimal x) (bits_are c.ranges.z) ∙ blank_number c.args.z) (omega arith)
    (writes_then (omega arith) c.put_byte-a.ensures (λ i. c.put_signed.ensures))
