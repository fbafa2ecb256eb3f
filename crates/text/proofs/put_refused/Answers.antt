-- `text::put_refused` meets its contract: the word, a blank, the number, the line's end.
use mathlib.Core.Path.{refl}
use native.Mathlib.Omega.{arith}
use Rattle.paper.specs.Listing.{refused_line}
use Rattle.decimals.proofs.WrittenParts.{writes_then, writes_as}
use Rattle.text.proofs.put_refused.Goals as goal

pub returns : goal.returns
unfolding refused_line
returns c =
    writes_as refl (omega arith)
    (writes_then (omega arith) c.put_word-a.ensures (λ i. writes_then i c.put_decimal-b.ensures (λ i. c.put_byte.ensures)))
