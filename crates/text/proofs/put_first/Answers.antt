-- `text::put_first` meets its contract: n, a blank, the verdict, a blank, the count, the line's end.
use mathlib.Core.Path.{refl}
use native.Mathlib.Omega.{arith}
use Rattle.paper.specs.Listing.{first_line}
use Rattle.decimals.proofs.WrittenParts.{writes_then, writes_as}
use Rattle.text.proofs.put_first.Goals as goal

pub returns : goal.returns
unfolding first_line
returns c =
    writes_as refl (omega arith)
    (writes_then (omega arith) c.put_decimal-a.ensures
    (λ i. writes_then i c.put_byte-b.ensures
    (λ i. writes_then i c.put_verdict-c.ensures
    (λ i. writes_then i c.put_byte-d.ensures
    (λ i. writes_then i c.put_decimal-e.ensures
    (λ i. c.put_byte.ensures))))))
