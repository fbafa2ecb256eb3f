-- `seams::lines::put_first` meets its contract: n, a blank, the extent, a blank, the count, the line's end.
use mathlib.Core.Path.{refl}
use native.Mathlib.Omega.{arith}
use Rattle.decimals.proofs.WrittenParts.{writes_then, writes_as}
use Rattle.seamlist.specs.SeamText.{seams_first_line}
use Rattle.seams.proofs.lines.put_first.Goals as goal

pub returns : goal.returns
unfolding seams_first_line
returns c =
    writes_as refl (omega arith)
    (writes_then (omega arith) c.put_decimal-a.ensures
    (λ i. writes_then i c.put_byte-b.ensures
    (λ i. writes_then i c.put_extent-c.ensures
    (λ i. writes_then i c.put_byte-d.ensures
    (λ i. writes_then i c.put_decimal-e.ensures
    (λ i. c.put_byte.ensures))))))
