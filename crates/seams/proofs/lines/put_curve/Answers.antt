-- `seams::lines::put_curve` meets its contract: the parts of a seam's line, one behind the other.
use Rattle.std.proofs.Common.{◌-◌, ◌<◌, arith, length, drop, get_or, length-take}
use mir.Syntax.{w64}
use mir.Val.{SFits}
use Rattle.exact.specs.Int.{0ℤ}
use Rattle.paper.specs.Answers.{verdict_as}
use Rattle.decimals.proofs.WrittenParts.{writes_then, writes_as}
use Rattle.seams.proofs.CurveText.{curve_text}
use Rattle.seams.proofs.lines.put_curve.Goals as goal

pub returns : goal.returns
returns c =
    let a = c.args in
    let few = a.n - 1 in
    let low = length-take few (drop 1 a.p.low.coordinates) in
    let masks = length-take few a.p.masks in
    let some : 0 < length a.p.low.coordinates = omega arith in
    let fits : SFits w64 (get_or a.p.low.coordinates 0 0ℤ) = record { sfits = omega arith } in
    writes_as (curve_text a.n a.p (verdict_as a.found.verdict) a.found.count (omega (arith, c.requires.0.low)) some fits)
    (omega (arith, c.requires.0.high, low, masks))
    (writes_then (omega (arith, c.requires.1)) c.put_signed-a.ensures
    (λ i. writes_then i c.put_numbers-b.ensures
    (λ i. writes_then i c.put_masks-c.ensures
    (λ i. writes_then i c.put_byte-d.ensures
    (λ i. c.put_first.ensures)))))
