-- `text::put_place` meets its contract: the parts of a place's line, one behind the other.
use Rattle.std.proofs.Common.{◌-◌, ◌<◌, arith, length, drop, get_or, length-take}
use mir.Syntax.{w64}
use mir.Val.{SFits}
use Rattle.exact.specs.Int.{0ℤ}
use Rattle.decimals.proofs.WrittenParts.{writes_then, writes_as}
use Rattle.text.proofs.LineParts.{place_text}
use Rattle.text.proofs.put_place.Goals as goal

pub returns : goal.returns
returns c =
    let few = c.args.n - 1 in
    let low = length-take few (drop 1 c.args.p.low.coordinates) in
    let masks = length-take few c.args.p.masks in
    let point = length-take c.args.n c.args.q.steps in
    let some : 0 < length c.args.p.low.coordinates = omega arith in
    let fits : SFits w64 (get_or c.args.p.low.coordinates 0 0ℤ) = record { sfits = omega arith } in
    writes_as (place_text c.args.n c.args.p _ (omega (arith, c.requires.0.low)) some fits)
    (omega (arith, c.requires.0.high, low, masks, point))
    (writes_then (omega (arith, c.requires.1)) c.put_signed-a.ensures
    (λ i. writes_then i c.put_numbers-b.ensures
    (λ i. writes_then i c.put_masks-c.ensures
    (λ i. writes_then i c.put_numbers-d.ensures
    (λ i. c.put_byte.ensures)))))
