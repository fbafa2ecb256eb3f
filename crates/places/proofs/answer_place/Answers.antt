-- `places::answer_place` meets its contract: the numbers that count, and 0 behind them.
use Rattle.std.proofs.Common.{◌-◌, ◌≤◌, arith}
use Rattle.exact.specs.Int.{0ℤ}
use Rattle.paper.specs.Answers.{placed_as, padded_place}
use Rattle.places.specs.Held.{vertex_as, masks_as, facet_as, place_as}
use Rattle.places.proofs.PlaceAnswered.{padded_taken}
use Rattle.places.proofs.answer_place.Goals as goal

pub returns : goal.returns
unfolding placed_as padded_place place_as facet_as vertex_as masks_as
returns c =
    let low = padded_taken 0ℤ 4 c.args.n c.args.p.low.coordinates c.copy_from_slice.ensures.after c.copy_from_slice.auto.self c.requires.high in
    let fewer : c.args.n - 1 ≤ 3 = omega (arith, c.requires.high) in
    let masks = padded_taken 0 3 (c.args.n - 1) c.args.p.masks c.copy_from_slice-2.ensures.after c.copy_from_slice-2.auto.self fewer in
    λ i. record { facet = record { low = low i; masks = masks i }; side = c.args.p.side }
