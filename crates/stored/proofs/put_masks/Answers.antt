-- `stored::put_masks` meets its contract: one mask more at each turn, as far as they count.
use Rattle.std.proofs.Common.{◌-◌, ◌+◌, ◌∙◌, sym, ap, arith, take, set}
use Rattle.std.proofs.lemmas.Grind.{common_steps}
use Rattle.std.proofs.lemmas.List.{take_all, get_or-take}
use lib.Seq.{sets}
use Rattle.places.specs.Held.{masks_as}
use Rattle.places.proofs.PlaceStored.{mask_small, masks_length}
use Rattle.stored.proofs.put_masks.Goals as goal
use Rattle.stored.proofs.put_masks.Goals.{then-k-masks, else-k-masks}

pub put_byte-requires : goal.put_byte-requires
put_byte-requires c =
    (mask_small c.args.n c.args.p c.requires.0 c.requires.1.0 c.loop-k.k c.if-k-masks.true, omega (arith, c.requires.1.1))

pub loop-k-preserved : goal.loop-k-preserved
unfolding masks_as
loop-k-preserved c =
    let k = c.loop-k.k in
    let ms = take (c.args.n - 1) c.args.p.masks in
    let count = masks_length c.args.p c.args.n c.requires.0 (omega arith) in
    elim c.if-k-masks.branch [
      | then-k-masks w ↦
          w.buffer-is ∙ w.put_byte.ensures
          ∙ ap (set c.loop-k.buffer (c.args.at + k)) (sym (get_or-take (c.args.n - 1) c.args.p.masks k 0 w.if-k-masks.true))
          ∙ grind (arith, common_steps, c.loop-k.invariant, count)
      | else-k-masks w ↦
          w.buffer-is ∙ c.loop-k.invariant
          ∙ ap (sets c.args.buffer.now c.args.at)
          (take_all k ms (omega (arith, count, w.if-k-masks.false)) ∙ sym (take_all (k + 1) ms (omega (arith, count, w.if-k-masks.false))))
    ]

pub returns : goal.returns
returns c =
    let count = masks_length c.args.p c.args.n c.requires.0 (omega arith) in
    c.loop-k.invariant
    ∙ ap (sets c.args.buffer.now c.args.at) (take_all c.loop-k.k (masks_as c.args.n c.args.p) (omega (arith, count, c.requires.0.high)))
