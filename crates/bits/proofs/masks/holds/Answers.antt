-- `bits::masks::holds` meets its contract: a mask holds another if `&` leaves the other whole (`holds_and`).
use Rattle.bits.proofs.MaskBits.{holds_and}
use Rattle.bits.proofs.masks.holds.Goals as goal

pub returns : goal.returns
returns c n h = holds_and n c.args.m c.args.l h
