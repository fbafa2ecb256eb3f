-- `text::put_masks` meets its contract. The invariant: the masks so far stand from `at` on.
use Rattle.std.proofs.Common.{◌*◌, take, map, pos}
use Rattle.paper.specs.Listing.{blank_numbers}
use Rattle.decimals.specs.Written.{Writes}
use Rattle.text.proofs.put_masks.Given as goal

abbrev pub invariant-loop-mask : goal.invariant-loop-mask
invariant-loop-mask l = Writes (21 * l.mask-index) (blank_numbers (map pos (take l.mask-index l.masks))) l.at l.initial.buffer l.buffer l.end
