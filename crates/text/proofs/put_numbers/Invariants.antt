-- `text::put_numbers` meets its contract. The invariant: the numbers so far stand from `at` on.
use Rattle.std.proofs.Common.{◌*◌, take}
use Rattle.paper.specs.Listing.{blank_numbers}
use Rattle.decimals.specs.Written.{Writes}
use Rattle.text.proofs.put_numbers.Given as goal

abbrev pub invariant-loop-z : goal.invariant-loop-z
invariant-loop-z l = Writes (22 * l.z-index) (blank_numbers (take l.z-index l.numbers)) l.at l.initial.buffer l.buffer l.end
