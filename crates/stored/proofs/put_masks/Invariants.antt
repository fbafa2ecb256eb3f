-- `stored::put_masks` meets its contract. The invariant: of the masks that count the first k are written.
use Rattle.std.proofs.Common.{◌≡◌, take}
use lib.Seq.{sets}
use Rattle.places.specs.Held.{masks_as}
use Rattle.stored.proofs.put_masks.Given as goal

abbrev pub invariant-loop-k : goal.invariant-loop-k
invariant-loop-k l = l.buffer ≡ sets l.initial.buffer l.at (take l.k (masks_as l.n l.p))
