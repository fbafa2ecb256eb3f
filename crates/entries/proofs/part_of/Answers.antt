-- `entries::part_of` meets its contract.
use mathlib.Core.Path.{refl}
use Rattle.entries.proofs.EntrySteps.{part_begins, part_is}
use Rattle.entries.proofs.part_of.Goals as goal

pub returns : goal.returns
returns c = record { place = part_begins _ _ refl c.entry-from.ensures.offset.is; bytes = part_is _ _ c.entry-from.ensures.offset.is c.entry-from.ensures.length.is }
