-- `body::body_part` meets its contract.
use Rattle.std.proofs.Common.{refl}
use Rattle.entries.proofs.EntrySteps.{part_begins}
use Rattle.body.proofs.BodySteps.{given}
use Rattle.body.proofs.body_part.Goals as goal

pub returns : goal.returns
returns c =
    let g = given c.args.job c.args.k c.part.result _ c.part.ensures (part_begins _ _ refl refl) refl in
    rw c.unwrap_or.ensures (record { place = g.place; bytes = g.bytes })
