-- `moves::make_room` meets its contract: what is copied within the cells are the columns from vertex i on.
use Rattle.moves.proofs.MovedColumns.{moved_up}
use Rattle.moves.proofs.make_room.Goals as goal

pub returns : goal.returns
returns c =
    let by_index = c.copy_within.ensures.by_index in
    moved_up c.requires.0 c.requires.1 c.copy_within.ensures.len by_index.0 by_index.1 by_index.2
