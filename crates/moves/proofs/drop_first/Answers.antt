-- `moves::drop_first` meets its contract: what is copied within the cells are the columns from vertex 1 on.
use Rattle.moves.proofs.MovedColumns.{moved_down}
use Rattle.moves.proofs.drop_first.Goals as goal

pub returns : goal.returns
returns c =
    let by_index = c.copy_within.ensures.by_index in
    moved_down c.requires c.copy_within.ensures.len by_index.0 by_index.2
