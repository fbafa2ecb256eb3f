-- `determinants::entry` meets its contract: below the top row the entry is a cell, which is small enough to be read back from its bits.
use Rattle.determinants.proofs.Entries.{top_entry, lower_entry}
use Rattle.determinants.proofs.entry.Goals as goal

pub returns-then-row-eq0 : goal.returns-then-row-eq0
returns-then-row-eq0 c = top_entry c.args.cells.now c.args.row c.args.v c.if-row-eq0.true

pub returns-else-row-eq0 : goal.returns-else-row-eq0
returns-else-row-eq0 c = lower_entry c.args.cells.now c.args.row c.args.v c.requires.cells_within c.if-row-eq0.false
