-- `table::find_row` meets its contract. The loop's invariant: the row sought is what the search from `row` on finds.
use Prim.Native.Nat.{◌-◌, ◌≤◌}
use mathlib.Core.Path.{◌≡◌}
use Rattle.table.specs.Table.{row_from, found_row}
use Rattle.table.proofs.find_row.Given as goal

abbrev pub invariant-loop-row : goal.invariant-loop-row
invariant-loop-row l = (l.row ≤ l.last) × (row_from l.n l.order l.row (l.last - l.row) ≡ found_row l.n l.order)
