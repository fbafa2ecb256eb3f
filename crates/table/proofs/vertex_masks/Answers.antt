-- `table::vertex_masks` meets its contract: the array has the masks of the table's vertices (`digits_are`).
use Prim.Native.Nat.{◌+◌, ◌<◌}
use native.Mathlib.Omega.{arith}
use Rattle.table.proofs.TableRows.{row_inside_lem, digits_are}
use Rattle.table.proofs.vertex_masks.Goals as goal
use Rattle.table.proofs.vertex_masks.Goals.{After-first}

-- the row lies in the array
inside : (c : After-first) → c.first.result + c.args.row < 32
inside c = row_inside_lem c.args.n c.args.row c.requires c.first.ensures

pub overflow_add-result : goal.overflow_add-result
overflow_add-result c = omega (arith, inside (goal.at.overflow_add-result c).After-first)

pub offset_bounds-first : goal.offset_bounds-first
offset_bounds-first c = omega (arith, inside (goal.at.offset_bounds-first c).After-first)

pub returns : goal.returns
returns c = digits_are c.args.n c.args.row c.requires c.first.ensures

pub bounds-first : goal.bounds-first
bounds-first c = inside (goal.at.bounds-first c).After-first
