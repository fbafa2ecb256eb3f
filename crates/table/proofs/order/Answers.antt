-- `table::order` meets its contract: the array has the digits of the table's orders (`word_is`).
use mathlib.Core.Path.{◌∙◌}
use Prim.Native.Nat.{◌+◌, ◌<◌}
use native.Mathlib.Omega.{arith}
use Rattle.table.proofs.TableRows.{row_inside_lem, word_is}
use Rattle.table.proofs.order.Goals as goal
use Rattle.table.proofs.order.Goals.{After-first}

-- the row lies in the array
inside : (c : After-first) → c.first.result + c.args.row < 32
inside c = row_inside_lem c.args.n c.args.row c.requires c.first.ensures

pub overflow_add-first : goal.overflow_add-first
overflow_add-first c = omega (arith, inside (goal.at.overflow_add-first c).After-first)

pub offset_bounds-first : goal.offset_bounds-first
offset_bounds-first c = omega (arith, inside (goal.at.offset_bounds-first c).After-first)

pub returns : goal.returns
returns c =
    c.from.ensures ∙ word_is c.args.n c.args.row c.requires c.first.ensures

pub bounds-first : goal.bounds-first
bounds-first c = inside (goal.at.bounds-first c).After-first
