-- `table::rows` meets its contract: the rows of n axes end where those of the next begin (`rows_end`).
use native.Mathlib.Omega.{arith}
use Rattle.table.proofs.TableRows.{rows_end}
use Rattle.table.proofs.rows.Goals as goal

pub overflow_sub-result : goal.overflow_sub-result
overflow_sub-result c = omega (arith, c.first.ensures, c.first-2.ensures, rows_end c.args.n c.requires)

pub returns : goal.returns
returns c = omega (arith, c.first.ensures, c.first-2.ensures, rows_end c.args.n c.requires)
