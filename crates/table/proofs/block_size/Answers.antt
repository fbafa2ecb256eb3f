-- `table::block_size` meets its contract: it computes as the definition does.
use borrow.Author.Tests.{eq-eqb, ne_eqb}
use Rattle.table.specs.Table.{block_size}
use Rattle.table.proofs.block_size.Goals as goal

pub returns-then-n-eq4 : goal.returns-then-n-eq4
unfolding block_size
returns-then-n-eq4 c = rw (eq-eqb c.args.n 4 c.if-n-eq4.true)

pub returns-else-n-eq4 : goal.returns-else-n-eq4
unfolding block_size
returns-else-n-eq4 c = rw (ne_eqb c.args.n 4 c.if-n-eq4.false)
