-- `value::readable_limit` meets its contract.
use borrow.Author.Tests.{eq-eqb, ne_eqb}
use Rattle.paper.specs.Limits.{readable_limit}
use Rattle.value.proofs.readable_limit.Goals as goal

pub returns-then-n-eq4 : goal.returns-then-n-eq4
unfolding readable_limit
returns-then-n-eq4 c = rw (eq-eqb _ _ c.if-n-eq4.true)

pub returns-else-n-eq4 : goal.returns-else-n-eq4
unfolding readable_limit
returns-else-n-eq4 c = rw (ne_eqb _ _ c.if-n-eq4.false)
