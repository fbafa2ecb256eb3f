-- `determinants::alternated` meets its contract: the minor is far inside 64 bits, so it can be turned round.
use Rattle.determinants.proofs.Entries.{alternated_even, alternated_odd, opposite_fits}
use Rattle.determinants.proofs.alternated.Goals as goal

pub returns-then-power-eq0 : goal.returns-then-power-eq0
returns-then-power-eq0 c = alternated_even c.args.minor c.requires c.args.power c.if-power-eq0.true

pub overflow_sub-result : goal.overflow_sub-result
overflow_sub-result c = opposite_fits c.args.minor c.requires

pub returns-else-power-eq0 : goal.returns-else-power-eq0
returns-else-power-eq0 c = alternated_odd c.args.minor c.requires c.args.power c.if-power-eq0.false
