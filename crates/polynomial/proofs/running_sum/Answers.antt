-- `polynomial::running_sum` meets its contract: the tables are those of the vertex.
use Rattle.polynomial.proofs.PartialSums.{running_at}
use Rattle.polynomial.proofs.running_sum.Goals as goal

pub returns : goal.returns
returns c = running_at _ _ _ c.put_powers.ensures.1 c.sum_of_last.ensures
