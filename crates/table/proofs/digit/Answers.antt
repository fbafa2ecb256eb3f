-- `table::digit` meets its contract: it computes as the definition does.
use mathlib.Core.Path.{ap}
use Rattle.table.specs.Table.{digit_at}
use Rattle.table.proofs.digit.Goals as goal

pub returns : goal.returns
unfolding digit_at
returns c = ap (λ x. digit_at x c.args.k) c.from.ensures
