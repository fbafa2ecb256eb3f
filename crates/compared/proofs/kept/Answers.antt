-- `compared::kept` meets its contract: the test is the comparison.
use mathlib.Core.Path.{sym, ap, ◌∙◌}
use mathlib.Core.Bool.{cond}
use Rattle.determinants.specs.Cells.{simplex_columns}
use Rattle.compared.proofs.PairSigns.{stays_is}
use Rattle.compared.proofs.kept.Goals as goal

pub returns-then-pair_above-plus : goal.returns-then-pair_above-plus
returns-then-pair_above-plus c =
    let a = c.args in
    let is = stays_is a.n (simplex_columns a.n a.cells.now) a.plus a.out a.q a.r c.pair_above.ensures in
    ap (λ b. cond b a.q a.r) (sym (is ∙ c.if-pair_above-plus.true))

pub returns-else-pair_above-plus : goal.returns-else-pair_above-plus
returns-else-pair_above-plus c =
    let a = c.args in
    let is = stays_is a.n (simplex_columns a.n a.cells.now) a.plus a.out a.q a.r c.pair_above.ensures in
    ap (λ b. cond b a.q a.r) (sym (is ∙ c.if-pair_above-plus.false))
