-- `language::Mode::takes_minus` meets its contract.
use lib.Dec.{lit≤}
use Rattle.language.specs.Pass.{sum_next, power_read}
use Rattle.language.specs.Modes.{mode_number}
use Rattle.language.proofs.ModeLaws.{weaker, no_minus}
use Rattle.language.proofs.Mode.takes_minus.Goals as goal

pub returns-then-ends_power : goal.returns-then-ends_power
unfolding sum_next power_read
returns-then-ends_power c = weaker 3 4 (mode_number c.args.self) (lit≤ tt) c.ends_power.ensures c.if-ends_power.true

pub returns-in_default : goal.returns-in_default
returns-in_default c = no_minus c.args.self c.in_default.not-SumNext c.ends_power.ensures c.if-ends_power.false
