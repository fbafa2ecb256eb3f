-- `language::Mode::ends_power` meets its contract.
use lib.Dec.{lit≤}
use Rattle.language.specs.Pass.{power_read, atom_read}
use Rattle.language.specs.Modes.{mode_number}
use Rattle.language.proofs.ModeLaws.{weaker, no_power}
use Rattle.language.proofs.Mode.ends_power.Goals as goal

pub returns-then-ends_atom : goal.returns-then-ends_atom
unfolding power_read atom_read
returns-then-ends_atom c = weaker 4 5 (mode_number c.args.self) (lit≤ tt) c.ends_atom.ensures c.if-ends_atom.true

pub returns-in_default : goal.returns-in_default
returns-in_default c = no_power c.args.self c.in_default.not-PowerRead c.ends_atom.ensures c.if-ends_atom.false
