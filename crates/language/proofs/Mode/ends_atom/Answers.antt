-- `language::Mode::ends_atom` meets its contract.
use Rattle.language.proofs.ModeLaws.{no_end}
use Rattle.language.proofs.Mode.ends_atom.Goals as goal

pub returns-in_default : goal.returns-in_default
returns-in_default c = no_end c.args.self c.in_default.not-AtomRead c.in_default.not-DigitsRead
