-- `language::Mode::expects_atom` meets its contract.
use Rattle.language.proofs.ModeLaws.{no_atom}
use Rattle.language.proofs.Mode.expects_atom.Goals as goal

pub returns-in_default : goal.returns-in_default
returns-in_default c = no_atom c.args.self c.in_default.not-AtomNext c.in_default.not-SumNext
