-- `language::is_letter` meets its contract: a letter's axis is one of the dimension.
use native.Mathlib.Omega.{arith}
use Rattle.language.proofs.TokenLaws.{no_letter}
use Rattle.language.proofs.is_letter.Goals as goal

pub returns-in_default : goal.returns-in_default
returns-in_default c = no_letter c.args.n c.args.b (λ e. omega arith) (λ e. omega arith) (λ e. omega arith) (λ e. omega arith)
