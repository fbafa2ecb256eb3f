-- `language::token_of` meets its contract, byte by byte.
use native.Mathlib.Omega.{arith}
use Rattle.language.proofs.TokenLaws.{Other, token_digit, token_letter, token_foreign}
use Rattle.language.proofs.token_of.Goals as goal
use Rattle.language.proofs.token_of.Goals.{After-is_letter, in_default-via-then-b-lt48, in_default-via-else-b-lt48+else-b-lt58}

pub returns-in-48-to-57 : goal.returns-in-48-to-57
returns-in-48-to-57 c = token_digit c.args.n c.args.b (omega arith) (omega arith)

-- behind the other arms the byte is none of theirs
other : (c : After-is_letter) → Other c.args.b
other c =
    elim c.in_default.branch [
      | in_default-via-then-b-lt48 w ↦ record { no_digit = λ h k. omega arith; no_opening = λ e. omega arith; no_closing = λ e. omega arith; no_star = λ e. omega arith; no_plus = λ e. omega arith; no_minus = λ e. omega arith; no_caret = λ e. omega arith }
      | in_default-via-else-b-lt48+else-b-lt58 w ↦ record { no_digit = λ h k. omega arith; no_opening = λ e. omega arith; no_closing = λ e. omega arith; no_star = λ e. omega arith; no_plus = λ e. omega arith; no_minus = λ e. omega arith; no_caret = λ e. omega arith }
    ]

pub returns-in_default : goal.returns-in_default
returns-in_default c =
    token_letter c.args.n c.args.b (other (goal.at.returns-in_default c).After-is_letter) c.is_letter.ensures c.if-is_letter.true

pub returns-in_default-2 : goal.returns-in_default-2
returns-in_default-2 c =
    token_foreign c.args.n c.args.b (other (goal.at.returns-in_default-2 c).After-is_letter) c.is_letter.ensures c.if-is_letter.false
