-- `language::after_digit` meets its contract, mode by mode.
use mathlib.Core.Path.{refl}
use mathlib.Core.Logic.{⊎_elim}
use lib.Dec.{leb}
use Rattle.language.specs.declared.Mode.TheVariants.{PowerRead}
use Rattle.language.specs.Pass.{after_digit, outside_mode, exponent_next, expects_atom, atom_next, sum_next, power_read, atom_read, digits_read, only}
use Rattle.language.proofs.ModeLaws.{allowed, digits_go_on, digits_full}
use Rattle.language.proofs.after_digit.Goals as goal

pub returns-in-ExponentNext : goal.returns-in-ExponentNext
unfolding after_digit outside_mode exponent_next expects_atom atom_next sum_next digits_read only
returns-in-ExponentNext c = rw c.in-ExponentNext.is (allowed (leb c.args.digit 4) PowerRead c.then_some.ensures refl)

pub returns-in-AtomNext : goal.returns-in-AtomNext
unfolding after_digit exponent_next expects_atom atom_next sum_next
returns-in-AtomNext c = ⊎_elim (λ e. rw e refl) (λ e. rw e refl) c.in-AtomNext.is

pub returns-then-k-lt-MOST_DIGITS : goal.returns-then-k-lt-MOST_DIGITS
returns-then-k-lt-MOST_DIGITS c = rw c.in-DigitsRead.is (digits_go_on c.in-DigitsRead.k c.args.digit c.if-k-lt-MOST_DIGITS.true)

pub returns-else-k-lt-MOST_DIGITS : goal.returns-else-k-lt-MOST_DIGITS
returns-else-k-lt-MOST_DIGITS c = rw c.in-DigitsRead.is (digits_full c.in-DigitsRead.k c.args.digit c.if-k-lt-MOST_DIGITS.false)

pub returns-in-PowerRead : goal.returns-in-PowerRead
unfolding after_digit outside_mode exponent_next expects_atom atom_next sum_next power_read atom_read digits_read only
returns-in-PowerRead c = ⊎_elim (λ e. rw e refl) (λ e. rw e refl) c.in-PowerRead.is
