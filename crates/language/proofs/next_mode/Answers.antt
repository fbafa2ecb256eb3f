-- `language::next_mode` meets its contract, token by token.
use mathlib.Core.Path.{◌≡◌, sym, ◌∙◌}
use mathlib.Core.Bool.{◌&&◌}
use mathlib.Core.Logic.{⊎_elim}
use lib.Dec.{leb, ltb}
use Rattle.language.specs.declared.Mode.TheVariants.{ExponentNext, AtomNext, SumNext, AtomRead}
use Rattle.language.specs.Pass.{next_mode, expects_atom, sum_next, power_read, atom_read}
use Rattle.language.specs.Modes.{mode_number}
use Rattle.language.proofs.ModeLaws.{allowed, both_tested, first_fails}
use Rattle.language.proofs.next_mode.Goals as goal
use Rattle.language.proofs.next_mode.Goals.{then-expects_atom, else-expects_atom, then-ends_power, else-ends_power}

pub returns-in-Letter : goal.returns-in-Letter
unfolding next_mode
returns-in-Letter c b = rw c.in-Letter.is (allowed (expects_atom (mode_number c.args.mode)) AtomRead c.then_some.ensures c.expects_atom.ensures)

pub returns-after-expects_atom : goal.returns-after-expects_atom
unfolding next_mode
returns-after-expects_atom c b =
    let a = expects_atom (mode_number c.args.mode) in
    let room = ltb c.args.depth c.args.limit in
    let both : c.if-expects_atom.then_some ≡ (a && room) =
    elim c.if-expects_atom.branch [
      | then-expects_atom w ↦ both_tested a room (sym w.if-expects_atom.ensures) w.then_some-is
      | else-expects_atom w ↦ first_fails a room (sym w.if-expects_atom.ensures) (w.then_some-is ∙ w.if-expects_atom.false)
    ] in
    rw c.in-Opening.is (allowed (a && room) SumNext c.then_some-in-Opening.ensures both)

pub returns-after-ends_power : goal.returns-after-ends_power
unfolding next_mode
returns-after-ends_power c b =
    let a = leb power_read (mode_number c.args.mode) in
    let opened = ltb 0 c.args.depth in
    let both : c.if-ends_power.then_some ≡ (a && opened) =
    elim c.if-ends_power.branch [
      | then-ends_power w ↦ both_tested a opened (sym w.if-ends_power.ensures) w.then_some-is
      | else-ends_power w ↦ first_fails a opened (sym w.if-ends_power.ensures) (w.then_some-is ∙ w.if-ends_power.false)
    ] in
    rw c.in-Closing.is (allowed (a && opened) AtomRead c.then_some-in-Closing.ensures both)

pub returns-in-Minus : goal.returns-in-Minus
unfolding next_mode
returns-in-Minus c b = rw c.in-Minus.is (allowed (leb sum_next (mode_number c.args.mode)) AtomNext c.then_some-in-Minus.ensures c.takes_minus.ensures)

pub returns-in-Caret : goal.returns-in-Caret
unfolding next_mode
returns-in-Caret c b = rw c.in-Caret.is (allowed (leb atom_read (mode_number c.args.mode)) ExponentNext c.then_some-in-Caret.ensures c.ends_atom.ensures)

pub returns-in-Star : goal.returns-in-Star
unfolding next_mode
returns-in-Star c b =
    let next = allowed (leb power_read (mode_number c.args.mode)) AtomNext c.then_some-in-Star.ensures c.ends_power-in-Star.ensures in
    ⊎_elim (λ e. rw e next) (λ e. rw e next) c.in-Star.is
