-- `termbytes::put_term` meets its contract: four bytes of the coefficient, then the exponents.
use Rattle.termbytes.proofs.DoubleWord.{word_fits, four_bytes, word_bytes}
use Rattle.termbytes.proofs.OneTerm.{none_put, term_put}
use Rattle.termbytes.proofs.put_term.Goals as goal
use mathlib.Core.Path.{◌∙◌}

pub returns-then-x-eq0 : goal.returns-then-x-eq0
returns-then-x-eq0 c = none_put c.args.bytes.now c.args.at c.args.x c.args.k c.requires.0 c.if-x-eq0.true

pub overflow_cast-x : goal.overflow_cast-x
overflow_cast-x c = word_fits c.requires.0

pub returns : goal.returns
unfolding four_bytes
returns c =
    term_put c.args.bytes.now c.args.at c.args.x c.args.k c.requires.0 c.if-x-eq0.false c.requires.1 c.requires.2
    (c.copy_from_slice.ensures.after ∙ word_bytes c.args.x c.requires.0 c.to_le_bytes.ensures)
    (c.copy_from_slice-2.ensures.after ∙ c.exponents-exponents.ensures)
