-- `polynomial::powers` meets its contract: the tables are those of the nearest coordinates that are near.
use Rattle.std.proofs.Common.{◌∙◌, arith}
use borrow.Author.Rules.{rules}
use Rattle.exact.proofs.Bits.{back_is, back_size}
use Rattle.polynomial.proofs.Limits.{coordinate_word}
use Rattle.polynomial.proofs.PowerLaws.{tables_are}
use Rattle.polynomial.proofs.NearTables.{nearing_none, nearing_next, all_near, near_tabling}
use Rattle.polynomial.proofs.powers.Goals as goal

pub loop-axis-init : goal.loop-axis-init
loop-axis-init c = nearing_none (search rules)

pub loop-axis-preserved : goal.loop-axis-preserved
loop-axis-preserved c =
    let h = c.nearest.ensures in
    nearing_next _ c.loop-axis-test.true (back_size h.0 coordinate_word)
    (λ s. back_is h.0 coordinate_word ∙ h.1 (back_size s coordinate_word) ∙ back_is s coordinate_word) c.loop-axis.invariant

pub put_powers-requires : goal.put_powers-requires
put_powers-requires c = all_near (omega (arith, c.loop-axis-test.false)) c.loop-axis.invariant

pub returns : goal.returns
returns c =
    tables_are (omega arith) (near_tabling (omega (arith, c.loop-axis-test.false)) c.loop-axis.invariant (omega arith) c.put_powers.ensures) (search rules)
