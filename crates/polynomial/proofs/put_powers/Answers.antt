-- `polynomial::put_powers` meets its contract.
use borrow.Author.Rules.{rules}
use native.Mathlib.Omega.{arith}
use Rattle.exact.proofs.Bits.{back_size}
use Rattle.polynomial.proofs.Limits.{coordinate_word}
use Rattle.polynomial.proofs.PowerLaws.{counted_next, tabling_stays, counted_are, read_back}
use Rattle.polynomial.proofs.put_powers.Goals as goal
use Rattle.polynomial.proofs.put_powers.Goals.{then-axis-n, else-axis-n}

pub powers_of-requires : goal.powers_of-requires
powers_of-requires c = back_size (c.requires.each _ (omega (arith, c.if-axis-n.true))) coordinate_word

pub loop-axis-preserved : goal.loop-axis-preserved
loop-axis-preserved c =
    elim c.if-axis-n.branch [
      | then-axis-n w ↦
          rw w.tables-is
          (counted_next _ c.loop-axis-test.true (read_back (c.requires.each _ (omega (arith, w.if-axis-n.true))) (λ s. w.powers_of.ensures)) c.loop-axis.invariant)
      | else-axis-n w ↦ rw w.tables-is (tabling_stays _ w.if-axis-n.false c.loop-axis.invariant)
    ]

pub returns : goal.returns
returns c = counted_are c.loop-axis-test.false c.loop-axis.invariant (search rules)
