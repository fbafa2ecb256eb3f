-- `pen::closes` meets its contract, test by test.
use borrow.Author.Tests.{eq-eqb, ne_eqb, lt-ltb, le-ltb}
use Rattle.pen.specs.Moves.{closes_at}
use Rattle.pen.proofs.closes.Goals as goal

pub returns-then-count-gt0 : goal.returns-then-count-gt0
unfolding closes_at
returns-then-count-gt0 c = simp (eq-eqb _ _ c.if-k-count.true, lt-ltb 0 c.args.count c.if-count-gt0.true)

pub returns-else-count-gt0 : goal.returns-else-count-gt0
unfolding closes_at
returns-else-count-gt0 c = simp (eq-eqb _ _ c.if-k-count.true, le-ltb 0 c.args.count c.if-count-gt0.false)

pub returns-else-k-count : goal.returns-else-k-count
unfolding closes_at
returns-else-k-count c = simp (ne_eqb _ _ c.if-k-count.false)
