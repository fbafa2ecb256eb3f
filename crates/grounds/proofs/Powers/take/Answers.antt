-- `grounds::Powers::take` meets its contract.
use native.Mathlib.Omega.{arith}
use borrow.Author.Rules.{rules}
use Rattle.grounds.proofs.TakenPowers.{leaving_none, leaving_next, leaving_past, all_left, first_kept}
use Rattle.grounds.proofs.Powers.take.Goals as goal
use Rattle.grounds.proofs.Powers.take.Goals.{then-count-k, else-count-k}

pub loop-k-init : goal.loop-k-init
loop-k-init c = leaving_none (search rules)

pub loop-k-preserved : goal.loop-k-preserved
loop-k-preserved c =
    elim c.if-count-k.branch [
      | then-count-k w ↦ rw w.first-is (leaving_next _ c.loop-k-test.true (omega (arith, w.if-count-k.true)) c.loop-k.invariant)
      | else-count-k w ↦ rw w.first-is (leaving_past _ (omega (arith, w.if-count-k.false)) c.loop-k.invariant)
    ]

pub invariant_of-result : goal.invariant_of-result
invariant_of-result c = record { whole = all_left c.loop-k-test.false (omega (arith, c.min-count.ensures)) c.loop-k.invariant }

pub returns : goal.returns
returns c = first_kept _ c.min-count.ensures (search rules) c.loop-k.invariant
