-- `rows::degree` meets its contract. The loop's invariant: the largest degree so far is that of the terms before term k.
use mathlib.Core.Path.{◌∙◌}
use Rattle.rows.proofs.DegreeFits.{degree_none, degree_some, degree_ends}
use Rattle.rows.proofs.degree.Goals as goal
use Rattle.rows.proofs.degree.Goals.{then-x-ne0, else-x-ne0}

pub loop-k-preserved : goal.loop-k-preserved
loop-k-preserved c =
    let so_far = c.loop-k.invariant in
    let k = c.loop-k.k in
    elim c.if-x-ne0.branch [
      | then-x-ne0 w ↦ w.largest-is ∙ degree_some c.args.p.now.cells c.args.p.now.kept k so_far w.if-x-ne0.true w.degree.ensures w.max-largest.ensures
      | else-x-ne0 w ↦ w.largest-is ∙ degree_none c.args.p.now.cells c.args.p.now.kept k so_far w.if-x-ne0.false
    ]

pub returns : goal.returns
returns c = degree_ends c.args.p.now.cells c.loop-k.invariant c.loop-k.auto.k-end c.loop-k-test.false
