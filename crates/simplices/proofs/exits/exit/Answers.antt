-- `simplices::exits::exit` meets its contract. The loop's invariant: the search goes on from q (`exit_here`, `exit_later`, `exit_end`).
use Prim.Native.Nat.{◌+◌}
use mathlib.Core.Path.{◌≡◌, ◌∙◌}
use native.Mathlib.Omega.{arith}
use Rattle.determinants.specs.Cells.{simplex_columns, facet_columns}
use Rattle.simplices.proofs.ExitSearch.{exit_start, exit_here, exit_later, exit_end}
use Rattle.simplices.proofs.exits.exit.Goals as goal
use Rattle.simplices.proofs.exits.exit.Goals.{else-loop-q-test, then-loop-q-test+else-is_other+else-q-n}

pub loop-q-init : goal.loop-q-init
loop-q-init c = exit_start c.args.n (simplex_columns c.args.n c.args.cells.now) c.args.out

pub returns-then-is_other : goal.returns-then-is_other
unfolding facet_columns
returns-then-is_other c = exit_here _ _ _ _ c.loop-q.invariant (omega arith) c.is_other.ensures c.if-is_other.true

pub loop-q-preserved : goal.loop-q-preserved
unfolding facet_columns
loop-q-preserved c = exit_later _ _ _ _ c.loop-q.invariant (omega arith) c.is_other.ensures c.if-is_other.false

pub returns : goal.returns
unfolding facet_columns
returns c =
    elim c.loop-q-test.branch [
      | else-loop-q-test w ↦ absurd (omega (arith, w.loop-q-test.false))
      | then-loop-q-test+else-is_other+else-q-n w ↦
          let last : c.args.n + 1 ≡ c.loop-q.q + 1 = omega arith in
          last ∙ exit_end _ _ _ _ (exit_later _ _ _ _ c.loop-q.invariant (omega arith) w.is_other.ensures w.if-is_other.false) (omega arith)
    ]
