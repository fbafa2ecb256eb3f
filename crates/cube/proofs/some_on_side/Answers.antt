-- `cube::some_on_side` meets its contract.
use native.Mathlib.Omega.{arith}
use mathlib.Core.Path.{sym, ◌∙◌}
use mathlib.Core.Bool.{false≢true}
use borrow.Author.Count.{below_more}
use Prim.Native.Nat.{◌<◌}
use Rattle.cube.proofs.Corners.{corner_count, corners_few}
use Rattle.cube.proofs.Sides.{side_at}
use Rattle.cube.proofs.some_on_side.Goals as goal
use Rattle.cube.proofs.some_on_side.Goals.{In-loop-m, else-known-m-via-then-known-m+else-values-m, else-known-m-via-else-known-m}

-- the corner is one of sixteen
under : (c : In-loop-m) → c.loop-m.m < 16
under c =
    let a = c.requires.axes.0 in
    omega (arith, c.loop-m-test.true, corner_count _ a, corners_few _ a)

pub loop-m-preserved : goal.loop-m-preserved
loop-m-preserved c =
    elim c.else-known-m.branch [
      | else-known-m-via-then-known-m+else-values-m w ↦ below_more _ _ c.loop-m.invariant (λ e. side_at _ _ _ c.requires.axes.0 c.requires.axes.1.0 w.if-values-m.false)
      | else-known-m-via-else-known-m w ↦ below_more _ _ c.loop-m.invariant (λ e. absurd (false≢true (sym w.if-known-m.false ∙ e)))
    ]

pub bounds-known-m : goal.bounds-known-m
bounds-known-m c = under (goal.at.bounds-known-m c).In-loop-m
