-- `cube::fill` meets its contract.
use native.Mathlib.Omega.{arith}
use Prim.Native.Nat.{◌<◌}
use Rattle.job.proofs.Opened.{job_axes}
use Rattle.cube.proofs.Corners.{corners_next, corner_count, corners_few}
use Rattle.cube.proofs.fill.Goals as goal
use Rattle.cube.proofs.fill.Goals.{In-loop-m}

-- the corner is one of sixteen
under : (c : In-loop-m) → c.loop-m.m < 16
under c =
    let a = job_axes c.args.job.opened in
    omega (arith, c.loop-m-test.true, corner_count _ a, corners_few _ a)

pub put_corner-requires-clause-m_bound : goal.put_corner-requires-clause-m_bound
put_corner-requires-clause-m_bound c =
    (under (goal.at.put_corner-requires-clause-m_bound c).In-loop-m, (c.loop-m.invariant.within, c.loop-m.invariant.room))

pub bounds-known-m : goal.bounds-known-m
bounds-known-m c = under (goal.at.bounds-known-m c).In-loop-m

pub loop-m-preserved : goal.loop-m-preserved
loop-m-preserved c = corners_next c.loop-m.m (under (goal.at.loop-m-preserved c).In-loop-m) c.loop-m.invariant c.put_corner.ensures
