-- `cube::take_facet` meets its contract.
use native.Mathlib.Omega.{arith}
use mathlib.Core.Path.{◌≡◌, ap}
use mathlib.Core.List.{List}
use Prim.Native.Nat.{ℕ}
use lib.ListN.{get_or}
use Rattle.cube.proofs.Corners.{corners_few}
use Rattle.cube.proofs.TakenFacets.{mask_of, mask_under, taking_next, taking_fails, taking_all}
use Rattle.cube.proofs.take_facet.Goals as goal
use Rattle.cube.proofs.take_facet.Goals.{In-loop-k}

mask : (c : In-loop-k) → get_or c.facet_masks-masks.result c.loop-k.k 0 ≡ mask_of c.args.p c.loop-k.k
mask c = ap (λ (l : List ℕ). get_or l c.loop-k.k 0) c.facet_masks-masks.ensures

pub bounds-known-m : goal.bounds-known-m
bounds-known-m c =
    let a = c.requires.masks_under.1.axes in
    omega (arith, mask (goal.at.bounds-known-m c).In-loop-k, mask_under a c.requires.masks_under.0 c.loop-k.k, corners_few _ a)

pub returns-then-not-known-m : goal.returns-then-not-known-m
returns-then-not-known-m c s one cube =
    taking_fails c.requires.masks_under.1.axes c.requires.masks_under.0 cube c.loop-k.k c.loop-k-test.true
    (mask (goal.at.returns-then-not-known-m c).In-loop-k) c.if-not-known-m.true c.loop-k.invariant

pub loop-k-preserved : goal.loop-k-preserved
loop-k-preserved c =
    taking_next c.loop-k.k (mask (goal.at.loop-k-preserved c).In-loop-k) c.if-not-known-m.false c.loop-k.invariant c.copy_values.ensures

pub returns : goal.returns
returns c s one cube =
    taking_all c.requires.masks_under.1.axes c.requires.masks_under.0 cube c.loop-k.k c.loop-k-test.false (omega arith) c.loop-k.invariant
