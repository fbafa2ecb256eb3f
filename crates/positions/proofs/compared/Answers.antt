-- `positions::compared` meets its contract: each walk tells of one position more.
use Rattle.std.proofs.Common.{◌-◌, refl, ap, ◌∙◌, arith}
use Rattle.paper.specs.Operations.{point_refusal}
use Rattle.paper.specs.Refusals.{refusal_number}
use Rattle.paper.proofs.PlaceLists.{part_is}
use Rattle.positions.proofs.Comparing.{is_same, is_inside, walk_tells, comparing_begins, comparing_on, compared_same, compared_all}
use Rattle.positions.proofs.ListedPlaces.{plane}
use Rattle.positions.proofs.compared.Goals as goal

pub loop-j-init : goal.loop-j-init
loop-j-init c = comparing_begins _ _ _

pub walk_along-requires-clause-outer_value : goal.walk_along-requires-clause-outer_value
walk_along-requires-clause-outer_value c =
    let a = c.args in
    let s = a.job.bytes.now in
    let ps = a.places.now in
    let j = c.loop-j.j - 1 in
    let two = (plane c.requires.dimension a.job.opened).dimension in
    let takes = c.requires.before.1 in (
      ap (point_refusal s) (part_is s ps two j refl) ∙ takes j (omega (arith, c.loop-j.invariant.below, c.loop-j-test.true)),
      ap (point_refusal s) (part_is s ps two a.k refl) ∙ takes a.k (omega arith),
    )

pub returns-in-Same : goal.returns-in-Same
unfolding refusal_number is_same is_inside
returns-in-Same c =
    let a = c.args in
    let job = plane c.requires.dimension a.job.opened in
    let t = walk_tells a.places.now job a.k (c.loop-j.j - 1) refl refl c.walk_along.ensures c.in-Same.is in
    compared_same a.job.bytes.now a.places.now a.k c.loop-j.invariant c.loop-j-test.true t

pub loop-j-preserved-in-Inside : goal.loop-j-preserved-in-Inside
unfolding is_same is_inside
loop-j-preserved-in-Inside c =
    let a = c.args in
    let job = plane c.requires.dimension a.job.opened in
    let t = walk_tells a.places.now job a.k (c.loop-j.j - 1) refl refl c.walk_along.ensures c.in-Inside.is in
    comparing_on a.job.bytes.now a.places.now a.k c.loop-j.invariant c.loop-j-test.true t

pub loop-j-preserved : goal.loop-j-preserved
unfolding is_same is_inside
loop-j-preserved c =
    let a = c.args in
    let job = plane c.requires.dimension a.job.opened in
    let t = walk_tells a.places.now job a.k (c.loop-j.j - 1) refl refl c.walk_along.ensures c.in-Outside.is in
    comparing_on a.job.bytes.now a.places.now a.k c.loop-j.invariant c.loop-j-test.true t

pub returns : goal.returns
returns c = compared_all _ _ _ c.loop-j.invariant c.loop-j-test.false
