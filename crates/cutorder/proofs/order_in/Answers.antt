-- `cutorder::order_in` meets its contract: each position is refused, or adds what it found.
use Rattle.std.proofs.Common.{◌≡◌, arith, rules}
use Rattle.std.proofs.lemmas.Result.{err_from_is_err_and}
use Rattle.paper.specs.Refusals.{answer_by}
use Rattle.paper.proofs.PlaceLists.{count_is}
use Rattle.nesting.specs.Answers.{ordered_as}
use Rattle.positions.proofs.ListedPlaces.{plane}
use Rattle.cutorder.proofs.Ordering.{ordering_begins, ordering_refused, ordering_on, ordering_ends}
use Rattle.cutorder.proofs.order_in.Goals as goal

pub loop-k-init : goal.loop-k-init
loop-k-init c = ordering_begins _ _

pub returns-in_err-outer : goal.returns-in_err-outer
unfolding ordered_as answer_by
returns-in_err-outer c =
    let a = c.args in
    let is = count_is a.job.bytes.now a.places.now (plane c.requires a.job.opened).dimension in
    let p = err_from_is_err_and c.from_residual.result c.from_residual.ensures.1 in
    rw (p.1, p.2) (ordering_refused a.job.bytes.now a.places.now c.loop-k.invariant (omega (arith, is, c.loop-k-test.true)) _ c.in_err-outer.ensures)

pub loop-k-preserved : goal.loop-k-preserved
loop-k-preserved c =
    let a = c.args in
    let is = count_is a.job.bytes.now a.places.now (plane c.requires a.job.opened).dimension in
    ordering_on a.job.bytes.now a.places.now c.loop-k.invariant (omega (arith, is, c.loop-k-test.true)) c.in_ok-outer.ensures c.earlier-first.ensures

pub returns : goal.returns
unfolding ordered_as answer_by
returns c =
    let a = c.args in
    let is = count_is a.job.bytes.now a.places.now (plane c.requires a.job.opened).dimension in
    let same : c.map.result ≡ c.loop-k.first = search rules in
    rw (same) (ordering_ends a.job.bytes.now a.places.now c.loop-k.invariant (omega (arith, is, c.loop-k-test.false)))
