-- `positions::at_position` meets its contract: the trace from the place decides, then the earlier positions.
use Rattle.std.proofs.Common.{◌≡◌, ℕ, Option, refl, subst}
use Rattle.std.proofs.lemmas.Result.{err_from_is_err_and}
use Rattle.paper.specs.Answers.{traced_as, verdict_count}
use Rattle.paper.specs.Refusals.{refusal_number, answer_by, RefusedOr}
use Rattle.paper.proofs.PlaceLists.{part_is}
use Rattle.positions.specs.Positions.{outer_of}
use Rattle.positions.proofs.ListedPlaces.{plane}
use Rattle.positions.proofs.AtPosition.{at_refused, at_taken, at_no_loop, at_loop, loop_told, takes_next}
use Rattle.positions.proofs.at_position.Goals as goal

pub returns-in_err-traced : goal.returns-in_err-traced
unfolding traced_as answer_by
returns-in_err-traced c =
    let a = c.args in
    let is = part_is a.job.bytes.now a.places.now (plane c.requires.dimension a.job.opened).dimension a.k refl in
    let p = err_from_is_err_and c.from_residual.result c.from_residual.ensures.1 in
    rw (p.1, p.2) (at_refused a.job.bytes.now a.places.now a.k is _ c.in_err-traced.ensures)

pub returns-then-ne : goal.returns-then-ne
unfolding traced_as answer_by verdict_count refusal_number
returns-then-ne c =
    let a = c.args in
    let is = part_is a.job.bytes.now a.places.now (plane c.requires.dimension a.job.opened).dimension a.k refl in
    let t = at_taken a.job.bytes.now a.places.now a.k is c.in_ok-traced.ensures in
    at_no_loop t (loop_told c.in_ok-traced.traced.verdict c.ne.ensures c.if-ne.true)

pub compared-requires : goal.compared-requires
unfolding traced_as answer_by verdict_count
compared-requires c =
    let a = c.args in
    let is = part_is a.job.bytes.now a.places.now (plane c.requires.dimension a.job.opened).dimension a.k refl in
    let t = at_taken a.job.bytes.now a.places.now a.k is c.in_ok-traced.ensures in
    record {
      dimension = c.requires.dimension;
      before = (c.requires.before.0, takes_next a.job.bytes.now a.places.now a.k c.requires.before.1 t.none);
    }

pub returns : goal.returns
unfolding traced_as answer_by verdict_count
returns c =
    let a = c.args in
    let is = part_is a.job.bytes.now a.places.now (plane c.requires.dimension a.job.opened).dimension a.k refl in
    let t = at_taken a.job.bytes.now a.places.now a.k is c.in_ok-traced.ensures in
    subst (λ k. RefusedOr k (λ (o : Option ℕ). o ≡ outer_of a.job.bytes.now a.places.now a.k) c.compared.result)
    (at_loop t (loop_told c.in_ok-traced.traced.verdict c.ne.ensures c.if-ne.false)) c.compared.ensures
