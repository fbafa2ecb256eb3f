-- `least::search::is_least` meets its contract: what the walks have met decides.
use Rattle.std.proofs.Common.{sym, ◌∙◌}
use Rattle.places.specs.Held.{place_as}
use Rattle.job.proofs.Opened.{job_dimension}
use Rattle.step.proofs.HeldPlaces.{held_form}
use Rattle.least.proofs.Ends.{clear_to_end}
use Rattle.least.proofs.BothWays.{way_on, way_begins, turned_held, turned_begins, crossed_columns, front_before, back_before, front_closed, second_decides, first_decides}
use Rattle.least.proofs.search.is_least.Goals as goal

pub enter-ahead-requires : goal.enter-ahead-requires
enter-ahead-requires c =
    let h = c.requires.held.0 in
    record { n_value = (job_dimension h.job, held_form h); cells = (c.requires.holds_facet.0.within, crossed_columns h c.requires.holds_facet.0) }

pub enter-behind-requires : goal.enter-behind-requires
enter-behind-requires c =
    let h = c.requires.held.0 in
    let e = c.turned-q.ensures in
    let held = turned_held h c.requires.held.1 _ (e.0 _) e.1 in
    record { n_value = (job_dimension h.job, held_form held); cells = (c.requires.holds_facet.1.within, crossed_columns h c.requires.holds_facet.1) }

pub loop-next-init : goal.loop-next-init
loop-next-init c =
    let e = c.turned-q.ensures in (
      way_begins c.requires.held.0 c.requires.holds_facet.0 c.enter-ahead.ensures,
      turned_begins c.requires.held.0 c.requires.held.1 _ (e.0 _) e.1 c.requires.holds_facet.1 c.enter-behind.ensures,
    )

pub returns-in-Err-Before : goal.returns-in-Err-Before
returns-in-Err-Before c =
    let met = rw c.in-Err-Before.field-0-is at c.in-Err-Before.ensures in
    front_before c.requires.held.0 c.requires.held.1 _ (c.turned-q.ensures.0 _) c.loop-next.invariant.0 met

pub returns-in-Err-Closed : goal.returns-in-Err-Closed
returns-in-Err-Closed c =
    let met = rw c.in-Err-Closed.field-0-is at c.in-Err-Closed.ensures in
    front_closed c.requires.held.0 c.requires.held.1 _ (c.turned-q.ensures.0 _) c.loop-next.invariant.0 met

pub returns-in-Err-Ended : goal.returns-in-Err-Ended
returns-in-Err-Ended c =
    let met = rw c.in-Err-Ended.field-0-is at c.in-Err-Ended.ensures in
    second_decides c.requires.held.0 c.requires.held.1 _ (c.turned-q.ensures.0 _) c.loop-next.invariant.0 met c.loop-next.invariant.1 c.rest_clear.ensures

pub returns-else-ne : goal.returns-else-ne
returns-else-ne c =
    let clear = clear_to_end _ _ c.turned-q.result (place_as c.args.job.n c.loop-next.behind.place) c.seek-in-loop-next.new.cells _ c.in-Err.ensures in
    c.if-ne.false
    ∙ back_before c.requires.held.0 c.requires.held.1 _ (c.turned-q.ensures.0 _) c.loop-next.invariant.1 (sym clear ∙ sym c.ne.ensures ∙ c.if-ne.false)

pub returns-then-ne : goal.returns-then-ne
returns-then-ne c =
    let clear = clear_to_end _ _ c.turned-q.result (place_as c.args.job.n c.loop-next.behind.place) c.seek-in-loop-next.new.cells _ c.in-Err.ensures in
    first_decides c.requires.held.0 c.requires.held.1 _ (c.turned-q.ensures.0 _) (way_on c.loop-next.invariant.0 c.in-Ok.ensures) c.rest_clear-then-ne.ensures
    c.loop-next.invariant.1 (sym clear ∙ sym c.ne.ensures ∙ c.if-ne.true)
