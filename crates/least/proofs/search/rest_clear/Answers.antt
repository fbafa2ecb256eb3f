-- `least::search::rest_clear` meets its contract: the walk is over, and it has met a facet before its start's or it has not.
use Rattle.std.proofs.Common.{sym, ◌∙◌}
use Rattle.places.specs.Held.{place_as}
use Rattle.least.proofs.Ends.{clear_to_end}
use Rattle.least.proofs.search.rest_clear.Goals as goal

pub returns-in-Err : goal.returns-in-Err
returns-in-Err c =
    c.ne.ensures
    ∙ clear_to_end _ _ c.args.start (place_as c.args.job.n c.loop-next.here.place) c.seek.new.cells _ c.in-Err.ensures
    ∙ sym c.loop-next.invariant.1
