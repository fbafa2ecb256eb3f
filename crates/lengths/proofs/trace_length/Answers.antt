-- `lengths::trace_length` meets its contract: refused as Point refuses the place, or the walk from it.
use Rattle.std.proofs.lemmas.Result.{err_from_is_err_and}
use Rattle.job.proofs.Opened.{job_axes, job_dimension}
use Rattle.columns.proofs.FacetColumns.{zero_cells}
use Rattle.step.proofs.HeldPlaces.{held_form}
use Rattle.step.proofs.CrossingHeld.{found_held}
use Rattle.lengths.proofs.LengthAnswers.{length_refused, place_carries, length_answered}
use Rattle.lengths.proofs.trace_length.Goals as goal

pub crossing_in-requires : goal.crossing_in-requires
crossing_in-requires c = zero_cells (job_axes c.args.job.opened)

pub returns-in_err-here : goal.returns-in_err-here
returns-in_err-here c =
    let p = err_from_is_err_and c.from_residual.result c.from_residual.ensures.1 in
    rw (p.1, p.2) (length_refused _ _ _ c.in_err-here.ensures.found)

pub enter-start-requires : goal.enter-start-requires
enter-start-requires c =
    let j = c.args.job.opened in
    let k = c.in_ok-here.ensures in
    record { n_value = (job_dimension j, held_form (found_held j k.found.1.0 k.found.0)); cells = (k.within, k.found.1.1) }

pub walk_length-requires : goal.walk_length-requires
walk_length-requires c =
    let k = c.in_ok-here.ensures.found in
    place_carries c.args.job.opened k.0 k.1.0 c.enter-start.ensures

pub returns : goal.returns
returns c =
    let k = c.in_ok-here.ensures.found in
    length_answered c.args.job.opened k.0 k.1.0 _ c.enter-start.ensures.place c.walk_length.ensures
