-- `trace::trace_in` meets its contract: refused as the paper's chain says, or the walk from the job's start.
use Rattle.std.proofs.Common.{sym, ◌∙◌}
use Rattle.job.proofs.Opened.{job_axes, job_dimension}
use Rattle.columns.proofs.FacetColumns.{zero_cells}
use Rattle.step.proofs.HeldPlaces.{held_form}
use Rattle.step.proofs.CrossingHeld.{found_held}
use Rattle.trace.proofs.TraceAnswers.{start_refusal, trace_refused, start_carries, start_answered}
use Rattle.trace.proofs.trace_in.Goals as goal

pub crossing_in-requires : goal.crossing_in-requires
crossing_in-requires c = zero_cells (job_axes c.args.job.opened)

pub returns-in_err-here : goal.returns-in_err-here
returns-in_err-here c =
    let e =
    trace_refused _ c.args.buffer.now _ _ c.from_residual.ensures.1
    (c.in_err-here.ensures.found ∙ sym (start_refusal c.args.job.opened c.body.ensures.bytes)) in
    record { answer = e.answer; written = e.buffer }

pub enter-start-requires : goal.enter-start-requires
enter-start-requires c =
    let k = c.in_ok-here.ensures in
    let h = found_held c.args.job.opened k.found.1.0 k.found.0 in
    record { n_value = (job_dimension c.args.job.opened, held_form h); cells = (k.within, k.found.1.1) }

pub walk-requires : goal.walk-requires
walk-requires c =
    let f = c.in_ok-here.ensures.found in
    start_carries c.args.job.opened c.body.ensures.bytes f.1.0 f.0 c.enter-start.ensures

pub returns : goal.returns
returns c =
    let f = c.in_ok-here.ensures.found in
    let e = start_answered c.args.job.opened c.body.ensures.bytes f.1.0 f.0 _ c.enter-start.ensures.place c.walk.ensures in
    record { answer = e.answer; written = e.buffer }
