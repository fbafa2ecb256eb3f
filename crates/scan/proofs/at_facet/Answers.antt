-- `scan::at_facet` meets its contract: no seam's least, no space, or written.
use native.Mathlib.Omega.{arith}
use mathlib.Core.Path.{sym, ◌∙◌}
use borrow.Author.Tests.{not-true, not-false}
use Rattle.places.specs.Held.{facet_as}
use Rattle.job.proofs.Opened.{job_axes}
use Rattle.step.proofs.HeldPlaces.{held_fits}
use Rattle.least.specs.Search.{least_in}
use Rattle.least.proofs.BothWays.{front_is}
use Rattle.scan.specs.Scanned.{space_for}
use Rattle.scan.proofs.SeamTest.{seam_held, seam_form}
use Rattle.scan.proofs.Written.{facet_passed, facet_left, facet_put, room, counts_on}
use Rattle.scan.proofs.at_facet.Goals as goal

pub returns-then-not-is_seam : goal.returns-then-not-is_seam
returns-then-not-is_seam c =
    let a = c.args in
    facet_passed (least_in a.job.bytes.now) (facet_as a.job.n a.p) c.requires.1 (sym c.is_seam.ensures ∙ not-true _ c.if-not-is_seam.true-raw)

pub overflow_mul-size : goal.overflow_mul-size
overflow_mul-size c = omega (arith, (job_axes c.requires.0.job).high)

pub nonzero_div-buffer : goal.nonzero_div-buffer
nonzero_div-buffer c = omega (arith, (job_axes c.requires.0.job).low)

pub returns-then-buffer-size : goal.returns-then-buffer-size
unfolding space_for
returns-then-buffer-size c =
    let a = c.args in
    facet_left (least_in a.job.bytes.now) (facet_as a.job.n a.p) c.requires.1 (sym c.is_seam.ensures ∙ not-false _ c.if-not-is_seam.false-raw) c.if-buffer-size.true

pub overflow_mul-count : goal.overflow_mul-count
unfolding space_for
overflow_mul-count c =
    let a = c.args in
    omega (arith, room a.job.n a.count a.buffer.now c.if-buffer-size.false, c.well_formed)

pub write_place-requires : goal.write_place-requires
unfolding space_for
write_place-requires c =
    let a = c.args in (
      held_fits (seam_held c.requires.0 (sym c.is_seam.ensures ∙ not-false _ c.if-not-is_seam.false-raw)),
      room a.job.n a.count a.buffer.now c.if-buffer-size.false,
    )

pub overflow_add-result : goal.overflow_add-result
unfolding space_for
overflow_add-result c =
    let a = c.args in
    omega (arith, counts_on a.job.n a.count a.buffer.now c.if-buffer-size.false, c.well_formed)

pub returns : goal.returns
unfolding space_for
returns c =
    let a = c.args in
    let o = c.requires.0 in
    let seam = sym c.is_seam.ensures ∙ not-false _ c.if-not-is_seam.false-raw in
    facet_put (least_in a.job.bytes.now) (facet_as a.job.n a.p) c.requires.1 seam c.if-buffer-size.false (seam_form o seam)
    (rw (← front_is a.job.n a.p o.side) c.write_place.ensures)
