-- `step::ahead::onward` meets its contract: the simplex found is the one on the place's side, and its exit leads on.
-- What the call found is looked for among the facts, so that no answer names the arm in which it stands.
use Rattle.std.proofs.Common.{arith}
use Rattle.job.proofs.Opened.{job_dimension, job_axes}
use Rattle.columns.proofs.FacetColumns.{zero_cells}
use Rattle.step.proofs.HeldPlaces.{held_form, low_moves, corner_moves}
use Rattle.step.proofs.SimplexStep.{at_edge, at_limit, way_inside, leads}
use Rattle.step.proofs.ahead.onward.Goals as goal

pub find-here-requires : goal.find-here-requires
find-here-requires c = (job_dimension c.requires.job, held_form c.requires)

pub vertex_masks-masks-requires : goal.vertex_masks-masks-requires
vertex_masks-masks-requires c = c.find-here.ensures.table

pub corner_of-corner-requires : goal.corner_of-corner-requires
corner_of-corner-requires c = low_moves c.requires

pub simplex_of-requires : goal.simplex_of-requires
simplex_of-requires c =
    let k = c.corner_of-corner.ensures _ _ c.vertex_masks-masks.ensures in
    (c.find-here.ensures.table, (corner_moves c.requires k, zero_cells (job_axes c.requires.job)))

pub returns-in_err-simplex_of : goal.returns-in_err-simplex_of
returns-in_err-simplex_of c =
    let h = c.requires in
    let f = c.find-here.ensures in
    let k = c.corner_of-corner.ensures _ _ c.vertex_masks-masks.ensures in
    grind (arith, at_edge h f k, at_limit h f k)

pub exit-exit-requires : goal.exit-exit-requires
exit-exit-requires c = (c.simplex_of.ensures.cells, c.find-here.ensures.vertex)

pub next-requires : goal.next-requires
next-requires c =
    let h = c.requires in
    let f = c.find-here.ensures in
    let k = c.corner_of-corner.ensures _ _ c.vertex_masks-masks.ensures in
    ((job_axes h.job).high, (way_inside h f k c.simplex_of.new.cells (first_of (search, grind arith)) c.exit-exit.ensures, corner_moves h k))

pub returns : goal.returns
returns c =
    let h = c.requires in
    let f = c.find-here.ensures in
    let masks = c.vertex_masks-masks.ensures in
    let k = c.corner_of-corner.ensures _ _ masks in
    leads h f k c.simplex_of.new.cells (first_of (search, grind arith)) c.exit-exit.ensures (c.next.ensures _ f.table masks)
