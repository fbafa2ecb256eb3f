-- `scan::is_seam` meets its contract: a facet that is not readable or not crossed is none, and the walks decide of the others.
use Rattle.std.proofs.Common.{sym, ◌∙◌, arith}
use borrow.Author.Tests.{not-true, not-false}
use Rattle.job.proofs.Opened.{job_axes}
use Rattle.columns.proofs.FacetColumns.{zero_cells}
use Rattle.scan.proofs.SeamTest.{not_readable, not_crossed, crossed_held, taken_holds}
use Rattle.scan.proofs.is_seam.Goals as goal

pub take_facet-requires : goal.take_facet-requires
take_facet-requires c =
    let o = c.requires in
    record { masks_under = (o.masks, zero_cells (job_axes o.job)); within = (o.cube.within, (o.cube.room, o.cube.tests)) }

pub returns-then-not-take_facet : goal.returns-then-not-take_facet
returns-then-not-take_facet c =
    let o = c.requires in
    not_readable o (c.take_facet.ensures _ _ o.cube) (not-true _ c.if-not-take_facet.true-raw)

pub crossed-requires : goal.crossed-requires
crossed-requires c =
    let o = c.requires in
    record { cells = (c.take_facet.ensures _ _ o.cube).within; out_le_n = omega arith }

pub returns-then-not-crossed : goal.returns-then-not-crossed
returns-then-not-crossed c =
    let o = c.requires in
    not_crossed o (c.take_facet.ensures _ _ o.cube) (not-false _ c.if-not-take_facet.false-raw) (sym c.crossed.ensures ∙ not-true _ c.if-not-crossed.true-raw)

pub is_least-requires : goal.is_least-requires
is_least-requires c =
    let o = c.requires in
    let taken = c.take_facet.ensures _ _ o.cube in
    let known = not-false _ c.if-not-take_facet.false-raw in
    record {
      held = (crossed_held o taken known (sym c.crossed.ensures ∙ not-false _ c.if-not-crossed.false-raw), o.side);
      holds_facet = (taken_holds o taken known, taken_holds o taken known);
    }
