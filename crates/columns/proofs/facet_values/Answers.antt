-- `columns::facet_values` meets its contract: the facet's vertices are the lowest and its shifts by the masks.
use native.Mathlib.Omega.{arith}
use mathlib.Core.Path.{◌≡◌}
use lib.ListN.{length}
use borrow.Author.Rules.{rules}
use Rattle.job.proofs.Opened.{job_axes}
use Rattle.places.specs.Held.{facet_as}
use Rattle.columns.proofs.FacetColumns.{facet_list, taken_count, facet_found, facet_refused}
use Rattle.columns.proofs.facet_values.Goals as goal

pub returns-in_err-values_at : goal.returns-in_err-values_at
returns-in_err-values_at c =
    facet_refused (facet_as c.args.job.n c.args.p) (facet_list _ (job_axes c.args.job.opened) c.args.p) _ _
    (rw c.facet_masks.ensures at c.in_err-values_at.ensures) c.from_residual.ensures

pub returns : goal.returns
returns c =
    let axes = job_axes c.args.job.opened in
    let masks : length c.args.p.masks ≡ 3 = search rules in
    facet_found (facet_as c.args.job.n c.args.p) (facet_list _ axes c.args.p) (taken_count _ _ _ _ (omega (arith, axes.high, masks)))
    (rw c.facet_masks.ensures at c.in_ok-values_at.ensures)
