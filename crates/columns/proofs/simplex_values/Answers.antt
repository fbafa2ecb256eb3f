-- `columns::simplex_values` meets its contract: the vertices are the corner and its shifts by the masks.
use native.Mathlib.Omega.{arith}
use borrow.Author.Rules.{rules}
use Rattle.job.proofs.Opened.{job_axes}
use Rattle.columns.proofs.FacetColumns.{simplex_list, taken_count, simplex_found}
use Rattle.columns.proofs.simplex_values.Goals as goal

pub returns : goal.returns
returns c =
    simplex_found c.values_at.ensures (simplex_list _ _ _ (search rules)) (taken_count _ _ _ _ (omega (arith, (job_axes c.args.job.opened).high)))
