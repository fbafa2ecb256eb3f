-- `step::ahead::simplex_of` meets its contract: the masks read from the table are those of the row's vertices.
use Rattle.std.proofs.Common.{◌∷◌, [], subst}
use Rattle.columns.specs.Found.{SimplexFound}
use Rattle.step.proofs.RowVertices.{row_simplex}
use Rattle.step.proofs.ahead.simplex_of.Goals as goal

pub returns : goal.returns
returns c =
    subst (λ vs. SimplexFound c.args.job.bytes.now c.args.job.n vs c.simplex_values.result c.simplex_values.new.cells)
    (row_simplex c.args.corner c.requires.0
    (λ i. c.vertex_mask.ensures i ∷ c.vertex_mask-2.ensures i ∷ c.vertex_mask-3.ensures i ∷ c.vertex_mask-4.ensures i ∷ []))
    c.simplex_values.ensures
