-- `columns::masks::inside_at` meets its contract: the shift by the mask.
use mathlib.Core.Path.{ap, ◌∙◌}
use Rattle.paper.specs.Values.{field_of}
use Rattle.columns.proofs.masks.inside_at.Goals as goal

pub returns : goal.returns
returns c = c.vertex_inside.ensures ∙ ap (field_of c.args.job.bytes.now).in_box (c.shifted.ensures.is _)
