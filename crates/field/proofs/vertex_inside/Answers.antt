-- `field::vertex_inside` meets its contract: the box is body 0.
use mathlib.Core.Path.{ap, ◌∙◌}
use mathlib.Core.List.{List}
use Prim.Native.Nat.{ℕ}
use Rattle.paper.specs.Values.{inside_from, field_from, field_of}
use Rattle.places.specs.Held.{vertex_as}
use Rattle.job.proofs.Opened.{job_axes}
use Rattle.field.proofs.OpenedJob.{job_box}
use Rattle.field.proofs.vertex_inside.Goals as goal

pub inside-requires : goal.inside-requires
inside-requires c = (job_axes c.args.job.opened, job_box c.args.job.opened c.body.ensures.bytes)

pub returns : goal.returns
unfolding field_from field_of
returns c = c.inside.ensures ∙ ap (λ (b : List ℕ). inside_from b 0 (vertex_as c.args.job.n c.args.v)) c.body.ensures.bytes
