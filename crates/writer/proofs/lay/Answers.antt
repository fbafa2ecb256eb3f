-- `writer::lay` meets its contract: contents and bodies are laid as one job.
use mathlib.Core.Path.{ap}
use lib.ListN.{length}
use borrow.Author.Rules.{rules}
use Rattle.laying.specs.Laid.{body_at}
use Rattle.writer.specs.declared.Writer.{Writer}
use Rattle.writer.proofs.JobLaid.{bodies_room, job_laid, laid_in}
use Rattle.writer.proofs.lay.Goals as goal

pub put_bodies-requires : goal.put_bodies-requires
put_bodies-requires c =
    let at = ap (λ (w : Writer). w.at) c.add_contents.ensures.advanced in
    let long = ap (λ (w : Writer). length w.buffer.now) c.add_contents.ensures.advanced in
    (c.requires.0, rw (at, long) (bodies_room c.args.n c.args.bias (body_at c.args.bodies) c.args.buffer.now c.requires.1))

-- the buffer ends as the writer's list does, since the writer still holds the same reference
pub returns : goal.returns
returns c =
    let at = ap (λ (w : Writer). w.at) c.add_contents.ensures.advanced in
    let now = ap (λ (w : Writer). w.buffer.now) c.add_contents.ensures.advanced in
    let behind = rw (at, now) at c.put_bodies.ensures in
    laid_in (search rules) (job_laid c.args.n c.args.bias (body_at c.args.bodies) c.args.buffer.now _ _ behind)
