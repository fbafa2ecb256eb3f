-- `benchtop::sizes::job_small` meets its contract: the box, then the polynomials.
use Rattle.std.proofs.Common.{ℕ, ◌*◌, length, sym, ap, ◌∙◌}
use Rattle.paper.proofs.Bodies.{box_length}
use Rattle.job.proofs.Opened.{job_opens}
use Rattle.benchtop.proofs.LimitTests.{box_over, polynomials_decide}
use Rattle.benchtop.proofs.sizes.job_small.Goals as goal

pub box_between-requires : goal.box_between-requires
box_between-requires c =
    let j = c.args.job.opened in
    ap length c.body.ensures.bytes ∙ (box_length (job_opens j) ∙ ap (λ (k : ℕ). 4 * k) (sym j.dimension))

pub returns-then-box_between : goal.returns-then-box_between
returns-then-box_between c =
    polynomials_decide c.args.job.opened c.body.ensures.bytes c.box_between.ensures c.if-box_between.true c.polynomials_small.ensures

pub returns-else-box_between : goal.returns-else-box_between
returns-else-box_between c =
    c.if-box_between.false ∙ box_over c.args.job.opened c.body.ensures.bytes c.box_between.ensures c.if-box_between.false
