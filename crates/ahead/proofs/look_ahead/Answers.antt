-- `ahead::look_ahead` meets its contract: the step from the place decides.
use Rattle.std.proofs.Common.{sym, ◌∙◌}
use Rattle.std.proofs.lemmas.Result.{err_from_is_err_and}
use Rattle.job.proofs.Opened.{job_axes}
use Rattle.ahead.proofs.Turns.{ends, ends_in_loop, goes_on}
use Rattle.ahead.proofs.look_ahead.Goals as goal

pub returns-in_err-next : goal.returns-in_err-next
returns-in_err-next c =
    let p = err_from_is_err_and c.from_residual.result c.from_residual.ensures.1 in
    rw (p.1, p.2) (ends c.args.job.bytes.now c.args.job.n _ _ _ c.onward.new.cells c.in_err-next.ensures)

pub same_facet-requires : goal.same_facet-requires
same_facet-requires c = job_axes c.args.job.opened

pub returns-then-same_facet : goal.returns-then-same_facet
returns-then-same_facet c = ends_in_loop _ _ _ _ c.onward.new.cells c.in_ok-next.ensures.0 (sym c.same_facet.ensures ∙ c.if-same_facet.true)

pub returns-else-same_facet : goal.returns-else-same_facet
returns-else-same_facet c = goes_on _ _ _ _ c.in_ok-next.ensures (sym c.same_facet.ensures ∙ c.if-same_facet.false)
