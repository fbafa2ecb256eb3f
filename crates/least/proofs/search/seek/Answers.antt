-- `least::search::seek` meets its contract: the turn decides, and then the order of facets.
use Rattle.std.proofs.Common.{sym, ◌∙◌}
use Rattle.std.proofs.lemmas.Result.{err_from_is_err_and}
use Rattle.places.specs.Held.{facet_as, place_as}
use Rattle.least.proofs.Seeking.{seeks_over, seeks_before, seeks_on}
use Rattle.least.proofs.search.seek.Goals as goal

pub returns-in_err-next : goal.returns-in_err-next
returns-in_err-next c =
    let p = err_from_is_err_and c.from_residual.result c.from_residual.ensures.1 in
    rw (p.1, p.2) (seeks_over c.requires _ _ c.in_err-next.ensures)

pub returns-then-facet_before : goal.returns-then-facet_before
unfolding place_as facet_as
returns-then-facet_before c = seeks_before c.requires c.in_ok-next.ensures (sym c.facet_before.ensures ∙ c.if-facet_before.true)

pub returns : goal.returns
unfolding place_as facet_as
returns c = seeks_on c.requires c.in_ok-next.ensures (sym c.facet_before.ensures ∙ c.if-facet_before.false)
