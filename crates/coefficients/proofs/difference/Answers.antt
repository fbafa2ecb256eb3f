-- `coefficients::difference` meets its contract.
use Rattle.std.proofs.Common.{◌∙◌, ap}
use Rattle.formula.specs.Polynomial.{within, sum_of, difference_of}
use Rattle.coefficients.proofs.CellsMade.{difference_is}
use Rattle.coefficients.proofs.difference.Goals as goal

pub returns : goal.returns
unfolding sum_of difference_of
returns c = c.sum.ensures ∙ ap within (difference_is c.args.q.now.cells c.args.q.now.kept c.opposite.ensures.cells c.args.p.now.cells)
