-- `OpenJob::values` meets its contract.
use Rattle.paper.specs.Answers.{opened_list}
use Rattle.job.proofs.OpenSteps.{open_values_lem}
use Rattle.job.proofs.OpenJob.values.Goals as goal

pub returns : goal.returns
unfolding opened_list
returns c =
    open_values_lem _ c.args.self.opened.dimension c.polynomial_terms.ensures c.polynomial_terms-2.ensures
    c.polynomial_terms-3.ensures
