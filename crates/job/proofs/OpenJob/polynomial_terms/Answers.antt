-- `OpenJob::polynomial_terms` meets its contract.
use Rattle.std.proofs.Common.{ap, List, ℕ, ◌/◌, ◌<◌, ◌≤◌, length, arith}
use borrow.Author.Tests.{lt-ltb, le-ltb}
use Rattle.paper.specs.Job.{dimension, term_count}
use Rattle.paper.specs.Operations.{polynomial_terms}
use Rattle.job.proofs.OpenJob.polynomial_terms.Goals as goal

pub returns-then-k-self : goal.returns-then-k-self
unfolding polynomial_terms term_count
returns-then-k-self c =
    let l : c.args.k < dimension c.args.self.bytes.now = omega (arith, c.args.self.opened.dimension) in
    rw (lt-ltb _ _ l) (ap (λ (b : List ℕ). length b / 8) c.body.ensures.bytes)

pub returns-else-k-self : goal.returns-else-k-self
unfolding polynomial_terms
returns-else-k-self c =
    let l : dimension c.args.self.bytes.now ≤ c.args.k = omega (arith, c.args.self.opened.dimension) in
    rw (le-ltb _ _ l)
