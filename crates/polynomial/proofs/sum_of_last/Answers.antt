-- `polynomial::sum_of_last` meets its contract.
use native.Mathlib.Omega.{arith}
use Prim.Native.Nat.{◌-◌}
use mathlib.Core.Path.{◌≡◌}
use Rattle.paper.specs.Job.{term_count}
use Rattle.polynomial.proofs.PowerLaws.{tables_vertex}
use Rattle.polynomial.proofs.PartialSums.{last_none, last_fits, last_more, running_is}
use Rattle.polynomial.proofs.sum_of_last.Goals as goal

pub overflow_sub-i-start : goal.overflow_sub-i-start
unfolding term_count
overflow_sub-i-start c = omega (arith, c.requires.polynomial.1)

pub loop-i-init : goal.loop-i-init
unfolding term_count
loop-i-init c = (omega arith, last_none c.requires.polynomial.0 (tables_vertex c.requires.tables) _ (omega arith))

pub term_value-sum-requires-clause-polynomial : goal.term_value-sum-requires-clause-polynomial
unfolding term_count
term_value-sum-requires-clause-polynomial c = (c.requires.polynomial.0, omega arith)

pub overflow_add-sum : goal.overflow_add-sum
unfolding term_count
overflow_add-sum c =
    last_fits c.requires.polynomial.0 (tables_vertex c.requires.tables) _ _ (omega arith) (omega arith) c.loop-i.invariant.1 c.term_value-sum.ensures

pub loop-i-preserved : goal.loop-i-preserved
unfolding term_count
loop-i-preserved c = (
  omega arith,
  last_more c.requires.polynomial.0 (tables_vertex c.requires.tables) _ _ (omega arith) (omega arith) c.loop-i.invariant.1 c.term_value-sum.ensures
      (omega arith),
)

pub returns : goal.returns
unfolding term_count
returns c =
    let all : term_count c.args.body.now - c.loop-i.i ≡ c.args.terms = omega arith in
    running_is c.requires.polynomial.0 (tables_vertex c.requires.tables) _ c.requires.polynomial.1 (rw all at c.loop-i.invariant.1)
