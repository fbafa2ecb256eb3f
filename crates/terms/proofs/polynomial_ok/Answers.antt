-- `terms::polynomial_ok` meets its contract. The invariant: the test of all terms is the test of those that are left, and what is carried is the least
-- weight of the next one.
use Rattle.std.proofs.Common.{ap, ◌&&◌, arith}
use Rattle.paper.specs.Job.{all_from, term_count, term_ok, rises, polynomial_ok}
use Rattle.paper.proofs.RangeSteps.{all_next, all_stops, all_ends}
use Rattle.terms.proofs.CarriedOn.{carried_first, carried_stops, carried_passes, carried_next}
use Rattle.terms.proofs.polynomial_ok.Goals as goal

pub loop-i-init : goal.loop-i-init
unfolding polynomial_ok term_count
loop-i-init c = (
  ap (all_from (λ k. term_ok c.args.n c.args.b.now k && rises c.args.b.now k) 0) (omega arith),
  carried_first _ _,
)

pub returns-in-None : goal.returns-in-None
returns-in-None c = all_stops _ _ _ c.loop-i.invariant.0 c.loop-i-test.true (carried_stops _ _ _ c.in-None.ensures)

pub loop-i-preserved : goal.loop-i-preserved
loop-i-preserved c = (
  all_next _ _ _ c.loop-i.invariant.0 c.loop-i-test.true (carried_passes _ _ _ c.in-Some.ensures),
  carried_next _ _ _ c.in-Some.ensures,
)

pub returns : goal.returns
returns c = all_ends _ _ _ c.loop-i.invariant.0 c.loop-i-test.false
