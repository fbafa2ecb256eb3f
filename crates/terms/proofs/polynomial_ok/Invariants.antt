-- `terms::polynomial_ok` meets its contract. The invariant: the test of all terms is the test of those that are left, and what is carried is the least
-- weight of the next one.
use mathlib.Core.Path.{◌≡◌}
use mathlib.Core.Bool.{◌&&◌}
use Prim.Native.Nat.{◌-◌, ◌/◌}
use lib.ListN.{length}
use Rattle.paper.specs.Job.{all_from, term_ok, rises, polynomial_ok}
use Rattle.terms.specs.Carried.{CarriedTo}
use Rattle.terms.proofs.polynomial_ok.Given as goal

abbrev pub invariant-loop-i : goal.invariant-loop-i
invariant-loop-i l =
    (polynomial_ok l.n l.b ≡ all_from (λ k. term_ok l.n l.b k && rises l.b k) l.i (length l.b / 8 - l.i)) × CarriedTo l.n l.b l.i l.least
