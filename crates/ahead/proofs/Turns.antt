-- One turn of a walk by its cases: edge, limit, loop, or the next place.
use Prim.Native.Nat.{ℕ}
use mathlib.Core.Path.{◌≡◌, ap, ◌∙◌}
use mathlib.Core.Bool.{true, false}
use mathlib.Core.List.{List}
use lib.IntN.{ℤ}
use Rattle.std.proofs.Common.{Err}
use Rattle.curves.specs.Grid.{Place}
use Rattle.curves.specs.Walk.{after_test, after_step, stop}
use Rattle.paper.specs.Operations.{step_in, on_same_facet}
use Rattle.paper.specs.Answers.{verdict_as, stop_as}
use Rattle.paper.specs.declared.Stop.{Stop}
use Rattle.paper.specs.declared.Stop.TheVariants.{Edge, Limit}
use Rattle.paper.specs.declared.Verdict.TheVariants.{Loop}
use Rattle.paper.specs.Stops.{verdict_of}
use Rattle.places.specs.Held.{place_as}
use Rattle.paper.specs.declared.HeldPlace.{HeldPlace}
use Rattle.step.specs.Ahead.{Leads}
use Rattle.carried.specs.declared.Entered.{Entered}
use Rattle.carried.specs.Carries.{Carries}
use Rattle.ahead.specs.Visited.{GoesOn, VisitedIs}

module _ (s : List ℕ) (n : ℕ) (start x : Place) where
  pub ends : (w : Stop) (cells : List ℤ) → step_in s x ≡ stop (stop_as w) → VisitedIs s n start x (Err (verdict_of w)) cells
  unfolding after_step verdict_as stop_as
  ends Edge cells e rest = ap (after_step on_same_facet rest start x) e
  ends Limit cells e rest = ap (after_step on_same_facet rest start x) e

  pub ends_in_loop : {q : HeldPlace} (cells : List ℤ) → Leads s n x q → on_same_facet (place_as n q) start ≡ true
      → VisitedIs s n start x (Err Loop) cells
  unfolding after_step after_test verdict_as
  ends_in_loop {q} cells l e rest = ap (after_step on_same_facet rest start x) l.is ∙ ap (after_test rest x (place_as n q)) e

  pub goes_on : {q : Entered} {cells : List ℤ} → Leads s n x q.place × Carries s n q cells → on_same_facet (place_as n q.place) start ≡ false
      → GoesOn s n start x q cells
  unfolding after_step after_test
  goes_on {q} l e = record {
    is = λ rest. ap (after_step on_same_facet rest start x) l.0.is ∙ ap (after_test rest x (place_as n q.place)) e;
    carries = l.1;
  }
