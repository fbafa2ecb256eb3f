-- One turn of a walk, as the code answers it: the definition of Trace says what is left to do after a place is visited (`after_step`).
use Rattle.std.specs.Prelude.{ℕ, ◌≡◌, List, ℤ, Result, Ok, Err}
use Rattle.curves.specs.Grid.{Place}
use Rattle.curves.specs.Walk.{Trace, ended, written, after_step}
use Rattle.curves.specs.Step.{Stop}
use Rattle.paper.specs.Operations.{step_in, on_same_facet}
use Rattle.paper.specs.Answers.{verdict_as}
use Rattle.paper.specs.declared.Verdict.{Verdict}
use Rattle.places.specs.Held.{place_as}
use Rattle.carried.specs.declared.Entered.{Entered}
use Rattle.carried.specs.Carries.{Carries}

-- the trace goes on from the place that is held, and the cells hold what is carried there
pub record GoesOn (s : List ℕ) (n : ℕ) (start x : Place) (q : Entered) (cells : List ℤ) : Type 0 where
  pub is : (rest : Place → Trace Place Stop) → after_step on_same_facet rest start x (step_in s x) ≡ written x (rest (place_as n q.place))
  pub carries : Carries s n q cells

-- the trace ends behind x with the verdict, or goes on
abbrev pub VisitedIs : List ℕ → ℕ → Place → Place → Result Entered Verdict → List ℤ → Type 0
VisitedIs s n start x (Err v) cells =
    (rest : Place → Trace Place Stop) → after_step on_same_facet rest start x (step_in s x) ≡ ended x (verdict_as v)
VisitedIs s n start x (Ok q) cells = GoesOn s n start x q cells
