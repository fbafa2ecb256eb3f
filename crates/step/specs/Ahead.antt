-- What lies ahead of a place, as the code answers it: what the job's step is there.
use Rattle.std.specs.Prelude.{ℕ, ◌≡◌, List, Result, Ok, Err}
use Rattle.curves.specs.Grid.{Place}
use Rattle.curves.specs.Walk.{stop, go}
use Rattle.paper.specs.Operations.{step_in}
use Rattle.paper.specs.Answers.{stop_as}
use Rattle.places.specs.Held.{place_as}
use Rattle.paper.specs.declared.HeldPlace.{HeldPlace}
use Rattle.paper.specs.declared.Stop.{Stop}
use Rattle.step.specs.Held.{Held}

-- the step leads to the place that is held, which Step does not refuse either
pub record Leads (s : List ℕ) (n : ℕ) (x : Place) (q : HeldPlace) : Type 0 where
  pub is : step_in s x ≡ go (place_as n q)
  pub held : Held s n q

-- the step is the answer: edge, limit, or the next place
abbrev pub AheadIs : List ℕ → ℕ → Place → Result HeldPlace Stop → Type 0
AheadIs s n x (Err w) = step_in s x ≡ stop (stop_as w)
AheadIs s n x (Ok q) = Leads s n x q
