-- What Trace computes, over any type of places: the start, then step after step up to the verdict.
-- Nothing is said here of grids, jobs or bytes: `step` and `same` are parameters.
use Prim.Native.Nat.{ℕ, zero, suc}
use Rattle.std.specs.Prelude.{Bool, true, false}
use mathlib.Core.List.{List, [], ◌∷◌}

-- The answer of a step: the next place, or why there is none.
pub data Next (P W : Type 0) : Type 0 where
  stop : W → Next P W
  go : P → Next P W

-- The verdict of a trace: the next facet is the start's, the last step stopped, or no space is left.
pub data Verdict (W : Type 0) : Type 0 where
  loop : Verdict W
  stopped : W → Verdict W
  full : Verdict W

pub record Trace (P W : Type 0) : Type 0 where
  pub verdict : Verdict W
  pub places : List P

module _ {P W : Type 0} where
  -- A trace that ends behind the place just written.
  abbrev pub ended : P → Verdict W → Trace P W
  ended here v = record { verdict = v; places = here ∷ [] }

  -- A place written in front of the trace of the rest.
  abbrev pub written : P → Trace P W → Trace P W
  written here t = record { verdict = t.verdict; places = here ∷ t.places }

  -- After a step to `y`: whether `y` lies on the start's facet decides between loop and going on.
  unfoldable pub after_test : (rest : P → Trace P W) (here y : P) → Bool → Trace P W
  after_test rest here y true = ended here loop
  after_test rest here y false = written here (rest y)

  -- After `here` was written: the step's answer decides.
  unfoldable pub after_step : (same : P → P → Bool) (rest : P → Trace P W) (start here : P) → Next P W → Trace P W
  unfolding after_test
  after_step same rest start here (stop v) = ended here (stopped v)
  after_step same rest start here (go y) = after_test rest here y (same y start)

  -- The trace from `here` on, of a walk that began at `start`, with space for so many places.
  unfoldable pub trace_from : (step : P → Next P W) (same : P → P → Bool) (start : P) → (space : ℕ) → (here : P) → Trace P W
  unfolding after_step
  trace_from step same start zero here = record { verdict = full; places = [] }
  trace_from step same start (suc space) here = after_step same (λ y. trace_from step same start space y) start here (step here)

  -- The trace from `start`.
  unfoldable pub trace : (step : P → Next P W) (same : P → P → Bool) (start : P) → (space : ℕ) → Trace P W
  unfolding trace_from
  trace step same start space = trace_from step same start space start
