-- A walk as a relation: so many steps lead from one place to another, and the list of the places on the way.
use Rattle.std.specs.Prelude.{ℕ, zero, suc, ◌<◌, ◌≡◌, List, [], ◌∷◌, length}
use Rattle.curves.specs.Walk.{Next, stop, go, Verdict, loop, stopped, full, Trace}

-- `Steps step n x z`: n steps lead from x to z.
pub data Steps {P W : Type 0} (step : P → Next P W) : ℕ → P → P → Type 0 where
  stay : {x z : P} → x ≡ z → Steps step zero x z
  move : {n : ℕ} {x y z : P} → step x ≡ go y → Steps step n y z → Steps step (suc n) x z

-- `Run step x l z`: l lists x, then step after step, and its last place is z.
pub data Run {P W : Type 0} (step : P → Next P W) : P → List P → P → Type 0 where
  one : {x : P} → Run step x (x ∷ []) x
  then : {x y z : P} {l : List P} → step x ≡ go y → Run step y l z → Run step x (x ∷ l) z

-- `Away facet step s n`: no walk from s is back at the facet of s after fewer than n steps, the beginning aside.
abbrev pub Away : {P W F : Type 0} (facet : P → F) (step : P → Next P W) → P → ℕ → Type 0
Away {P} facet step s n = (d : ℕ) (w : P) → Steps step (suc d) s w → suc d < n → ¬ (facet w ≡ facet s)

-- What a verdict says of the last place z of a trace from s.
abbrev pub Ends : {P W F : Type 0} (facet : P → F) (step : P → Next P W) (s z : P) → Verdict W → Type 0
Ends {P} facet step s z loop = (y : P) × (step z ≡ go y) × (facet y ≡ facet s)
Ends facet step s z (stopped w) = step z ≡ stop w
Ends {P} facet step s z full = (y : P) × (step z ≡ go y) × (¬ (facet y ≡ facet s))

-- A trace that lists a place is the start, then step after step without coming back to the start's facet; its verdict is
-- what the step of its last place says.
pub record Traced {P W F : Type 0} (facet : P → F) (step : P → Next P W) (s : P) (t : Trace P W) : Type 0 where
  pub last : P
  pub run : Run step s t.places last
  pub away : Away facet step s (length t.places)
  pub ends : Ends facet step s last t.verdict
