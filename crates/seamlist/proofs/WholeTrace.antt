-- A trace that is not full: more space changes nothing, and a turn tells how the rest goes on.
use Prim.Native.Nat.{ℕ, zero, suc}
use mathlib.Core.Path.{◌≡◌, refl, sym, ap, ◌∙◌}
use mathlib.Core.Bool.{Bool, true, false}
use mathlib.Core.List.{List, [], ◌∷◌}
use Rattle.curves.specs.Grid.{Place}
use Rattle.curves.specs.Walk.{Next, stop, go, Verdict, full, Trace, ended, written, after_step, after_test, trace_from, trace}
use Rattle.paper.specs.Operations.{step_in, on_same_facet}
use Rattle.seamlist.specs.WholeTrace.{whole_trace, rest_from}

module _ {P W : Type 0} (step : P → Next P W) (same : P → P → Bool) (s : P) where
  -- the trace from x on
  abbrev from : ℕ → P → Trace P W
  from m x = trace_from step same s m x

  -- a trace that is not full is the same with space for one more
  pub more_space : (m : ℕ) (x : P) → ¬ ((from m x).verdict ≡ full) → from (suc m) x ≡ from m x
  unfolding trace_from after_step after_test
  more_space zero x h = absurd (h refl)
  more_space (suc m) x h = by_step (step x) h (more_space m)
    where
      by_test : (y : P) (b : Bool) → ¬ ((after_test (from m) x y b).verdict ≡ full)
          → ((y : P) → ¬ ((from m y).verdict ≡ full) → from (suc m) y ≡ from m y) → after_test (from (suc m)) x y b ≡ after_test (from m) x y b
      by_test y true k ih = refl
      by_test y false k ih = ap (written x) (ih y k)

      by_step : (r : Next P W) → ¬ ((after_step same (from m) s x r).verdict ≡ full)
          → ((y : P) → ¬ ((from m y).verdict ≡ full) → from (suc m) y ≡ from m y) → after_step same (from (suc m)) s x r ≡ after_step same (from m) s x r
      by_step (stop w) k ih = refl
      by_step (go y) k ih = by_test y (same y s) k ih

  -- the trace ends behind x
  pub ends_here : (m : ℕ) (x : P) {v : Verdict W} → ¬ ((from m x).verdict ≡ full)
      → ((rest : P → Trace P W) → after_step same rest s x (step x) ≡ ended x v) → from m x ≡ ended x v
  unfolding trace_from
  ends_here zero x h e = absurd (h refl)
  ends_here (suc m) x h e = e (from m)

  -- it goes on to y, and what follows is the trace from y on with the same space
  pub goes_on_to : (m : ℕ) (x y : P) → ¬ ((from m x).verdict ≡ full)
      → ((rest : P → Trace P W) → after_step same rest s x (step x) ≡ written x (rest y))
      → (¬ ((from m y).verdict ≡ full)) × (from m x ≡ written x (from m y))
  unfolding trace_from
  goes_on_to zero x y h e = absurd (h refl)
  goes_on_to (suc m) x y h e =
      let is : from (suc m) x ≡ written x (from m y) = e (from m) in
      let some : ¬ ((from m y).verdict ≡ full) = λ f. h (ap (λ (t : Trace P W). t.verdict) is ∙ f) in
      let more : from (suc m) y ≡ from m y = more_space m y some in
      ((λ f. some (sym (ap (λ (t : Trace P W). t.verdict) more) ∙ f)), is ∙ ap (written x) (sym more))

  -- it lists x first
  pub begins : (m : ℕ) (x : P) → ¬ ((from m x).verdict ≡ full) → (l : List P) × ((from m x).places ≡ x ∷ l)
  unfolding trace_from after_step after_test
  begins zero x h = absurd (h refl)
  begins (suc m) x h = by_step (step x)
    where
      by_test : (y : P) (b : Bool) → (l : List P) × ((after_test (from m) x y b).places ≡ x ∷ l)
      by_test y true = ([], refl)
      by_test y false = ((from m y).places, refl)

      by_step : (r : Next P W) → (l : List P) × ((after_step same (from m) s x r).places ≡ x ∷ l)
      by_step (stop w) = ([], refl)
      by_step (go y) = by_test y (same y s)

-- ---- with space for everything

-- the whole trace is the rest from its start on
pub whole_rest : (s : List ℕ) (x : Place) → whole_trace s x ≡ rest_from s x x
unfolding whole_trace rest_from trace step_in on_same_facet
whole_rest s x = refl
