-- Steps of a walk: they can be taken back from the turned places, no walk leads from a place to that place turned,
-- and a walk that returns to one of its places returns to all of them after as many steps.
use Prim.Native.Nat.{ℕ, zero, suc}
use native.Mathlib.Omega.{arith}
use mathlib.Core.Path.{◌≡◌, refl, sym, ◌∙◌, ap, subst}
use mathlib.Core.Bool.{Bool}
use mathlib.Core.Logic.{◌⊎◌, inl, inr}
use Rattle.curves.specs.Walk.{Next, stop, go}
use Rattle.curves.specs.WalkGrid.{Grid}
use Rattle.curves.specs.WalkRun.{Steps, stay, move}

module _ {P W : Type 0} where
  pub next_unique : {o : Next P W} {y z : P} → o ≡ go y → o ≡ go z → y ≡ z
  next_unique e f = cc

  pub go_not_stop : {o : Next P W} {y : P} {w : W} → o ≡ go y → o ≡ stop w → ⊥
  go_not_stop e f = let z : ◌≡◌ {A = ℕ} 0 1 = cc in omega arith

module _ {P W : Type 0} {step : P → Next P W} where
  -- One more step at the end.
  pub steps_more : {n : ℕ} {x y z : P} → Steps step n x y → step y ≡ go z → Steps step (suc n) x z
  steps_more (stay e) f = move (ap step e ∙ f) (stay refl)
  steps_more (move e t) f = move e (steps_more t f)

  -- One step fewer at the beginning.
  pub steps_after : {n : ℕ} {x y z : P} → Steps step (suc n) x z → step x ≡ go y → Steps step n y z
  steps_after {n} {x} {y} {z} (move f t) e = subst (λ w. Steps step n w z) (next_unique f e) t

  pub steps_unique : {n : ℕ} {x y z : P} → Steps step n x y → Steps step n x z → y ≡ z
  steps_unique (stay e) (stay f) = sym e ∙ f
  steps_unique (move e t) u = steps_unique t (steps_after u e)

  -- Of two walks from one place, one goes on from the end of the other.
  pub steps_meet :
      {i j : ℕ} {x y z : P} → Steps step i x y → Steps step j x z → ((d : ℕ) × Steps step d y z) ⊎ ((d : ℕ) × Steps step d z y)
  steps_meet {j = j} {z = z} (stay e) u = inl (j, subst (λ w. Steps step j w z) e u)
  steps_meet {i} {y = y} (move e t) (stay f) = inr (i, subst (λ w. Steps step i w y) f (move e t))
  steps_meet (move e t) (move f u) = steps_meet t (steps_after (move f u) e)

  -- A walk that is back at x after some steps is back at each later place after as many.
  pub round_forth : {m n : ℕ} {x z : P} → Steps step m x z → Steps step (suc n) x x → Steps step (suc n) z z
  round_forth {n = n} (stay e) r = subst (λ w. Steps step (suc n) w w) e r
  round_forth (move e t) r = round_forth t (steps_more (steps_after r e) e)

module _
    {P W F : Type 0} {facet : P → F} {turn : P → P} {step : P → Next P W} {same : P → P → Bool} {Ok Side : P → Type 0} {Shares : F → F → Type 0}
    (g : Grid facet turn step same Ok Side Shares) where
  pub steps_ok : {n : ℕ} {x z : P} → Ok x → Steps step n x z → Ok z
  steps_ok o (stay e) = subst Ok e o
  steps_ok o (move e t) = steps_ok (g.ok_step o e) t

  pub steps_back : {n : ℕ} {x z : P} → Ok x → Steps step n x z → Steps step n (turn z) (turn x)
  steps_back o (stay e) = stay (ap turn (sym e))
  steps_back o (move e t) = steps_more (steps_back (g.ok_step o e) t) (g.step_back o e)

  -- Such a walk would meet itself in the middle.
  pub no_steps_to_turned : (n : ℕ) {x : P} → Ok x → Steps step n x (turn x) → ⊥
  no_steps_to_turned zero o (stay e) = g.turn_ne o (sym e)
  no_steps_to_turned (suc zero) o (move e (stay f)) = g.step_moves o e (ap facet f ∙ g.facet_turn o)
  no_steps_to_turned (suc (suc n)) {x} o (move {y = y} e t) =
      no_steps_to_turned
      n
      (g.ok_step o e)
      (steps_after (subst (λ w. Steps step (suc n) w (turn y)) (g.turn_turn o) (steps_back (g.ok_step o e) t)) e)

  -- A walk that is back at z after some steps is back at each earlier place after as many.
  pub round_back : {m n : ℕ} {x z : P} → Ok x → Steps step m x z → Steps step (suc n) z z → Steps step (suc n) x x
  round_back {n = n} {x} o t r =
      subst
      (λ w. Steps step (suc n) w w)
      (g.turn_turn o)
      (steps_back (g.ok_turn o) (round_forth (steps_back o t) (steps_back (steps_ok o t) r)))
