-- Runs, the lists of the places of a walk: the places before and after each place, the run taken back from the last place turned,
-- and that no facet stands in a run twice that does not come back to the facet it began with.
use Prim.Native.Nat.{ℕ, suc, ◌+◌, ◌<◌}
use native.Mathlib.Omega.{arith}
use mathlib.Core.Path.{◌≡◌, refl, sym, ◌∙◌, ap, subst}
use mathlib.Core.Bool.{Bool}
use mathlib.Core.Logic.{◌⊎◌, inl, inr, ⊎_elim}
use mathlib.Core.List.Memᴰ
use mathlib.Core.List.{List, [], ◌∷◌, ◌++◌, map, map-append, reverse, reverse-cons}
use lib.ListN.{length}
use Rattle.curves.specs.Walk.{Next, go}
use Rattle.curves.specs.Curve.{◌∈◌, NoDup, none, more}
use Rattle.curves.specs.WalkGrid.{Grid}
use Rattle.curves.specs.WalkRun.{Steps, stay, move, Run, one, then, Away}
use Rattle.curves.proofs.WalkSteps.{steps_more, steps_ok, no_steps_to_turned, round_back}

module _ {P W : Type 0} {step : P → Next P W} where
  pub run_steps : {x z : P} {l : List P} → Run step x l z → (m : ℕ) × (length l ≡ suc m) × Steps step m x z
  run_steps one = (0, refl, stay refl)
  run_steps (then e r) = let t = run_steps r in (suc t.0, ap suc t.1, move e t.2)

  pub run_first : {x z : P} {l : List P} → Run step x l z → x ∈ l
  run_first one = Memᴰ.head refl
  run_first (then e r) = Memᴰ.head refl

  pub run_last : {x z : P} {l : List P} → Run step x l z → z ∈ l
  run_last one = Memᴰ.head refl
  run_last (then e r) = Memᴰ.tail (run_last r)

  pub run_place : {x z w : P} {l : List P} → Run step x l z → w ∈ l → (d : ℕ) × (d < length l) × Steps step d x w
  run_place one (Memᴰ.head e) = (0, omega arith, stay (sym e))
  run_place one (Memᴰ.tail i) = absurd (Memᴰ.not-nil i)
  run_place (then e r) (Memᴰ.head f) = (0, omega arith, stay (sym f))
  run_place (then e r) (Memᴰ.tail i) = let t = run_place r i in (suc t.0, omega (arith, t.1), move e t.2)

  -- Behind each place but the last stands the place that its step leads to.
  pub run_next : {x z w : P} {l : List P} → Run step x l z → w ∈ l → (w ≡ z) ⊎ ((y : P) × (y ∈ l) × (step w ≡ go y))
  run_next one (Memᴰ.head e) = inl e
  run_next one (Memᴰ.tail i) = absurd (Memᴰ.not-nil i)
  run_next (then {y = y} e r) (Memᴰ.head f) = inr (y, Memᴰ.tail (run_first r), ap step f ∙ e)
  run_next (then e r) (Memᴰ.tail i) = ⊎_elim (λ f. inl f) (λ t. inr (t.0, Memᴰ.tail t.1, t.2)) (run_next r i)

  -- Before each place but the first stands a place whose step leads to it.
  pub run_previous : {x z w : P} {l : List P} → Run step x l z → w ∈ l → (w ≡ x) ⊎ ((u : P) × (u ∈ l) × (step u ≡ go w))
  run_previous one (Memᴰ.head e) = inl e
  run_previous one (Memᴰ.tail i) = absurd (Memᴰ.not-nil i)
  run_previous (then e r) (Memᴰ.head f) = inl f
  run_previous (then {x = x} e r) (Memᴰ.tail i) =
      inr
      (⊎_elim
      (λ f. (x, Memᴰ.head refl, e ∙ ap go (sym f)))
      (λ t. (t.0, Memᴰ.tail t.1, t.2))
      (run_previous r i))

  pub run_more : {x y z : P} {l : List P} → Run step x l z → step z ≡ go y → Run step x (l ++ (y ∷ [])) y
  run_more one f = then f one
  run_more (then e r) f = then e (run_more r f)

module _
    {P W F : Type 0} {facet : P → F} {turn : P → P} {step : P → Next P W} {same : P → P → Bool} {Ok Side : P → Type 0} {Shares : F → F → Type 0}
    (g : Grid facet turn step same Ok Side Shares) where
  pub run_ok : {x z w : P} {l : List P} → Ok x → Run step x l z → w ∈ l → Ok w
  run_ok o r i = steps_ok g o (run_place r i).2

  pub run_back : {x z : P} {l : List P} → Ok x → Run step x l z → Run step (turn z) (map turn (reverse l)) (turn x)
  run_back o one = one
  run_back {z = z} o (then {x = x} {l = l} e r) =
      subst
      (λ m. Run step (turn z) m (turn x))
      (sym (ap (map turn) (reverse-cons x l) ∙ map-append turn (reverse l) (x ∷ [])))
      (run_more (run_back (g.ok_step o e) r) (g.step_back o e))

  -- A second place on a facet of the run is the first one again, and the walk came back to its beginning,
  -- or the first one turned, which no walk leads to.
  pub run_no_repeat :
      {k : ℕ} {s x z : P} {l : List P} → Ok s → Steps step k s x → Run step x l z → Away facet step s (k + length l) → NoDup (map facet l)
  run_no_repeat o t one away = more Memᴰ.not-nil none
  run_no_repeat {k} {s} o t (then {x = x} {l = l} e r) away =
      more
      (λ i. again (Memᴰ.of_map facet l i))
      (run_no_repeat {k = suc k} o (steps_more t e) r (λ d w u h. away d w u (omega arith)))
    where
      again : ((w : P) × (w ∈ l) × (facet w ≡ facet x)) → ⊥
      again t' =
          let w = t'.0 in
          let u = run_place r t'.1 in
          let ox = steps_ok g o t in
          let ow = run_ok (g.ok_step ox e) r t'.1 in
          ⊎_elim
          (λ (h : w ≡ x).
          away
          u.0
          s
          (round_back g o t (subst (λ v. Steps step (suc u.0) x v) h (move e u.2)))
          (omega (arith, u.1))
          refl)
          (λ (h : w ≡ turn x). no_steps_to_turned g (suc u.0) ox (subst (λ v. Steps step (suc u.0) x v) h (move e u.2)))
          (g.facet_two ox ow (sym t'.2))
