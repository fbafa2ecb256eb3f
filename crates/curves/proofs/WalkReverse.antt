-- The trace from the last place turned, with space for just as many, lists the same places in reverse, each turned.
use Prim.Native.Nat.{suc}
use native.Mathlib.Omega.{arith}
use mathlib.Core.Path.{◌≡◌, refl, sym, ◌∙◌, ap, subst}
use mathlib.Core.Bool.{Bool}
use mathlib.Core.Logic.{⊎_elim}
use mathlib.Core.List.Memᴰ
use mathlib.Core.List.{List, [], ◌∷◌, ◌++◌, map, reverse}
use lib.ListN.{length, length-map, length-reverse, length-append}
use Rattle.curves.specs.Walk.{Next, Trace, trace, trace_from}
use Rattle.curves.specs.Curve.{◌∈◌}
use Rattle.curves.specs.WalkGrid.{Grid}
use Rattle.curves.specs.WalkRun.{Steps, stay, Run, one, then, Away, Traced}
use Rattle.curves.proofs.WalkSteps.{steps_ok, steps_back, no_steps_to_turned, round_back}
use Rattle.curves.proofs.WalkRun.{run_steps, run_first, run_last, run_ok, run_back}
use Rattle.curves.proofs.WalkTrace.{run_traced}

run_last_is : {P W : Type 0} {step : P → Next P W} {x y z : P} {m : List P} (l : List P) → Run step x m z → m ≡ l ++ (y ∷ []) → z ≡ y
run_last_is [] one e = cc
run_last_is {step = step} [] (then {y = y} {z} f r) e =
    absurd (Memᴰ.not-nil (subst (λ m. y ∈ m) (cc) (run_first r)))
run_last_is {y = y} (a ∷ l) one e = let bad : ⊥ = omega (arith, ap length e, length-append l (y ∷ [])) in absurd bad
run_last_is (a ∷ l) (then f r) e = run_last_is l r (cc)

module _
    {P W F : Type 0} {facet : P → F} {turn : P → P} {step : P → Next P W} {same : P → P → Bool} {Ok Side : P → Type 0} {Shares : F → F → Type 0}
    (g : Grid facet turn step same Ok Side Shares) where
  -- Nor does the walk back return to the facet that it began with.
  away_back : {s z : P} {l : List P} → Ok s → Run step s l z → Away facet step s (length l) → Away facet step (turn z) (length l)
  away_back {s} {z} o r away d w u h f =
      let oz = run_ok g o r (run_last r) in
      let ot = g.ok_turn oz in
      ⊎_elim
      (λ (e : w ≡ turn z).
      let round : Steps step (suc d) (turn z) (turn z) = subst (λ v. Steps step (suc d) (turn z) v) e u in
      let turned : Steps step (suc d) z z = subst (λ v. Steps step (suc d) v v) (g.turn_turn oz) (steps_back g ot round) in
      away d s (round_back g o (run_steps r).2 turned) h refl)
      (λ (e : w ≡ turn (turn z)). no_steps_to_turned g (suc d) ot (subst (λ v. Steps step (suc d) (turn z) v) e u))
      (g.facet_two ot (steps_ok g ot u) (sym f))

  pub traced_reverse :
      {s : P} {t : Trace P W} →
      Ok s → Traced facet step s t → (l : List P) (z : P) → t.places ≡ l ++ (z ∷ []) →
      (trace step same (turn z) (length t.places)).places ≡ map turn (reverse t.places)
  unfolding trace
  traced_reverse {s} {t} o m l z e =
      let same-last : m.last ≡ z = run_last_is l m.run e in
      let r : Run step s t.places z = subst (λ y. Run step s t.places y) same-last m.run in
      let count : length (map turn (reverse t.places)) ≡ length t.places = length-map (reverse t.places) turn ∙ length-reverse t.places in
      subst
      (λ n. (trace_from step same (turn z) n (turn z)).places ≡ map turn (reverse t.places))
      count
      (run_traced
      g
      {k = 0}
      (g.ok_turn (run_ok g o r (run_last r)))
      (stay refl)
      (run_back g o r)
      (λ d w u h. away_back o r m.away d w u (omega (arith, count))))
