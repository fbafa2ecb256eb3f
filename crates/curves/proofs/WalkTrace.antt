-- The trace is the iteration of the step: its equations, its length, and that it lists the start, then step after step, up to
-- the verdict that the last place's step gives.
use Prim.Native.Nat.{ℕ, zero, suc, ◌+◌, ◌≤◌, ◌<◌}
use native.Mathlib.Omega.{arith}
use native.Mathlib.Decide.{dec_lt}
use mathlib.Core.Path.{◌≡◌, refl, sym, ◌∙◌, ap, subst}
use mathlib.Core.Bool.{Bool, true, false}
use mathlib.Core.List.{List, [], ◌∷◌}
use lib.ListN.{length}
use Rattle.curves.specs.Walk.{Next, stop, go, Verdict, loop, stopped, full, Trace, ended, written, after_test, after_step, trace_from, trace}
use Rattle.curves.specs.WalkGrid.{Grid}
use Rattle.curves.specs.WalkRun.{Steps, stay, Run, one, then, Away, Ends, Traced}
use Rattle.curves.proofs.WalkSteps.{steps_more, steps_unique, steps_ok}
use Rattle.curves.proofs.WalkRun.{run_steps}

module _ {W : Type 0} where
  pub stopped_not_full : {v : Verdict W} {w : W} → v ≡ stopped w → ¬ (v ≡ full)
  stopped_not_full e f = let z : ◌≡◌ {A = ℕ} 0 1 = cc in omega arith

  pub loop_not_full : {v : Verdict W} → v ≡ loop → ¬ (v ≡ full)
  loop_not_full e f = let z : ◌≡◌ {A = ℕ} 0 1 = cc in omega arith

  pub loop_not_stopped : {v : Verdict W} {w : W} → v ≡ loop → ¬ (v ≡ stopped w)
  loop_not_stopped e f = let z : ◌≡◌ {A = ℕ} 0 1 = cc in omega arith

module _ {P W : Type 0} (step : P → Next P W) (same : P → P → Bool) (s : P) where
  -- ---- the equations of a trace

  pub trace_from_none : (x : P) → trace_from step same s zero x ≡ record { verdict = full; places = [] }
  unfolding trace_from
  trace_from_none x = refl

  pub trace_from_stop : (a : ℕ) {x : P} {w : W} → step x ≡ stop w → trace_from step same s (suc a) x ≡ ended x (stopped w)
  unfolding trace_from after_step
  trace_from_stop a {x} e = ap (after_step same (λ y. trace_from step same s a y) s x) e

  pub trace_from_loop : (a : ℕ) {x y : P} → step x ≡ go y → same y s ≡ true → trace_from step same s (suc a) x ≡ ended x loop
  unfolding trace_from after_step after_test
  trace_from_loop a {x} {y} e f =
      ap (after_step same (λ y. trace_from step same s a y) s x) e ∙ ap (after_test (λ y. trace_from step same s a y) x y) f

  pub trace_from_on :
      (a : ℕ) {x y : P} → step x ≡ go y → same y s ≡ false → trace_from step same s (suc a) x ≡ written x (trace_from step same s a y)
  unfolding trace_from after_step after_test
  trace_from_on a {x} {y} e f =
      ap (after_step same (λ y. trace_from step same s a y) s x) e ∙ ap (after_test (λ y. trace_from step same s a y) x y) f

  -- What holds in each of the three cases behind a written place holds of the trace.
  trace_from_cases :
      (Q : Trace P W → Type 0) (a : ℕ) (x : P) →
      ((w : W) → step x ≡ stop w → Q (ended x (stopped w))) →
      ((y : P) → step x ≡ go y → same y s ≡ true → Q (ended x loop)) →
      ((y : P) → step x ≡ go y → same y s ≡ false → Q (written x (trace_from step same s a y))) →
      Q (trace_from step same s (suc a) x)
  trace_from_cases Q a x stops loops goes = by_step (step x) refl
    where
      by_test : (y : P) → step x ≡ go y → (b : Bool) → same y s ≡ b → Q (trace_from step same s (suc a) x)
      by_test y e true f = subst Q (sym (trace_from_loop a e f)) (loops y e f)
      by_test y e false f = subst Q (sym (trace_from_on a e f)) (goes y e f)

      by_step : (o : Next P W) → step x ≡ o → Q (trace_from step same s (suc a) x)
      by_step (stop w) e = subst Q (sym (trace_from_stop a e)) (stops w e)
      by_step (go y) e = by_test y e (same y s) refl

  -- ---- its length

  pub trace_from_length : (a : ℕ) (x : P) → length (trace_from step same s a x).places ≤ a
  trace_from_length zero x = subst (λ t. length t.places ≤ 0) (sym (trace_from_none x)) (omega arith)
  trace_from_length (suc a) x =
      trace_from_cases
      (λ t. length t.places ≤ suc a)
      a
      x
      (λ w e. omega arith)
      (λ y e f. omega arith)
      (λ y e f. omega (arith, trace_from_length a y))

  pub trace_from_full : (a : ℕ) (x : P) → (trace_from step same s a x).verdict ≡ full → length (trace_from step same s a x).places ≡ a
  trace_from_full zero x = λ h. ap (λ t. length t.places) (trace_from_none x)
  trace_from_full (suc a) x =
      trace_from_cases
      (λ t. t.verdict ≡ full → length t.places ≡ suc a)
      a
      x
      (λ w e h. absurd (stopped_not_full refl h))
      (λ y e f h. absurd (loop_not_full refl h))
      (λ y e f h. ap suc (trace_from_full a y h))

  pub trace_length : (a : ℕ) → length (trace step same s a).places ≤ a
  unfolding trace
  trace_length a = trace_from_length a s

  pub trace_full : (a : ℕ) → (trace step same s a).verdict ≡ full → length (trace step same s a).places ≡ a
  unfolding trace
  trace_full a = trace_from_full a s

module _
    {P W F : Type 0} {facet : P → F} {turn : P → P} {step : P → Next P W} {same : P → P → Bool} {Ok Side : P → Type 0} {Shares : F → F → Type 0}
    (g : Grid facet turn step same Ok Side Shares) where
  -- `Meant s k x t`: t is the rest, from x on, of a walk that came from s to x in k steps.
  Meant : (s : P) (k : ℕ) (x : P) → Trace P W → Type 0
  Meant s k x t = (z : P) × Run step x t.places z × Away facet step s (k + length t.places) × Ends facet step s z t.verdict

  -- A step to another facet than the start's leaves the walk away from the start for one step more.
  pub away_more :
      {s : P} {k : ℕ} {y : P} → Steps step (suc k) s y → ¬ (facet y ≡ facet s) → Away facet step s (suc k) → Away facet step s (suc (suc k))
  away_more {s} {k} {y} t apart away d v u h = ending (dec_lt d k)
    where
      ending : Dec (d < k) → ¬ (facet v ≡ facet s)
      ending (yes l) = away d v u (omega arith)
      ending (no n) =
          let same_count : d ≡ k = omega arith in
          λ e. apart (ap facet (steps_unique t (subst (λ m. Steps step (suc m) s v) same_count u)) ∙ e)

  -- One place of the trace, given what the places after it mean.
  place_meant :
      {s : P} → Ok s → (a : ℕ) {k : ℕ} {x : P} → Steps step k s x → Away facet step s (suc k) →
      ((y : P) → step x ≡ go y → ¬ (facet y ≡ facet s) → Meant s k x (written x (trace_from step same s a y))) →
      Meant s k x (trace_from step same s (suc a) x)
  unfolding Meant
  place_meant {s} o a {k} {x} t away rest =
      let ox = steps_ok g o t in
      trace_from_cases
      step
      same
      s
      (Meant s k x)
      a
      x
      (λ w e. (x, one, λ d v u h. away d v u (omega arith), e))
      (λ y e f. (x, one, λ d v u h. away d v u (omega arith), (y, e, g.same_true (g.ok_step ox e) o f)))
      (λ y e f. rest y e (g.same_false (g.ok_step ox e) o f))

  trace_from_meant :
      {s : P} → Ok s → (a k : ℕ) {x : P} → Steps step k s x → Away facet step s (suc k) → Meant s k x (trace_from step same s (suc a) x)
  unfolding Meant
  trace_from_meant {s} o zero k {x} t away =
      place_meant
      o
      zero
      t
      away
      (λ y e apart.
      subst
      (λ r. Meant s k x (written x r))
      (sym (trace_from_none step same s y))
      (x, one, λ d v u h. away d v u (omega arith), (y, e, apart)))
  trace_from_meant {s} o (suc a) k {x} t away =
      place_meant
      o
      (suc a)
      t
      away
      (λ y e apart.
      let m = trace_from_meant o a (suc k) (steps_more t e) (away_more (steps_more t e) apart away) in
      (m.0, then e m.1, λ d v u h. m.2 d v u (omega arith), m.3))

  pub trace_traced : {s : P} → Ok s → (a : ℕ) → Traced facet step s (trace step same s (suc a))
  unfolding Meant trace
  trace_traced {s} o a =
      let m : Meant s 0 s (trace_from step same s (suc a) s) =
      trace_from_meant o a 0 (stay refl) (λ d w u h. absurd (let bad : ⊥ = omega arith in bad))
      in
      record { last = m.0; run = m.1; away = λ d w u h. m.2 d w u (omega arith); ends = m.3 }

  -- A run that stays away from the start's facet is what the trace lists.
  pub run_traced :
      {k : ℕ} {s x z : P} {l : List P} →
      Ok s → Steps step k s x → Run step x l z → Away facet step s (k + length l) → (trace_from step same s (length l) x).places ≡ l
  run_traced {s = s} {x} o t one away =
      trace_from_cases
      step
      same
      s
      (λ r. r.places ≡ x ∷ [])
      zero
      x
      (λ w e. refl)
      (λ y e f. refl)
      (λ y e f. ap (λ r. x ∷ r.places) (trace_from_none step same s y))
  run_traced {k} {s} o t (then {x = x} {y} {l = l} e r) away =
      ap (λ u. u.places) (trace_from_on step same s (length l) e (differs (same y s) refl)) ∙
      ap (λ m. x ∷ m) (run_traced {k = suc k} o (steps_more t e) r (λ d w u h. away d w u (omega arith)))
    where
      differs : (b : Bool) → same y s ≡ b → same y s ≡ false
      differs false h = h
      differs true h =
          absurd
          (away
          k
          y
          (steps_more t e)
          (omega (arith, (run_steps r).1))
          (g.same_true (g.ok_step (steps_ok g o t) e) o h))
