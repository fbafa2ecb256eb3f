-- Traces from the start and from the start turned, the first stopped: they share only the start's facet, so that the first list
-- and the second without its first facet are the whole curve, each facet once.
use Prim.Native.Nat.{ℕ, suc, ◌+◌}
use native.Mathlib.Omega.{arith}
use mathlib.Core.Path.{◌≡◌, refl, sym, ◌∙◌, ap, subst, subst₂}
use mathlib.Core.Bool.{Bool}
use mathlib.Core.Logic.{◌⊎◌, inl, inr, ⊎_elim}
use mathlib.Core.List.Memᴰ
use mathlib.Core.List.{List, [], ◌∷◌, ◌++◌, map}
use lib.ListN.{length, length-append, length-map}
use Rattle.curves.specs.Walk.{Next, stop, stopped, full, Trace}
use Rattle.curves.specs.Curve.{◌∈◌, NoDup, Joined, HasFacets}
use Rattle.curves.specs.WalkGrid.{Grid}
use Rattle.curves.specs.WalkRun.{Steps, stay, move, Run, one, then, Ends, Traced}
use Rattle.curves.proofs.WalkSteps.{go_not_stop, steps_more, steps_meet, steps_ok, steps_back, no_steps_to_turned, round_forth}
use Rattle.curves.proofs.WalkLists.{no_dup_append, head_out, tail_no_dup}
use Rattle.curves.proofs.WalkRun.{run_steps, run_place}
use Rattle.curves.proofs.WalkTrace.{stopped_not_full}
use Rattle.curves.proofs.WalkJoined.{traced_no_repeat, traced_joined}
use Rattle.curves.proofs.WalkCover.{traced_first, both_cover}

module _ {P W : Type 0} {step : P → Next P W} where
  steps_round : {i j : ℕ} {x y z : P} → Steps step (suc i) x y → Steps step j y z → (n : ℕ) × Steps step (suc n) x z
  steps_round {i} {x = x} t (stay e) = (i, subst (λ w. Steps step (suc i) x w) e t)
  steps_round {i = i} t (move e u) = steps_round {i = suc i} (steps_more t e) u

  -- A walk that stops somewhere never returns.
  stop_no_round : {m n : ℕ} {x z : P} {w : W} → Steps step m x z → step z ≡ stop w → Steps step (suc n) x x → ⊥
  stop_no_round {x = x} {z} t k r = ending (round_forth t r)
    where
      ending : {n : ℕ} → Steps step (suc n) z z → ⊥
      ending (move e u) = go_not_stop e k

  run_head : {x z : P} {l : List P} → Run step x l z → (r : List P) × (l ≡ x ∷ r)
  run_head one = ([], refl)
  run_head (then {l = l} e r) = (l, refl)

module _
    {P W F : Type 0} {facet : P → F} {turn : P → P} {step : P → Next P W} {same : P → P → Bool} {Ok Side : P → Type 0} {Shares : F → F → Type 0}
    (g : Grid facet turn step same Ok Side Shares) where
  -- No place is met with the same side from both sides of the start.
  sides_apart : {s x : P} {i j : ℕ} → Ok s → Steps step i s x → Steps step j (turn s) x → ⊥
  sides_apart {s} o u v =
      ⊎_elim
      (λ t. no_steps_to_turned g t.0 (g.ok_turn o) t.1)
      (λ t. no_steps_to_turned g t.0 o (subst (λ z. Steps step t.0 z (turn s)) (g.turn_turn o) t.1))
      (steps_meet (steps_back g o u) (steps_back g (g.ok_turn o) v))

  -- A facet met from both sides of the start is met with opposite sides, so that one walk goes on where the other came from:
  -- it would be back at the start and never stop, unless it has not left it.
  pub stopped_share :
      {s : P} {w : W} {t b : Trace P W} →
      Ok s → Traced facet step s t → t.verdict ≡ stopped w → Traced facet step (turn s) b →
      (f : F) → f ∈ map facet t.places → f ∈ map facet b.places → f ≡ facet s
  stopped_share {s} {w} {t} {b} o mt h mb f i j =
      let x = Memᴰ.of_map facet t.places i in
      let y = Memᴰ.of_map facet b.places j in
      let u = run_place mt.run x.1 in
      let v = run_place mb.run y.1 in
      meeting x.0 y.0 x.2 u.2 v.2 (g.facet_two (steps_ok g o u.2) (steps_ok g (g.ok_turn o) v.2) (x.2 ∙ sym y.2))
    where
      around : (x : P) {i j : ℕ} → facet x ≡ f → Steps step i s x → Steps step j x s → f ≡ facet s
      around x e (stay k) v = sym e ∙ ap facet (sym k)
      around x e (move k u) v =
          absurd
          (stop_no_round (run_steps mt.run).2 (subst (Ends facet step s mt.last) h mt.ends) (steps_round (move k u) v).1)

      meeting :
          (x y : P) {i j : ℕ} → facet x ≡ f → Steps step i s x → Steps step j (turn s) y → (y ≡ x) ⊎ (y ≡ turn x) → f ≡ facet s
      meeting x y {j = j} e u v (inl k) = absurd (sides_apart o u (subst (λ z. Steps step j (turn s) z) k v))
      meeting x y {j = j} e u v (inr k) =
          let back : Steps step j (turn (turn x)) (turn (turn s)) =
          steps_back g (g.ok_turn o) (subst (λ z. Steps step j (turn s) z) k v)
          in
          around x e u (subst₂ (λ p q. Steps step j p q) (g.turn_turn (steps_ok g o u)) (g.turn_turn o) back)

  -- The number of facets, where the first trace is stopped.
  pub stopped_facets :
      {s : P} {w : W} {t b : Trace P W} →
      Ok s →
      Traced facet step s t → t.verdict ≡ stopped w →
      Traced facet step (turn s) b → ¬ (b.verdict ≡ full) →
      (k : ℕ) × HasFacets Shares (facet s) k × (length t.places + length b.places ≡ k + 1)
  stopped_facets {s} {w} {t} {b} o mt h mb nb = (length curve, record { facets = curve; no_repeat = once; every = every; only = only; count = refl }, total)
    where
      rest : List P
      rest = (run_head mb.run).0

      whole : map facet b.places ≡ facet (turn s) ∷ map facet rest
      whole = ap (map facet) (run_head mb.run).1

      curve : List F
      curve = map facet t.places ++ map facet rest

      in_b : (f : F) → f ∈ map facet rest → f ∈ map facet b.places
      in_b f i = subst (λ l. f ∈ l) (sym whole) (Memᴰ.tail i)

      once_b : NoDup (facet (turn s) ∷ map facet rest)
      once_b = subst NoDup whole (traced_no_repeat g (g.ok_turn o) mb)

      once : NoDup curve
      once =
          no_dup_append
          (traced_no_repeat g o mt)
          (tail_no_dup once_b)
          (λ f i j. head_out once_b (Memᴰ.cast (g.facet_turn o ∙ sym (stopped_share o mt h mb f i (in_b f j))) j))

      every : (f : F) → Joined Shares (facet s) f → f ∈ curve
      every f j =
          ⊎_elim
          (λ i. Memᴰ.append_left (map facet rest) i)
          (λ i.
          ⊎_elim
          (λ e. Memᴰ.append_left (map facet rest) (Memᴰ.cast (e ∙ g.facet_turn o) (traced_first g mt)))
          (λ k. Memᴰ.append_right (map facet t.places) k)
          (Memᴰ.cases_cons (subst (λ l. f ∈ l) whole i)))
          (both_cover g o mt (stopped_not_full h) mb nb f j)

      only : (f : F) → f ∈ curve → Joined Shares (facet s) f
      only f i =
          ⊎_elim
          (traced_joined g o mt)
          (λ k. subst (λ c. Joined Shares c f) (g.facet_turn o) (traced_joined g (g.ok_turn o) mb (in_b f k)))
          (Memᴰ.append_cases (map facet t.places) i)

      total : length t.places + length b.places ≡ length curve + 1
      total =
          omega (
            arith,
            length-append (map facet t.places) (map facet rest),
            length-map t.places facet,
            length-map rest facet,
            ap length (run_head mb.run).1,
          )
