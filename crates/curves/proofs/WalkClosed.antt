-- A loop: the place after its last is the start itself, it lists the whole curve, and the curve closes.
-- In a curve that closes no step stops.
use Prim.Native.Nat.{suc}
use mathlib.Core.Path.{◌≡◌, refl, sym, ◌∙◌, ap, subst}
use mathlib.Core.Bool.{Bool}
use mathlib.Core.Logic.{⊎_elim}
use mathlib.Core.List.Memᴰ
use mathlib.Core.List.{map}
use Rattle.curves.specs.Walk.{Next, go, Verdict, loop, stopped, full, Trace}
use Rattle.curves.specs.Curve.{◌∈◌, Joined, itself, ClosesAtPlaces}
use Rattle.curves.specs.WalkGrid.{Grid}
use Rattle.curves.specs.WalkRun.{Steps, Ends, Traced}
use Rattle.curves.proofs.WalkSteps.{next_unique, go_not_stop, steps_more, steps_ok, no_steps_to_turned}
use Rattle.curves.proofs.WalkRun.{run_steps, run_last, run_next, run_previous}
use Rattle.curves.proofs.WalkJoined.{steps_joined, joined_inside, traced_ok}
use Rattle.curves.proofs.WalkCover.{traced_first, listed_place}

module _
    {P W F : Type 0} {facet : P → F} {turn : P → P} {step : P → Next P W} {same : P → P → Bool} {Ok Side : P → Type 0} {Shares : F → F → Type 0}
    (g : Grid facet turn step same Ok Side Shares) where
  -- The side agrees too: a loop that came back to the start turned would have folded onto itself.
  pub loop_returns : {s : P} {t : Trace P W} → Ok s → (m : Traced facet step s t) → t.verdict ≡ loop → step m.last ≡ go s
  loop_returns {s} o m h =
      let e : Ends facet step s m.last loop = subst (Ends facet step s m.last) h m.ends in
      let r = run_steps m.run in
      let u = steps_more r.2 e.1 in
      ⊎_elim
      (λ (k : e.0 ≡ s). e.1 ∙ ap go k)
      (λ (k : e.0 ≡ turn s). absurd (no_steps_to_turned g (suc r.0) o (subst (λ y. Steps step (suc r.0) s y) k u)))
      (g.facet_two o (steps_ok g o u) (sym e.2))

  -- Each place of a listed facet, on either side, has a step, and it leads to a listed facet.
  loop_step :
      {s p : P} {t : Trace P W} →
      Ok s → Traced facet step s t → t.verdict ≡ loop → Ok p → facet p ∈ map facet t.places →
      (y : P) × (step p ≡ go y) × (facet y ∈ map facet t.places)
  loop_step {s} {p} {t} os m h op i =
      let w = listed_place g os m op i in
      let back = loop_returns os m h in
      let ol = traced_ok g os m (run_last m.run) in
      ⊎_elim
      (λ (k : p ≡ w.0).
      ⊎_elim
      (λ (l : w.0 ≡ m.last). (s, ap step (k ∙ l) ∙ back, traced_first g m))
      (λ u. (u.0, ap step k ∙ u.2, Memᴰ.map facet u.1))
      (run_next m.run w.1))
      (λ (k : p ≡ turn w.0).
      ⊎_elim
      (λ (l : w.0 ≡ s). (
        turn m.last,
        ap step (k ∙ ap turn l) ∙ g.step_back ol back,
        Memᴰ.cast (g.facet_turn ol) (Memᴰ.map facet (run_last m.run)),
      ))
      (λ u.
      let ou = traced_ok g os m u.1 in
      (turn u.0, ap step k ∙ g.step_back ou u.2, Memᴰ.cast (g.facet_turn ou) (Memᴰ.map facet u.1)))
      (run_previous m.run w.1))
      w.2

  pub loop_covers :
      {s : P} {t : Trace P W} →
      Ok s → Traced facet step s t → t.verdict ≡ loop → (f : F) → Joined Shares (facet s) f → f ∈ map facet t.places
  loop_covers {s} {t} o m h =
      joined_inside
      g
      (λ f. f ∈ map facet t.places)
      o
      (traced_first g m)
      (λ p y op i e. let u = loop_step o m h op i in Memᴰ.cast (ap facet (next_unique e u.1)) u.2)

  pub loop_closes : {s : P} {t : Trace P W} → Ok s → Traced facet step s t → t.verdict ≡ loop → ClosesAtPlaces Shares facet Ok Side (facet s)
  loop_closes o m h p op j = g.go_side op (loop_step o m h op (loop_covers o m h (facet p) j)).1

  pub closes_loop :
      {s : P} {t : Trace P W} →
      Ok s → Traced facet step s t → ¬ (t.verdict ≡ full) → ClosesAtPlaces Shares facet Ok Side (facet s) → t.verdict ≡ loop
  closes_loop {s} {t} o m n c = ending t.verdict refl m.ends
    where
      ending : (v : Verdict W) → t.verdict ≡ v → Ends facet step s m.last v → t.verdict ≡ loop
      ending loop h k = h
      ending full h k = absurd (n h)
      ending (stopped w) h k =
          let r = run_steps m.run in
          let ol = steps_ok g o r.2 in
          absurd (go_not_stop (g.side_go ol (c m.last ol (steps_joined g o r.2 itself))).1 k)
