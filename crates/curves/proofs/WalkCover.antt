-- The trace from the start and the trace from the start turned list, if neither is full, every facet of the curve.
use mathlib.Core.Path.{◌≡◌, refl, sym, ◌∙◌, ap}
use mathlib.Core.Bool.{Bool}
use mathlib.Core.Logic.{◌⊎◌, inl, inr, ⊎_elim}
use mathlib.Core.List.Memᴰ
use mathlib.Core.List.{List, map}
use Rattle.curves.specs.Walk.{Next, go, Verdict, loop, stopped, full, Trace}
use Rattle.curves.specs.Curve.{◌∈◌, Joined}
use Rattle.curves.specs.WalkGrid.{Grid}
use Rattle.curves.specs.WalkRun.{Ends, Traced}
use Rattle.curves.proofs.WalkSteps.{next_unique, go_not_stop}
use Rattle.curves.proofs.WalkRun.{run_first, run_next, run_previous}
use Rattle.curves.proofs.WalkJoined.{joined_inside, traced_ok}

module _
    {P W F : Type 0} {facet : P → F} {turn : P → P} {step : P → Next P W} {same : P → P → Bool} {Ok Side : P → Type 0} {Shares : F → F → Type 0}
    (g : Grid facet turn step same Ok Side Shares) where
  pub traced_first : {s : P} {t : Trace P W} → Traced facet step s t → facet s ∈ map facet t.places
  traced_first m = Memᴰ.map facet (run_first m.run)

  -- A place whose facet stands in a trace is a place of the trace, or one of them turned.
  pub listed_place :
      {s p : P} {t : Trace P W} →
      Ok s → Traced facet step s t → Ok p → facet p ∈ map facet t.places → (w : P) × (w ∈ t.places) × ((p ≡ w) ⊎ (p ≡ turn w))
  listed_place {t = t} os m op i =
      let w = Memᴰ.of_map facet t.places i in
      (w.0, w.1, g.facet_two (traced_ok g os m w.1) op w.2)

  -- Where the step of a listed place leads is listed.
  pub traced_next :
      {s w y : P} {t : Trace P W} →
      Traced facet step s t → ¬ (t.verdict ≡ full) → w ∈ t.places → step w ≡ go y → facet y ∈ map facet t.places
  traced_next {s} {w} {y} {t} m n i e = ⊎_elim at_last (λ u. Memᴰ.cast (ap facet (next_unique e u.2)) (Memᴰ.map facet u.1)) (run_next m.run i)
    where
      ending : (v : Verdict W) → t.verdict ≡ v → step m.last ≡ go y → Ends facet step s m.last v → facet y ∈ map facet t.places
      ending loop h f (z, k, c) = Memᴰ.cast (ap facet (next_unique f k) ∙ c) (traced_first m)
      ending (stopped v) h f k = absurd (go_not_stop f k)
      ending full h f k = absurd (n h)

      at_last : w ≡ m.last → facet y ∈ map facet t.places
      at_last h = ending t.verdict refl (ap step (sym h) ∙ e) m.ends

  -- The same of a place with a listed facet, unless it is the start turned.
  pub traced_step :
      {s p y : P} {t : Trace P W} →
      Ok s → Traced facet step s t → ¬ (t.verdict ≡ full) → Ok p → facet p ∈ map facet t.places → step p ≡ go y →
      (facet y ∈ map facet t.places) ⊎ (p ≡ turn s)
  traced_step {s} {p} {y} {t} os m n op i e =
      let w = listed_place os m op i in
      ⊎_elim
      (λ (h : p ≡ w.0). inl (traced_next m n w.1 (ap step (sym h) ∙ e)))
      (λ (h : p ≡ turn w.0).
      ⊎_elim
      (λ (k : w.0 ≡ s). inr (h ∙ ap turn k))
      (λ u.
      let ou = traced_ok g os m u.1 in
      let back : step p ≡ go (turn u.0) = ap step h ∙ g.step_back ou u.2 in
      inl (Memᴰ.cast (ap facet (next_unique e back) ∙ g.facet_turn ou) (Memᴰ.map facet u.1)))
      (run_previous m.run w.1))
      w.2

  pub both_cover :
      {s : P} {t b : Trace P W} →
      Ok s →
      Traced facet step s t → ¬ (t.verdict ≡ full) →
      Traced facet step (turn s) b → ¬ (b.verdict ≡ full) →
      (f : F) → Joined Shares (facet s) f → (f ∈ map facet t.places) ⊎ (f ∈ map facet b.places)
  both_cover {s} {t} {b} o mt nt mb nb =
      joined_inside
      g
      (λ f. (f ∈ map facet t.places) ⊎ (f ∈ map facet b.places))
      o
      (inl (traced_first mt))
      (λ p y op i e. ⊎_elim (in_first p y op e) (in_second p y op e) i)
    where
      -- a step from a facet of the list leads to a facet of one of the two traces
      Leads : List P → Type 0
      Leads l =
          (p y : P) → Ok p → step p ≡ go y → facet p ∈ map facet l →
          (facet y ∈ map facet t.places) ⊎ (facet y ∈ map facet b.places)

      in_first : Leads t.places
      in_first p y op e i =
          ⊎_elim
          (λ j. inl j)
          (λ (h : p ≡ turn s). inr (traced_next mb nb (run_first mb.run) (ap step (sym h) ∙ e)))
          (traced_step o mt nt op i e)

      in_second : Leads b.places
      in_second p y op e i =
          ⊎_elim
          (λ j. inr j)
          (λ (h : p ≡ turn (turn s)). inl (traced_next mt nt (run_first mt.run) (ap step (sym (h ∙ g.turn_turn o)) ∙ e)))
          (traced_step (g.ok_turn o) mb nb op i e)
