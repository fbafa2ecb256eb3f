-- The facets of a trace: no facet stands in a trace twice, and each is joined to the start's.
-- Also: each facet joined to the start's is the facet of a place, and what is closed under steps holds all of them.
use Prim.Native.Nat.{ℕ, zero, suc}
use native.Mathlib.Omega.{arith}
use mathlib.Core.Path.{◌≡◌, refl, sym, ◌∙◌, ap, subst}
use mathlib.Core.Bool.{Bool}
use mathlib.Core.Logic.{◌⊎◌, inl, inr, ⊎_elim}
use mathlib.Core.List.Memᴰ
use mathlib.Core.List.{[], map}
use Rattle.curves.specs.Walk.{Next, go, full, Trace, trace}
use Rattle.curves.specs.Curve.{◌∈◌, NoDup, Joined, itself, onward}
use Rattle.curves.specs.WalkGrid.{Grid}
use Rattle.curves.specs.WalkRun.{Steps, stay, move, Traced}
use Rattle.curves.proofs.WalkRun.{run_place, run_ok, run_no_repeat}
use Rattle.curves.proofs.WalkTrace.{trace_from_none, trace_traced}

module _
    {P W F : Type 0} {facet : P → F} {turn : P → P} {step : P → Next P W} {same : P → P → Bool} {Ok Side : P → Type 0} {Shares : F → F → Type 0}
    (g : Grid facet turn step same Ok Side Shares) where
  pub steps_joined : {n : ℕ} {f : F} {x z : P} → Ok x → Steps step n x z → Joined Shares f (facet x) → Joined Shares f (facet z)
  steps_joined {f = f} o (stay e) j = subst (λ w. Joined Shares f (facet w)) e j
  steps_joined o (move e t) j = steps_joined (g.ok_step o e) t (onward j (g.step_shares o e))

  pub traced_no_repeat : {s : P} {t : Trace P W} → Ok s → Traced facet step s t → NoDup (map facet t.places)
  traced_no_repeat o m = run_no_repeat g {k = 0} o (stay refl) m.run (λ d w u h. m.away d w u (omega arith))

  pub traced_ok : {s w : P} {t : Trace P W} → Ok s → Traced facet step s t → w ∈ t.places → Ok w
  traced_ok o m i = run_ok g o m.run i

  pub traced_joined : {s : P} {t : Trace P W} {f : F} → Ok s → Traced facet step s t → f ∈ map facet t.places → Joined Shares (facet s) f
  traced_joined {s} {t} o m i =
      let w = Memᴰ.of_map facet t.places i in
      subst (Joined Shares (facet s)) w.2 (steps_joined o (run_place m.run w.1).2 itself)

  -- A trace that is not full has space and so lists a place.
  pub not_full_traced : {s : P} → Ok s → (a : ℕ) → ¬ ((trace step same s a).verdict ≡ full) → Traced facet step s (trace step same s a)
  unfolding trace
  not_full_traced {s} o zero n = absurd (n (ap (λ t. t.verdict) (trace_from_none step same s s)))
  not_full_traced o (suc a) n = trace_traced g o a

  pub nothing_or_traced : {s : P} → Ok s → (a : ℕ) → ((trace step same s a).places ≡ []) ⊎ Traced facet step s (trace step same s a)
  unfolding trace
  nothing_or_traced {s} o zero = inl (ap (λ t. t.places) (trace_from_none step same s s))
  nothing_or_traced o (suc a) = inr (trace_traced g o a)

  pub joined_ok : {s : P} {f : F} → Ok s → Joined Shares (facet s) f → (p : P) × Ok p × (facet p ≡ f)
  joined_ok {s} o itself = (s, o, refl)
  joined_ok {s} o (onward {h = h} j shares) =
      let t = joined_ok o j in
      ⊎_elim
      (λ e. (t.0, t.1, e))
      (λ u. (u.1, g.ok_step u.2 u.4, u.5))
      (g.shares_step t.1 (subst (λ f. Shares f h) (sym t.2) shares))

  -- Facets that hold the start's, and with the facet of a place the one that its step leads to, are the whole curve.
  pub joined_inside :
      (In : F → Type 0) {s : P} →
      Ok s →
      In (facet s) →
      ((p y : P) → Ok p → In (facet p) → step p ≡ go y → In (facet y)) →
      (f : F) → Joined Shares (facet s) f → In f
  joined_inside In o i closed f itself = i
  joined_inside In o i closed f (onward {g = k} {h = h} j shares) =
      let t = joined_ok o j in
      let here = joined_inside In o i closed k j in
      ⊎_elim
      (λ e. subst In (sym t.2 ∙ e) here)
      (λ u. subst In u.5 (closed u.0 u.1 u.2 (subst In (sym (u.3 ∙ t.2)) here) u.4))
      (g.shares_step t.1 (subst (λ f. Shares f h) (sym t.2) shares))
