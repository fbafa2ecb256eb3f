-- The number of facets of a curve: there is at most one, a trace with space for so many is not full, and where finitely many
-- facets are crossed there is one.
use Prim.Native.Nat.{ℕ, zero, suc, ◌≤◌, ◌<◌}
use native.Mathlib.Omega.{arith}
use mathlib.Core.Path.{◌≡◌, refl, sym, subst}
use mathlib.Core.Bool.{Bool}
use mathlib.Core.List.Memᴰ
use mathlib.Core.List.{List, [], ◌∷◌, ◌++◌, map}
use lib.ListN.{length, length-append, length-map}
use Rattle.curves.specs.Walk.{Next, Verdict, loop, stopped, full, Trace, trace}
use Rattle.curves.specs.Curve.{◌∈◌, NoDup, none, more, Joined, itself, HasFacets}
use Rattle.curves.specs.WalkGrid.{Grid}
use Rattle.curves.specs.WalkRun.{stay, Ends, Traced}
use Rattle.curves.proofs.WalkSteps.{steps_more}
use Rattle.curves.proofs.WalkLists.{no_dup_length}
use Rattle.curves.proofs.WalkRun.{run_steps, run_place, run_more, run_no_repeat}
use Rattle.curves.proofs.WalkTrace.{trace_full, away_more, trace_traced}
use Rattle.curves.proofs.WalkJoined.{steps_joined, traced_no_repeat, traced_joined, not_full_traced, joined_ok}
use Rattle.curves.proofs.WalkClosed.{loop_covers}
use Rattle.curves.proofs.WalkOpen.{stopped_facets}

pub has_facets_unique : {F : Type 0} {Shares : F → F → Type 0} {f : F} {j k : ℕ} → HasFacets Shares f j → HasFacets Shares f k → j ≡ k
has_facets_unique h i =
    let up : length h.facets ≤ length i.facets = no_dup_length h.no_repeat (λ f m. i.every f (h.only f m)) in
    let down : length i.facets ≤ length h.facets = no_dup_length i.no_repeat (λ f m. h.every f (i.only f m)) in
    omega (arith, h.count, i.count)

module _
    {P W F : Type 0} {facet : P → F} {turn : P → P} {step : P → Next P W} {same : P → P → Bool} {Ok Side : P → Type 0} {Shares : F → F → Type 0}
    (g : Grid facet turn step same Ok Side Shares) where
  -- A full trace lists as many facets of the curve as it has space, and its last step leads to one more.
  full_below_facets :
      {s : P} → Ok s → (a : ℕ) → (trace step same s a).verdict ≡ full →
      (u : List F) → ((f : F) → Joined Shares (facet s) f → f ∈ u) → a < length u
  unfolding trace
  full_below_facets {s} o zero h u all =
      no_dup_length
      (more {x = facet s} Memᴰ.not-nil none)
      (λ f i. Memᴰ.cast (Memᴰ.eq_of_singleton i) (all (facet s) itself))
  full_below_facets {s} o (suc a) h u all =
      let m = trace_traced g o a in
      let l = (trace step same s (suc a)).places in
      let e : Ends facet step s m.last full = subst (Ends facet step s m.last) h m.ends in
      let r = run_steps m.run in
      let long = run_more m.run e.1 in
      let count = length-append l (e.0 ∷ []) in
      let away = away_more g (steps_more r.2 e.1) e.2 (λ d w v k. m.away d w v (omega (arith, r.1))) in
      let once : NoDup (map facet (l ++ (e.0 ∷ []))) =
      run_no_repeat g {k = 0} o (stay refl) long (λ d w v k. away d w v (omega (arith, r.1, count)))
      in
      let inside : length (map facet (l ++ (e.0 ∷ []))) ≤ length u =
      no_dup_length
      once
      (λ f i.
      let w = Memᴰ.of_map facet (l ++ (e.0 ∷ [])) i in
      Memᴰ.cast (sym w.2) (all (facet w.0) (steps_joined g o (run_place long w.1).2 itself)))
      in
      omega (arith, count, length-map (l ++ (e.0 ∷ [])) facet, trace_full step same s (suc a) h)

  pub enough_not_full :
      {s : P} {k : ℕ} → Ok s → HasFacets Shares (facet s) k → (a : ℕ) → k ≤ a → ¬ ((trace step same s a).verdict ≡ full)
  enough_not_full o c a room h = omega (arith, full_below_facets o a h c.facets c.every, c.count)

  pub loop_facets :
      {s : P} {t : Trace P W} → Ok s → Traced facet step s t → t.verdict ≡ loop → HasFacets Shares (facet s) (length (map facet t.places))
  loop_facets {t = t} o m h =
      record {
        facets = map facet t.places;
        no_repeat = traced_no_repeat g o m;
        every = loop_covers g o m h;
        only = λ f i. traced_joined g o m i;
        count = refl;
      }

  pub facets_exist : {s : P} → Ok s → (u : List F) → ((p : P) → Ok p → facet p ∈ u) → (k : ℕ) × HasFacets Shares (facet s) k
  facets_exist {s} o u all = by_verdict (trace step same s (length u)).verdict refl
    where
      holds : {p : P} → Ok p → (f : F) → Joined Shares (facet p) f → f ∈ u
      holds op f j = let t = joined_ok g op j in Memᴰ.cast (sym t.2) (all t.0 t.1)

      room : {p : P} → Ok p → ¬ ((trace step same p (length u)).verdict ≡ full)
      room op h = omega (arith, full_below_facets op (length u) h u (holds op))

      by_verdict : (v : Verdict W) → (trace step same s (length u)).verdict ≡ v → (k : ℕ) × HasFacets Shares (facet s) k
      by_verdict full h = absurd (room o h)
      by_verdict loop h = (_, loop_facets o (not_full_traced g o (length u) (room o)) h)
      by_verdict (stopped w) h =
          let ot = g.ok_turn o in
          let c = stopped_facets g o (not_full_traced g o (length u) (room o)) h (not_full_traced g ot (length u) (room ot)) (room ot) in
          (c.0, c.1)
