-- The third demand holds of the traces over every grid.
use Prim.Native.Nat.{ℕ, ◌+◌}
use native.Mathlib.Omega.{arith}
use mathlib.Core.Path.{◌≡◌, refl, sym, ◌∙◌, ap, subst}
use mathlib.Core.Bool.{Bool}
use mathlib.Core.Logic.{⊎_elim}
use mathlib.Core.List.Memᴰ
use mathlib.Core.List.{List, [], ◌∷◌, ◌++◌, map}
use lib.ListN.{length, length-append}
use Rattle.curves.specs.Walk.{Next, Verdict, loop, stopped, full, Trace}
use Rattle.curves.specs.Curve.{◌∈◌, NoDup, none, Joined, ClosesAtPlaces, HasFacets}
use Rattle.curves.specs.WalkGrid.{Grid}
use Rattle.curves.specs.WalkRun.{Traced}
use Rattle.curves.specs.WalkDemand.{BothLoop, NeitherLoop, NeitherFull, Demand3}
use Rattle.curves.proofs.WalkReverse.{traced_reverse}
use Rattle.curves.proofs.WalkJoined.{traced_no_repeat, traced_joined, not_full_traced, nothing_or_traced}
use Rattle.curves.proofs.WalkCover.{both_cover}
use Rattle.curves.proofs.WalkClosed.{loop_covers, loop_closes, closes_loop}
use Rattle.curves.proofs.WalkOpen.{stopped_share, stopped_facets}
use Rattle.curves.proofs.WalkCount.{has_facets_unique, enough_not_full}

snoc_not_nil : {A : Type 0} (l : List A) (z : A) → l ++ (z ∷ []) ≡ [] → ⊥
snoc_not_nil l z e = omega (arith, ap length e, length-append l (z ∷ []))

module _
    {P W F : Type 0} {facet : P → F} {turn : P → P} {step : P → Next P W} {same : P → P → Bool} {Ok Side : P → Type 0} {Shares : F → F → Type 0}
    (g : Grid facet turn step same Ok Side Shares) where
  -- What is joined to the facet of a place turned is joined to the facet of the place.
  unturned : {s : P} {f : F} → Ok s → Joined Shares (facet (turn s)) f → Joined Shares (facet s) f
  unturned {f = f} o = subst (λ c. Joined Shares c f) (g.facet_turn o)

  turned : {s : P} {f : F} → Ok s → Joined Shares (facet s) f → Joined Shares (facet (turn s)) f
  turned {f = f} o = subst (λ c. Joined Shares c f) (sym (g.facet_turn o))

  module _
      {s : P} {t b : Trace P W}
      (o : Ok s)
      (mt : Traced facet step s t) (nt : ¬ (t.verdict ≡ full))
      (mb : Traced facet step (turn s) b) (nb : ¬ (b.verdict ≡ full))
    where
      closed_loops : ClosesAtPlaces Shares facet Ok Side (facet s) → BothLoop facet Shares s t b
      closed_loops c =
          let c' : ClosesAtPlaces Shares facet Ok Side (facet (turn s)) = λ p op j. c p op (unturned o j) in
          let lt = closes_loop g o mt nt c in
          let lb = closes_loop g (g.ok_turn o) mb nb c' in
          record {
            first_loop = lt;
            second_loop = lb;
            first_every = loop_covers g o mt lt;
            second_every = λ f j. loop_covers g (g.ok_turn o) mb lb f (turned o j);
          }

      open_stops : ¬ ClosesAtPlaces Shares facet Ok Side (facet s) → NeitherLoop facet Shares s t b
      open_stops c = by_verdict t.verdict refl
        where
          not_second : ¬ (b.verdict ≡ loop)
          not_second h = c (λ p op j. loop_closes g (g.ok_turn o) mb h p op (turned o j))

          by_verdict : (v : Verdict W) → t.verdict ≡ v → NeitherLoop facet Shares s t b
          by_verdict loop h = absurd (c (loop_closes g o mt h))
          by_verdict full h = absurd (nt h)
          by_verdict (stopped w) h =
              record {
                first_not_loop = λ e. c (loop_closes g o mt e);
                second_not_loop = not_second;
                share_start = stopped_share g o mt h mb;
                counts =
                    λ k i.
                    let u = stopped_facets g o mt h mb nb in
                    u.2 ∙ ap (λ n. n + 1) (has_facets_unique u.1 i);
              }

      whole : NeitherFull facet Shares (ClosesAtPlaces Shares facet Ok Side (facet s)) s t b
      whole =
          record {
            every = both_cover g o mt nt mb nb;
            only = λ f. ⊎_elim (traced_joined g o mt) (λ i. unturned o (traced_joined g (g.ok_turn o) mb i));
            closed = closed_loops;
            not_closed = open_stops;
          }

  pub demand3 : {s : P} → Ok s → (a b : ℕ) → Demand3 facet turn step same Shares (ClosesAtPlaces Shares facet Ok Side (facet s)) s a b
  demand3 {s} o a b =
      record {
        reversed = ⊎_elim (λ e l z h. absurd (snoc_not_nil l z (sym h ∙ e))) (traced_reverse g o) (nothing_or_traced g o a);
        no_repeat = ⊎_elim (λ e. subst (λ l. NoDup (map facet l)) (sym e) none) (traced_no_repeat g o) (nothing_or_traced g o a);
        joined =
            λ f.
            ⊎_elim
            (λ e i. absurd (Memᴰ.not-nil (subst (λ l. f ∈ map facet l) e i)))
            (λ m i. traced_joined g o m i)
            (nothing_or_traced g o a);
        first_enough = λ k c. enough_not_full g o c a;
        second_enough = λ k c. enough_not_full g (g.ok_turn o) (subst (λ f. HasFacets Shares f k) (sym (g.facet_turn o)) c) b;
        neither_full = λ nt nb. whole o (not_full_traced g o a nt) nt (not_full_traced g (g.ok_turn o) b nb) nb;
      }

-- The demand says the same with an equivalent form of "the curve closes".
pub demand3_closed :
    {P W F : Type 0} {facet : P → F} {turn : P → P} {step : P → Next P W} {same : P → P → Bool} {Shares : F → F → Type 0} {C D : Type 0} {s : P} {a b : ℕ} →
    (D → C) → (C → D) → Demand3 facet turn step same Shares C s a b → Demand3 facet turn step same Shares D s a b
demand3_closed to from d =
    record {
      reversed = d.reversed;
      no_repeat = d.no_repeat;
      joined = d.joined;
      first_enough = d.first_enough;
      second_enough = d.second_enough;
      neither_full =
          λ nt nb.
          let w = d.neither_full nt nb in
          record {
            every = w.every;
            only = w.only;
            closed = λ h. w.closed (to h);
            not_closed = λ h. w.not_closed (λ c. h (from c));
          };
    }
