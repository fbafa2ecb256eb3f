-- A walk along the loop of one place past another: what it has not met yet and what it has counted tell, with the rest of the trace, what the
-- whole does.
use Prim.Native.Nat.{ℕ, ◌<◌}
use native.Mathlib.Omega.{arith}
use mathlib.Core.Path.{◌≡◌, refl, sym, ap, subst, ◌∙◌}
use mathlib.Core.Bool.{Bool, true, false, not, cond, beq}
use mathlib.Core.List.{List, [], ◌∷◌, map}
use lib.IntN.{ℤ}
use lib.ListN.{length, get_or}
use Rattle.exact.specs.Int.{0ℤ}
use Rattle.curves.specs.Grid.{Place}
use Rattle.curves.specs.Walk.{Verdict, Trace, ended, written, full, after_step}
use Rattle.curves.specs.Step.{Stop}
use Rattle.curves.specs.Box.{keep}
use Rattle.curves.specs.Joined.{Traceable}
use Rattle.paper.specs.Values.{field_of}
use Rattle.paper.specs.Operations.{step_in, on_same_facet}
use Rattle.paper.specs.Demand3.{facets_of}
use Rattle.places.specs.Held.{facet_as, place_as}
use Rattle.paper.specs.declared.HeldPlace.{HeldPlace}
use Rattle.job.proofs.Opened.{job_opens}
use Rattle.step.specs.Held.{Held}
use Rattle.carried.specs.declared.Entered.{Entered}
use Rattle.ahead.specs.Visited.{GoesOn}
use Rattle.seamlist.specs.JobSeams.{job_facets}
use Rattle.seamlist.specs.WholeTrace.{whole_trace, rest_from}
use Rattle.seamlist.proofs.Room.{job_room_lem}
use Rattle.seamlist.proofs.WholeTrace.{whole_rest, ends_here, goes_on_to, begins}
use Rattle.nesting.specs.Inside.{among, odd, inside}
use Rattle.nesting.specs.CutOrder.{loop_of, same_loop, row_end}
use Rattle.loops.specs.declared.Past as Code
use Rattle.loops.specs.Past.{edge_ahead, flips, beside, told, told_of}
use Rattle.loops.proofs.AheadCount.{inside_by_walk}
use Rattle.loops.proofs.EdgesAhead.{plane_vertex}
use Rattle.loops.proofs.LoopFacets.{loop_differ, loop_within}

-- whether an odd number of the facets of a trace are edges ahead of p's lowest vertex
unfoldable pub odd_ahead : Place → Trace Place Stop → Bool
odd_ahead p t = odd (length (keep (edge_ahead p.facet.low) (facets_of t)))

-- before `here` no facet is that of p, and an odd number of them or not are edges ahead
pub record Passing (s : List ℕ) (start here past : HeldPlace) (count : Bool) : Type 0 where
  pub held : Held s 2 start
  pub not_full : ¬ ((rest_from s (place_as 2 start) (place_as 2 here)).verdict ≡ full)
  pub same_loop_lem : same_loop s (place_as 2 past) (place_as 2 start) ≡ among (facets_of (rest_from s (place_as 2 start) (place_as 2 here))) (place_as 2 past).facet
  pub is_inside_lem :
      inside (row_end s) (loop_of s (place_as 2 start)) (place_as 2 past).facet.low
      ≡ flips count (odd_ahead (place_as 2 past) (rest_from s (place_as 2 start) (place_as 2 here)))

-- ---- one place more

flips_flips : (a b c : Bool) → flips a (flips b c) ≡ flips (flips b a) c
unfolding flips
flips_flips true true true = refl
flips_flips true true false = refl
flips_flips true false true = refl
flips_flips true false false = refl
flips_flips false true true = refl
flips_flips false true false = refl
flips_flips false false true = refl
flips_flips false false false = refl

flips_false : (a : Bool) → flips a false ≡ a
unfolding flips
flips_false true = refl
flips_false false = refl

-- the code's test
pub flips_is : (a b : Bool) → not (beq b a) ≡ flips a b
unfolding flips
flips_is true true = refl
flips_is true false = refl
flips_is false true = refl
flips_is false false = refl

-- a place in front of a trace
odd_first : (p x : Place) (t : Trace Place Stop) → odd_ahead p (written x t) ≡ flips (edge_ahead p.facet.low x.facet) (odd_ahead p t)
unfolding odd_ahead keep odd flips
odd_first p x t = go (edge_ahead p.facet.low x.facet)
  where
    go : (b : Bool) → odd (length (cond b (x.facet ∷ keep (edge_ahead p.facet.low) (facets_of t)) (keep (edge_ahead p.facet.low) (facets_of t))))
        ≡ flips b (odd (length (keep (edge_ahead p.facet.low) (facets_of t))))
    go true = refl
    go false = refl

odd_last : (p x : Place) (v : Verdict Stop) → odd_ahead p (ended x v) ≡ flips (edge_ahead p.facet.low x.facet) false
unfolding odd_ahead keep odd flips
odd_last p x v = go (edge_ahead p.facet.low x.facet)
  where
    go : (b : Bool) → odd (length (cond b (x.facet ∷ []) [])) ≡ flips b false
    go true = refl
    go false = refl

-- ---- the walk

module _ {s : List ℕ} {start : HeldPlace} (h : Held s 2 start) where
  -- the walk does not use up the space
  whole_not_full : ¬ ((whole_trace s (place_as 2 start)).verdict ≡ full)
  unfolding whole_trace
  whole_not_full =
      let takes = subst (λ m. Traceable m (field_of s) (place_as 2 start)) h.job.dimension h.traceable in
      job_room_lem (job_opens h.job) (place_as 2 start) takes (length (job_facets s)) (omega arith)

  pub passing_begins : (past : HeldPlace) → length past.low.coordinates ≡ 4 → Passing s start start past false
  unfolding same_loop loop_of odd_ahead flips place_as facet_as
  passing_begins past four =
      let q = place_as 2 start in
      let is = whole_rest s q in
      let e = sym h.job.dimension in
      let low = past.low.coordinates in
      record {
        held = h;
        not_full = λ f. whole_not_full (ap (λ (t : Trace Place Stop). t.verdict) is ∙ f);
        same_loop_lem = ap (λ t. among (facets_of t) (place_as 2 past).facet) is;
        is_inside_lem =
            subst (λ v. inside (row_end s) (loop_of s q) v ≡ odd (length (keep (edge_ahead v) (loop_of s q)))) (sym (plane_vertex past.low four))
            (inside_by_walk (row_end s) (get_or low 0 0ℤ) (get_or low 1 0ℤ) (loop_of s q) (loop_differ (job_opens h.job) e q h.traceable)
            (loop_within (job_opens h.job) e q h.traceable))
            ∙ ap (odd_ahead (place_as 2 past)) is;
      }

module _ {s : List ℕ} {start here past : HeldPlace} {count : Bool} (w : Passing s start here past count) where
  abbrev p : Place
  p = place_as 2 past

  abbrev q : Place
  q = place_as 2 start

  abbrev x : Place
  x = place_as 2 here

  -- the place lies on the facet that the walk has come to
  pub passing_same : {b : Bool} → b ≡ on_same_facet x p → b ≡ true → Code.TheVariants.Same ≡ told_of s p q
  unfolding told_of told rest_from among on_same_facet
  passing_same f k =
      let e : on_same_facet x p ≡ true = sym f ∙ k in
      let l = begins (step_in s) on_same_facet q (length (job_facets s)) x w.not_full in
      let met : same_loop s p q ≡ true = w.same_loop_lem ∙ ap (λ ps. among (map (λ (y : Place). y.facet) ps) p.facet) l.1 ∙ rw e in
      rw met

  module _ {b : Bool} (is_same : b ≡ on_same_facet x p) (is-not : b ≡ false) where
    e : on_same_facet x p ≡ false
    e = sym is_same ∙ is-not

    -- the walk is over
    pub passing_over : {v : Verdict Stop}
        → ((rest : Place → Trace Place Stop) → after_step on_same_facet rest q x (step_in s x) ≡ ended x v)
        → beside (flips (edge_ahead p.facet.low x.facet) count) ≡ told_of s p q
    unfolding told_of told rest_from among on_same_facet
    passing_over {v} f =
        let last = ends_here (step_in s) on_same_facet q (length (job_facets s)) x w.not_full f in
        let met : same_loop s p q ≡ false = w.same_loop_lem ∙ ap (λ t. among (facets_of t) p.facet) last ∙ rw e in
        let parity : inside (row_end s) (loop_of s q) p.facet.low ≡ flips (edge_ahead p.facet.low x.facet) count =
        w.is_inside_lem ∙ ap (λ t. flips count (odd_ahead p t)) last ∙ ap (flips count) (odd_last p x v)
        ∙ flips_flips count (edge_ahead p.facet.low x.facet) false ∙ flips_false _ in
        rw (met, parity)

    -- it goes on
    module _ {r : Entered} {after : List ℤ} (g : GoesOn s 2 q x r after) where
      abbrev y : Place
      y = place_as 2 r.place

      onward : (¬ ((rest_from s q y).verdict ≡ full)) × (rest_from s q x ≡ written x (rest_from s q y))
      unfolding rest_from
      onward = goes_on_to (step_in s) on_same_facet q (length (job_facets s)) x y w.not_full g.is

      pub passing_on : {next : Bool} → next ≡ flips (edge_ahead p.facet.low x.facet) count → Passing s start r.place past next
      unfolding among on_same_facet
      passing_on n = record {
        held = w.held;
        not_full = onward.0;
        same_loop_lem = w.same_loop_lem ∙ ap (λ t. among (facets_of t) p.facet) onward.1 ∙ rw e;
        is_inside_lem =
            w.is_inside_lem ∙ ap (λ t. flips count (odd_ahead p t)) onward.1 ∙ ap (flips count) (odd_first p x (rest_from s q y))
            ∙ flips_flips count (edge_ahead p.facet.low x.facet) (odd_ahead p (rest_from s q y))
            ∙ ap (λ b. flips b (odd_ahead p (rest_from s q y))) (sym n);
      }

      pub fewer_left : length (rest_from s q y).places < length (rest_from s q x).places
      fewer_left = omega (arith, ap (λ (t : Trace Place Stop). length t.places) onward.1)
