-- The customer's third demand holds of every job that Trace does not refuse, whatever the spaces.
use Prim.Native.Nat.{ℕ, suc, zero, ◌<◌}
use native.Mathlib.Omega.{arith}
use mathlib.Core.Path.{◌≡◌, refl, sym, ap, subst, ◌∙◌}
use mathlib.Core.List.Memᴰ
use mathlib.Core.List.{List, [], ◌∷◌, ◌++◌}
use lib.ListN.{length}
use Rattle.curves.specs.Grid.{Place, turn}
use Rattle.curves.specs.Walk.{Trace, trace, full}
use Rattle.curves.specs.Curve.{◌∈◌}
use Rattle.curves.specs.Step.{Stop, Field}
use Rattle.curves.specs.Joined.{Traceable}
use Rattle.curves.specs.WalkRun.{Traced}
use Rattle.curves.specs.GridDemand.{GridDemand3}
use Rattle.curves.proofs.WalkTrace.{trace_from_none, trace_traced, trace_length, trace_full}
use Rattle.curves.proofs.GridStep.{turn_traceable}
use Rattle.curves.proofs.Demand.{grid_demand3}
use Rattle.paper.specs.Job.{dimension}
use Rattle.paper.specs.Values.{field_of}
use Rattle.paper.specs.Operations.{step_in, start_of, trace_refusal, on_same_facet}
use Rattle.paper.specs.Demand3.{StepAfterStep, Reversed, Demand3}
use Rattle.paper.proofs.Opens.{Opens, opens_range}
use Rattle.paper.proofs.StartTraceable.{traceable_stepped, trace_opens, start_traceable, start_traced, with_start_traced}
use Rattle.paper.proofs.PlacesWritten.{job_walk, listed_traceable, listed_read}
use Rattle.paper.proofs.CurveCounted.{curve_counted, curve_closes_or_not}

trace_nothing : (s : List ℕ) (p : Place) → trace (step_in s) on_same_facet p 0 ≡ record { verdict = full; places = [] }
unfolding trace
trace_nothing s p = trace_from_none (step_in s) on_same_facet p p

module _ {s : List ℕ} (o : Opens s) (p : Place) (t : Traceable (dimension s) (field_of s) p) (space : ℕ) where
  -- the trace from the place
  abbrev from : Trace Place Stop
  from = trace (step_in s) on_same_facet p space

  listed_traced : (k : ℕ) → 0 < k → Traced (λ (q : Place). q.facet) (step_in s) p (trace (step_in s) on_same_facet p k)
  unfolding step_in on_same_facet
  listed_traced zero l = absurd (omega arith)
  listed_traced (suc k) l = trace_traced (job_walk o p t space) t k

  pub step_after_step : StepAfterStep s p space from
  unfolding step_in on_same_facet
  step_after_step =
      record {
        nothing = λ e. ap (trace (step_in s) on_same_facet p) e ∙ trace_nothing s p;
        something = listed_traced space;
        room = trace_length (step_in s) on_same_facet p space;
        full_room = trace_full (step_in s) on_same_facet p space;
        taken = λ q i. traceable_stepped o q (listed_traceable o p t space q i);
        written = listed_read o p t space;
      }

  -- the trace from its last place turned lists the same places in reverse, each turned
  reversed_from : (l : List Place) (z : Place) → from.places ≡ l ++ (z ∷ []) → Reversed s from z
  unfolding step_in on_same_facet
  reversed_from l z e =
      let n : ℕ = dimension s in
      let φ : Field = field_of s in
      let d : GridDemand3 n φ p space 0 = grid_demand3 n φ (omega (arith, (opens_range o).low)) p t space 0 in
      let listed : z ∈ from.places = subst (λ m. z ∈ m) (sym e) (Memᴰ.append_right l (Memᴰ.head refl)) in
      let v : Traceable n φ (turn z) = turn_traceable n φ z (listed_traceable o p t space z listed) in
      record {
        back = trace (step_in s) on_same_facet (turn z) (length from.places);
        back_answered = with_start_traced o (turn z) v (length from.places);
        same_places = d.reversed l z e;
      }

pub demand3 : (s : List ℕ) → trace_refusal s ≡ 0 → (a b : ℕ) → Demand3 s a b
unfolding step_in on_same_facet turn
demand3 s h a b =
    let o = trace_opens s h in
    let n : ℕ = dimension s in
    let φ : Field = field_of s in
    let pos : 0 < n = omega (arith, (opens_range o).low) in
    let t : Traceable n φ (start_of s) = start_traceable s h in
    let u : Traceable n φ (turn (start_of s)) = turn_traceable n φ (start_of s) t in
    let d : GridDemand3 n φ (start_of s) a b = grid_demand3 n φ pos (start_of s) t a b in
    let e : GridDemand3 n φ (turn (start_of s)) b a = grid_demand3 n φ pos (turn (start_of s)) u b a in
    record {
      first = trace (step_in s) on_same_facet (start_of s) a;
      second = trace (step_in s) on_same_facet (turn (start_of s)) b;
      first_answered = start_traced s h a;
      second_answered = with_start_traced o (turn (start_of s)) u b;
      first_steps = step_after_step o (start_of s) t a;
      second_steps = step_after_step o (turn (start_of s)) u b;
      reversed = reversed_from o (start_of s) t a;
      second_reversed = reversed_from o (turn (start_of s)) u b;
      no_repeat = d.no_repeat;
      second_no_repeat = e.no_repeat;
      joined = d.joined;
      second_joined = e.joined;
      first_enough = d.first_enough;
      second_enough = d.second_enough;
      neither_full = d.neither_full;
      counted = curve_counted s h;
      closes_or_not = curve_closes_or_not s h;
    }
