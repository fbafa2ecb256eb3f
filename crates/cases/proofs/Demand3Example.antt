-- The third demand at marked cases of each dimension, so that nothing it asks for is out of reach: the curve of case A closes
-- and has six facets, with n = 4 it closes and has 14, and the curve of case C does not close, with n = 3 and with n = 4. A curve of
-- six facets is one of 14 under a bias.
use Prim.Native.Nat.{ℕ, ◌<◌}
use native.Mathlib.Omega.{arith}
use mathlib.Core.Path.{◌≡◌, refl, ap, subst, ◌∙◌}
use mathlib.Core.List.{List, map}
use lib.ListN.{length, length-map}
use Rattle.curves.specs.Grid.{Place}
use Rattle.curves.specs.Walk.{loop, stopped, Trace, trace}
use Rattle.curves.specs.Step.{Stop, edge}
use Rattle.curves.specs.GridDemand.{trace_of}
use Rattle.curves.proofs.WalkTrace.{loop_not_full}
use Rattle.curves.proofs.WalkJoined.{not_full_traced, traced_no_repeat, traced_joined}
use Rattle.curves.proofs.WalkClosed.{loop_covers}
use Rattle.curves.proofs.GridWalk.{grid_walk}
use Rattle.curves.proofs.Demand.{loop_closed, stopped_open}
use Rattle.paper.specs.Job.{dimension}
use Rattle.paper.specs.Values.{field_of}
use Rattle.paper.specs.Operations.{answered, step_in, start_of, trace_refusal, on_same_facet, traced}
use Rattle.paper.specs.Bias.{with_bias}
use Rattle.paper.specs.Demand3.{CurveHas, CurveCloses, Demand3}
use Rattle.paper.proofs.Cases.{case_a, case_c, places_a, marked_cases, marked_cases_hold, row}
use Rattle.paper.proofs.Jobs.{case_c4, waist}
use Rattle.cases.proofs.Cases4.{case_a4, places_loop, marked_cases4, marked_cases_4_hold}
use Rattle.cases.proofs.CasesBias.{places_lobe, places_waist, marked_cases_bias, marked_cases_bias_hold}
use Rattle.paper.proofs.Refusals.{Answered, answered_inv}
use Rattle.paper.proofs.Opens.{opens_range}
use Rattle.paper.proofs.StartTraceable.{trace_opens, start_traceable}
use Rattle.paper.proofs.Demand3.{demand3}

module _ (s : List ℕ) (space : ℕ) (t : Trace Place Stop) (e : traced s space ≡ answered t) where
  inverted : Answered (trace_refusal s) (trace (step_in s) on_same_facet (start_of s) space) t
  unfolding traced
  inverted = answered_inv (trace_refusal s) (trace (step_in s) on_same_facet (start_of s) space) t e

  above_zero : 0 < dimension s
  above_zero = omega (arith, (opens_range (trace_opens s inverted.none)).low)

  -- a curve that a trace calls loop closes
  pub loop_closes_curve : t.verdict ≡ loop → CurveCloses s
  unfolding step_in on_same_facet
  loop_closes_curve h =
      loop_closed (dimension s) (field_of s) above_zero (start_of s) (start_traceable s inverted.none) space
      (ap (λ r. r.verdict) inverted.is ∙ h)

  -- a curve at which a trace stops does not close
  pub stopped_opens_curve : (w : Stop) → t.verdict ≡ stopped w → ¬ CurveCloses s
  unfolding step_in on_same_facet
  stopped_opens_curve w h =
      stopped_open (dimension s) (field_of s) above_zero (start_of s) (start_traceable s inverted.none) space w
      (ap (λ r. r.verdict) inverted.is ∙ h)

  -- and the trace's count is its number of facets
  pub loop_counts_curve : t.verdict ≡ loop → CurveHas s (length t.places)
  unfolding step_in on_same_facet
  loop_counts_curve h =
      let g = grid_walk (dimension s) (field_of s) above_zero in
      let o = start_traceable s inverted.none in
      let here : (trace_of (dimension s) (field_of s) (start_of s) space).verdict ≡ loop = ap (λ r. r.verdict) inverted.is ∙ h in
      let m = not_full_traced g o space (loop_not_full here) in
      subst (λ r. CurveHas s (length r.places)) inverted.is
      record {
        facets = map (λ (p : Place). p.facet) (trace_of (dimension s) (field_of s) (start_of s) space).places;
        no_repeat = traced_no_repeat g o m;
        every = loop_covers g o m here;
        only = λ f i. traced_joined g o m i;
        count = length-map (trace_of (dimension s) (field_of s) (start_of s) space).places (λ (p : Place). p.facet);
      }

-- ---- cases A and C, each with its row of the table that has its trace; then both with n = 4

pub demand3_case_a : Demand3 case_a 6 6
unfolding marked_cases
demand3_case_a = demand3 case_a (inverted case_a 4096 _ (row 1 marked_cases marked_cases_hold)).none 6 6

pub case_a_closes : CurveCloses case_a
unfolding marked_cases
case_a_closes = loop_closes_curve case_a 4096 _ (row 1 marked_cases marked_cases_hold) refl

pub case_a_counted : CurveHas case_a 6
unfolding marked_cases places_a
case_a_counted = loop_counts_curve case_a 4096 _ (row 1 marked_cases marked_cases_hold) refl

pub case_c_open : ¬ CurveCloses case_c
unfolding marked_cases
case_c_open = stopped_opens_curve case_c 4096 _ (row 11 marked_cases marked_cases_hold) edge refl

pub demand3_case_a4 : Demand3 case_a4 14 14
unfolding marked_cases4
demand3_case_a4 = demand3 case_a4 (inverted case_a4 14 _ (row 11 marked_cases4 marked_cases_4_hold)).none 14 14

pub case_a4_closes : CurveCloses case_a4
unfolding marked_cases4
case_a4_closes = loop_closes_curve case_a4 14 _ (row 11 marked_cases4 marked_cases_4_hold) refl

pub case_a4_counted : CurveHas case_a4 14
unfolding marked_cases4 places_loop
case_a4_counted = loop_counts_curve case_a4 14 _ (row 11 marked_cases4 marked_cases_4_hold) refl

pub demand3_case_c4 : Demand3 case_c4 5 5
unfolding marked_cases4
demand3_case_c4 = demand3 case_c4 (inverted case_c4 16 _ (row 1 marked_cases4 marked_cases_4_hold)).none 5 5

pub case_c4_open : ¬ CurveCloses case_c4
unfolding marked_cases4
case_c4_open = stopped_opens_curve case_c4 16 _ (row 1 marked_cases4 marked_cases_4_hold) edge refl

-- ---- the narrow waist: without a bias the curve of its start has six facets, with bias 1 it has 14, and demand 3 holds of these

pub lobe_counted : CurveHas (waist 2) 6
unfolding marked_cases_bias places_lobe
lobe_counted = loop_counts_curve (waist 2) 6 _ (row 25 marked_cases_bias marked_cases_bias_hold) refl

pub waist_counted : CurveHas (with_bias (waist 2) 1) 14
unfolding marked_cases_bias places_waist
waist_counted = loop_counts_curve (with_bias (waist 2) 1) 14 _ (row 26 marked_cases_bias marked_cases_bias_hold) refl

pub waist_closes : CurveCloses (with_bias (waist 2) 1)
unfolding marked_cases_bias
waist_closes = loop_closes_curve (with_bias (waist 2) 1) 14 _ (row 26 marked_cases_bias marked_cases_bias_hold) refl

pub demand3_waist : Demand3 (with_bias (waist 2) 1) 14 14
unfolding marked_cases_bias
demand3_waist =
    demand3 (with_bias (waist 2) 1) (inverted (with_bias (waist 2) 1) 14 _ (row 26 marked_cases_bias marked_cases_bias_hold)).none 14 14
