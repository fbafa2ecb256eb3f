-- Each answer of the code, a `Result` of a struct, an enum or a number, as the paper's numbers and values. The arrays have room for four
-- axes: the coordinates, masks and counts that a lower dimension does not have are 0.
use Rattle.std.specs.Prelude.{ℕ, zero, suc, Bool, List, [], ◌∷◌, ℤ, Result, Ok, Err}
use Rattle.exact.specs.Int.{0ℤ}
use Rattle.curves.specs.Grid.{Place}
use Rattle.curves.specs.Walk.{Next, stop, go, loop, stopped, full}
use Rattle.curves.specs.Walk as Walk
use Rattle.curves.specs.Step.{Stop, edge, limit}
use Rattle.paper.specs.declared.Refusal as Refusal
use Rattle.paper.specs.declared.Opened as Opened
use Rattle.paper.specs.declared.StepPoint as StepPoint
use Rattle.paper.specs.declared.HeldPlace as HeldPlace
use Rattle.paper.specs.declared.Stop as Code
use Rattle.paper.specs.declared.Verdict as Verdict
use Rattle.paper.specs.declared.Traced as Traced
use Rattle.paper.specs.Operations.{Answer, refused, answered}
use Rattle.paper.specs.Refusals.{answer_by}

-- ---- Open

unfoldable pub opened_list : Opened.Opened → List ℕ
opened_list o = o.n ∷ o.terms

unfoldable pub opened_as : Result Opened.Opened Refusal.Refusal → Answer (List ℕ)
opened_as r = answer_by opened_list r

-- ---- Judge

unfoldable pub judged_as : Result Bool Refusal.Refusal → Answer Bool
judged_as r = answer_by (λ b. b) r

-- ---- Point

-- the first k members of a list, with as many 0 behind them as it lacks
unfoldable pub padded : {A : Type 0} → A → ℕ → List A → List A
padded d zero l = []
padded d (suc k) [] = d ∷ padded d k []
padded d (suc k) (x ∷ l) = x ∷ padded d k l

unfoldable pub padded_point : Answer (List ℤ) → Answer (List ℤ)
padded_point (refused k) = refused k
padded_point (answered v) = answered (padded 0ℤ 4 v)

unfoldable pub pointed_as : Result StepPoint.StepPoint Refusal.Refusal → Answer (List ℤ)
pointed_as r = answer_by (λ (p : StepPoint.StepPoint). p.steps) r

-- ---- Step

unfoldable pub placed_as : HeldPlace.HeldPlace → Place
placed_as p = record {
  facet = record { low = p.low.coordinates; masks = p.masks };
  side = p.side;
}

unfoldable pub padded_place : Place → Place
padded_place p = record {
  facet = record { low = padded 0ℤ 4 p.facet.low; masks = padded 0 3 p.facet.masks };
  side = p.side;
}

unfoldable pub padded_next : Next Place Stop → Next Place Stop
padded_next (stop w) = stop w
padded_next (go p) = go (padded_place p)

unfoldable pub padded_step : Answer (Next Place Stop) → Answer (Next Place Stop)
padded_step (refused k) = refused k
padded_step (answered r) = answered (padded_next r)

unfoldable pub stop_as : Code.Stop → Stop
stop_as Code.TheVariants.Edge = edge
stop_as Code.TheVariants.Limit = limit

unfoldable pub next_as : Result HeldPlace.HeldPlace Code.Stop → Next Place Stop
next_as (Ok p) = go (placed_as p)
next_as (Err w) = stop (stop_as w)

unfoldable pub stepped_as : Result (Result HeldPlace.HeldPlace Code.Stop) Refusal.Refusal → Answer (Next Place Stop)
stepped_as r = answer_by next_as r

-- ---- Trace

unfoldable pub verdict_as : Verdict.Verdict → Walk.Verdict Stop
verdict_as Verdict.TheVariants.Loop = loop
verdict_as Verdict.TheVariants.Edge = stopped edge
verdict_as Verdict.TheVariants.Limit = stopped limit
verdict_as Verdict.TheVariants.Full = full

-- the verdict and the count of places written
unfoldable pub verdict_count : Traced.Traced → Walk.Verdict Stop × ℕ
verdict_count t = (verdict_as t.verdict, t.count)

unfoldable pub traced_as : Result Traced.Traced Refusal.Refusal → Answer (Walk.Verdict Stop × ℕ)
traced_as r = answer_by verdict_count r

-- ---- the running sum

unfoldable pub summed_as : Result ℤ Refusal.Refusal → Answer ℤ
summed_as r = answer_by (λ z. z) r
