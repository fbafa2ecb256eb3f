-- The answers of Step and Trace as the C interface's structs. Refusal 0 is none; beside a refusal every other field is 0, and so are the axes and the
-- masks that a lower dimension does not have and the place of an edge.
use Rattle.std.specs.Prelude.{ℕ, get_or}
use Rattle.exact.specs.Int.{0ℤ}
use Rattle.curves.specs.Grid.{Place}
use Rattle.curves.specs.Walk.{Next, stop, go, Verdict, loop, stopped, full}
use Rattle.curves.specs.Step.{Stop, edge, limit}
use Rattle.paper.specs.Operations.{Answer, refused, answered}
use Rattle.walknumbers.specs.declared.StepAnswer.{StepAnswer}
use Rattle.walknumbers.specs.declared.TraceAnswer.{TraceAnswer}

-- outcome 0 the next place, 1 edge, 2 limit
unfoldable pub without_place : ℕ → ℕ → StepAnswer
without_place refusal outcome = record {
  refusal = refusal;
  outcome = outcome;
  x = 0ℤ;
  y = 0ℤ;
  z = 0ℤ;
  w = 0ℤ;
  mask1 = 0;
  mask2 = 0;
  mask3 = 0;
  side = 0;
}

unfoldable pub step_numbers : Answer (Next Place Stop) → StepAnswer
step_numbers (refused k) = without_place k 0
step_numbers (answered (stop edge)) = without_place 0 1
step_numbers (answered (stop limit)) = without_place 0 2
step_numbers (answered (go p)) = record {
  refusal = 0;
  outcome = 0;
  x = get_or p.facet.low 0 0ℤ;
  y = get_or p.facet.low 1 0ℤ;
  z = get_or p.facet.low 2 0ℤ;
  w = get_or p.facet.low 3 0ℤ;
  mask1 = get_or p.facet.masks 0 0;
  mask2 = get_or p.facet.masks 1 0;
  mask3 = get_or p.facet.masks 2 0;
  side = p.side;
}

-- 0 loop, 1 edge, 2 limit, 3 full
unfoldable pub verdict_number : Verdict Stop → ℕ
verdict_number loop = 0
verdict_number (stopped edge) = 1
verdict_number (stopped limit) = 2
verdict_number full = 3

-- the verdict and the count of places written
unfoldable pub trace_numbers : Answer (Verdict Stop × ℕ) → TraceAnswer
trace_numbers (refused k) = record { refusal = k; verdict = 0; count = 0 }
trace_numbers (answered t) = record { refusal = 0; verdict = verdict_number t.0; count = t.1 }
