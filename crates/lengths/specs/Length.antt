-- The trace from a place handed over as bytes, with space for everything.
use Rattle.std.specs.Prelude.{ℕ, List}
use Rattle.curves.specs.Grid.{Place}
use Rattle.curves.specs.Walk.{Trace}
use Rattle.curves.specs.Step.{Stop}
use Rattle.paper.specs.Job.{dimension, decode_place}
use Rattle.paper.specs.Operations.{Answer, unless, point_refusal}
use Rattle.seamlist.specs.WholeTrace.{whole_trace}

-- what Point refuses, or the trace
unfoldable pub traced_from : List ℕ → List ℕ → Answer (Trace Place Stop)
traced_from s p = unless (point_refusal s p) (whole_trace s (decode_place (dimension s) p))
