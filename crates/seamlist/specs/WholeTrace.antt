-- The trace from a place with space for everything: no curve has more facets than the box. For whoever walks along a curve and writes nothing.
use Rattle.std.specs.Prelude.{ℕ, List, length}
use Rattle.curves.specs.Grid.{Place}
use Rattle.curves.specs.Walk.{Trace, trace_from}
use Rattle.curves.specs.Step.{Stop}
use Rattle.curves.specs.GridDemand.{trace_of}
use Rattle.paper.specs.Job.{dimension}
use Rattle.paper.specs.Values.{field_of}
use Rattle.paper.specs.Operations.{step_in, on_same_facet}
use Rattle.seamlist.specs.JobSeams.{job_facets}

unfoldable pub whole_trace : List ℕ → Place → Trace Place Stop
whole_trace s p = trace_of (dimension s) (field_of s) p (length (job_facets s))

-- the trace from x on, of a walk that began at the start
unfoldable pub rest_from : List ℕ → Place → Place → Trace Place Stop
rest_from s start x = trace_from (step_in s) on_same_facet start (length (job_facets s)) x
