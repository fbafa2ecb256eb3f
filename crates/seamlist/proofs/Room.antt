-- No trace in a job is full if it has space for all the facets with their lowest vertex in the job's box.
use Prim.Native.Nat.{ℕ, ◌≤◌}
use native.Mathlib.Omega.{arith}
use mathlib.Core.Path.{◌≡◌}
use mathlib.Core.List.{List}
use lib.ListN.{length}
use Rattle.curves.specs.Grid.{Place}
use Rattle.curves.specs.Walk.{full}
use Rattle.curves.specs.Curve.{◌∈◌}
use Rattle.curves.specs.Joined.{Traceable}
use Rattle.curves.specs.GridDemand.{trace_of}
use Rattle.curves.proofs.Demand.{traceable_listed, room_enough}
use Rattle.paper.specs.Job.{dimension}
use Rattle.paper.specs.Values.{field_of}
use Rattle.paper.proofs.Opens.{Opens, opens_range}
use Rattle.paper.proofs.CurveCounted.{box_within}
use Rattle.seamlist.specs.JobSeams.{low_ends, high_ends, job_facets}

-- each facet that a step takes stands among the facets of the box
pub job_listed : (s : List ℕ) (p : Place) → Traceable (dimension s) (field_of s) p → p.facet ∈ job_facets s
unfolding job_facets low_ends high_ends
job_listed s p t = traceable_listed (dimension s) (field_of s) (low_ends s) (high_ends s) (box_within s) p t

pub job_room_lem : {s : List ℕ} → Opens s → (p : Place) → Traceable (dimension s) (field_of s) p → (space : ℕ) → length (job_facets s) ≤ space
    → ¬ ((trace_of (dimension s) (field_of s) p space).verdict ≡ full)
job_room_lem {s} o p t space room =
    room_enough (dimension s) (field_of s) (omega (arith, (opens_range o).low)) (job_facets s) (job_listed s) p t space room
