-- A walk along a curve that looks for a facet before that of its start, as the code makes it: it ends where the trace with space for the whole box
-- ends, or when it has met one.
use Rattle.std.specs.Prelude.{ℕ, ◌<◌, ◌≡◌, Bool, true, false, List, ℤ, length, Result, Ok, Err}
use Rattle.curves.specs.Grid.{Facet, Place, facet_vertices}
use Rattle.curves.specs.Walk.{loop, full}
use Rattle.curves.specs.Step.{columns}
use Rattle.paper.specs.Job.{dimension}
use Rattle.paper.specs.Values.{field_of}
use Rattle.places.specs.Held.{place_as}
use Rattle.paper.specs.declared.HeldPlace.{HeldPlace}
use Rattle.determinants.specs.Cells.{Cells, facet_columns}
use Rattle.step.specs.Held.{Held}
use Rattle.carried.specs.declared.Entered.{Entered}
use Rattle.carried.specs.Carries.{Carries}
use Rattle.seamlist.specs.Seams.{facet_before, none_before, least_test}
use Rattle.seamlist.specs.JobSeams.{job_facets}
use Rattle.seamlist.specs.WholeTrace.{rest_from}
use Rattle.least.specs.declared.search.End as Code

-- the facet is the least of its seam
unfoldable pub least_in : List ℕ → Facet → Bool
least_in s f = least_test (dimension s) (field_of s) (length (job_facets s)) f

-- none of its places lies on a facet before the start's
unfoldable pub clear_from : List ℕ → Place → Place → Bool
clear_from s start x = none_before start.facet (rest_from s start x)

-- a walk from the start has come to a place that is not before it, and what follows is not full
pub record Walks (s : List ℕ) (n : ℕ) (start : HeldPlace) (here : Entered) (cells : List ℤ) : Type 0 where
  pub start_held : Held s n start
  pub carries : Carries s n here cells
  pub not_before_lem : facet_before (place_as n here.place).facet (place_as n start).facet ≡ false
  pub not_full : ¬ ((rest_from s (place_as n start) (place_as n here.place)).verdict ≡ full)

-- the walk goes on from x to y, and the rest of the trace from x is x and the rest from y
pub record LeadsOn (s : List ℕ) (start x y : Place) : Type 0 where
  pub same_verdict : (rest_from s start x).verdict ≡ (rest_from s start y).verdict
  pub same_test : clear_from s start x ≡ clear_from s start y
  pub shorter : length (rest_from s start y).places < length (rest_from s start x).places

-- what one turn tells of the rest of the trace from x
abbrev pub SoughtIs : List ℕ → ℕ → HeldPlace → Place → Result Entered Code.End → List ℤ → Type 0
SoughtIs s n start x (Ok q) cells = LeadsOn s (place_as n start) x (place_as n q.place) × Walks s n start q cells
SoughtIs s n start x (Err Code.TheVariants.Before) cells = clear_from s (place_as n start) x ≡ false
SoughtIs s n start x (Err Code.TheVariants.Closed) cells = ((rest_from s (place_as n start) x).verdict ≡ loop) × (clear_from s (place_as n start) x ≡ true)
SoughtIs s n start x (Err Code.TheVariants.Ended) cells = clear_from s (place_as n start) x ≡ true

-- the cells hold the columns of the facet's vertices
pub record HoldsFacet (s : List ℕ) (n : ℕ) (f : Facet) (cells : List ℤ) : Type 0 where
  pub within : Cells n cells
  pub columns : facet_columns n cells n ≡ columns (field_of s) (facet_vertices f)
