-- Every seam in a job's box: document 02, request 2.4, from the bytes of the job.
use Rattle.std.specs.Prelude.{ℕ, ◌≤◌, ◌≡◌, cond, List, map, ℤ, length, take, ltb}
use Rattle.exact.specs.Crossed.{count_from}
use Rattle.curves.specs.Grid.{Facet, Place}
use Rattle.curves.specs.Curve.{◌∈◌}
use Rattle.curves.specs.Joined.{Joined}
use Rattle.curves.specs.Box.{box_facets}
use Rattle.paper.specs.Job.{dimension, body, low_end, high_end, open_refusal}
use Rattle.paper.specs.Values.{field_of}
use Rattle.paper.specs.Operations.{Answer, refused, answered, unless, space_of, places_over}
use Rattle.paper.specs.Demand3.{read_places}
use Rattle.seamlist.specs.Seams.{front, OnSeam, SeamList, seams_among}

-- ---- the seams of a job

-- the ends of the box, axis by axis
unfoldable pub low_ends : List ℕ → List ℤ
low_ends s = map (low_end (body s 0)) (count_from 0 (dimension s))

unfoldable pub high_ends : List ℕ → List ℤ
high_ends s = map (high_end (body s 0)) (count_from 0 (dimension s))

-- the facets with their lowest vertex in the box, in order
unfoldable pub job_facets : List ℕ → List Facet
job_facets s = box_facets (dimension s) (low_ends s) (high_ends s)

-- no curve has more facets than the box, so that is space enough for a trace
unfoldable pub seam_facets : List ℕ → List Facet
seam_facets s = seams_among (dimension s) (field_of s) (length (job_facets s)) (job_facets s)

-- ---- the operation

-- complete, or full: one more seam remains and no space does
pub data Extent : Type 0 where
  complete full : Extent

pub record Seams : Type 0 where
  pub extent : Extent
  pub places : List Place

-- one place for each seam, its least facet with side 0, with space for so many
unfoldable pub first_seams : List Facet → ℕ → Seams
first_seams l space = record {
  extent = cond (ltb space (length l)) full complete;
  places = map front (take space l);
}

-- the start counts only for its form: Open's refusals alone
unfoldable pub seamed : List ℕ → ℕ → Answer Seams
seamed s space = unless (open_refusal s) (first_seams (seam_facets s) space)

-- what is answered: the extent and the count
unfoldable pub extent_and_count : Answer Seams → Answer (Extent × ℕ)
extent_and_count (refused k) = refused k
extent_and_count (answered r) = answered (r.extent, length r.places)

-- the buffer at exit: as in Trace
unfoldable pub seams_after : Answer Seams → List ℕ → List ℕ
seams_after (refused k) buffer = buffer
seams_after (answered r) buffer = places_over r.places buffer

-- ---- what the third demand says of it

-- the facet is one of a seam of the job
abbrev pub InSeam : List ℕ → Facet → Type 0
InSeam s f = OnSeam (dimension s) (field_of s) f

-- the place's seam is that of the facet
abbrev pub SeamOf : List ℕ → Place → Facet → Type 0
SeamOf s p f = Joined (dimension s) (field_of s) p.facet f

-- the facet belongs to exactly one of the seams that are listed
pub record InOneOf (s : List ℕ) (ps : List Place) (f : Facet) : Type 0 where
  pub place : Place
  pub listed : place ∈ ps
  pub belongs : SeamOf s place f
  pub only : (q : Place) → q ∈ ps → SeamOf s q f → q ≡ place

-- of the places that stand in the buffer at exit
pub record SeamDemand (s buffer : List ℕ) (r : Seams) : Type 0 where
  -- what is answered are the first of the seams, as many as there is space for
  pub list : List Facet
  pub is_list : SeamList (dimension s) (field_of s) list
  pub is_first : r ≡ first_seams list (space_of s buffer)
  -- read from the buffer at exit they are the places listed
  pub written : read_places (dimension s) (length r.places) (seams_after (answered r) buffer) ≡ r.places
  pub room : length r.places ≤ space_of s buffer
  -- When the answer is complete, every crossed facet of the box with readable values belongs to exactly one listed seam.
  pub complete_one : r.extent ≡ complete → (f : Facet) → InSeam s f
      → InOneOf s (read_places (dimension s) (length r.places) (seams_after (answered r) buffer)) f
  -- When it is full, no space is left, and a crossed facet of the box with readable values belongs to none listed.
  pub full_room : r.extent ≡ full → length r.places ≡ space_of s buffer
  pub full_more : r.extent ≡ full
      → (f : Facet) × InSeam s f × ((p : Place) → p ∈ r.places → ¬ SeamOf s p f)
