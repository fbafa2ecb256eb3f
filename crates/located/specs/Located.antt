-- What is known of a place of a job that has opened: n is the job's dimension, s are its bytes, p the place's, r the place as the code answers
-- it, and `cells` what the lent cells hold then.
use Rattle.std.specs.Prelude.{ℕ, ◌≡◌, true, List, ℤ, Result}
use Rattle.exact.specs.Crossed.{crossed}
use Rattle.curves.specs.Grid.{facet_vertices, place_ok}
use Rattle.curves.specs.Step.{columns}
use Rattle.paper.specs.Job.{decode_place}
use Rattle.paper.specs.Values.{field_of}
use Rattle.paper.specs.Operations.{facet_of, judge_refusal, point_refusal}
use Rattle.paper.specs.Refusals.{RefusedOr}
use Rattle.paper.specs.declared.HeldPlace.{HeldPlace}
use Rattle.paper.specs.declared.Refusal.{Refusal}
use Rattle.places.specs.PlaceBytes.{PlaceRead}
use Rattle.determinants.specs.Cells.{facet_columns, Cells}

-- a place that Judge does not refuse: it is well-formed and held as its bytes say, and the cells hold its facet's columns
pub record Finds (n : ℕ) (s p : List ℕ) (r : HeldPlace) (cells : List ℤ) : Type 0 where
  pub form : place_ok n (decode_place n p) ≡ true
  pub place : PlaceRead n p r
  pub columns : facet_columns n cells n ≡ columns (field_of s) (facet_vertices (facet_of s p))

-- what Judge refuses, or the place
pub record PlaceFound (n : ℕ) (s p : List ℕ) (r : Result HeldPlace Refusal) (cells : List ℤ) : Type 0 where
  pub within : Cells n cells
  pub found : RefusedOr (judge_refusal s p) (λ q. Finds n s p q cells) r

-- what Point refuses, or the place, which is crossed
pub record Crosses (n : ℕ) (s p : List ℕ) (r : Result HeldPlace Refusal) (cells : List ℤ) : Type 0 where
  pub within : Cells n cells
  pub found : RefusedOr (point_refusal s p) (λ q. Finds n s p q cells × (crossed n (facet_columns n cells n) ≡ true)) r
