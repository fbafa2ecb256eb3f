-- What Point answers, as the paper's answer.
use mathlib.Core.Path.{◌≡◌, refl, sym, ap, ◌∙◌}
use mathlib.Core.List.{List}
use Prim.Native.Nat.{ℕ, suc, zero}
use lib.Dec.{lit≤}
use lib.IntN.{ℤ}
use Rattle.std.proofs.Common.{Result}
use Rattle.exact.specs.Int.{0ℤ}
use Rattle.exact.proofs.SizeLaws.{size_weaken}
use Rattle.curves.specs.Grid.{Facet}
use Rattle.paper.specs.Job.{dimension, open_refusal}
use Rattle.paper.specs.Values.{field_of, point_from, point_of}
use Rattle.paper.specs.Operations.{unless, facet_of, pointed, point_refusal}
use Rattle.paper.specs.Refusals.{refusal_number, RefusedOr}
use Rattle.paper.specs.Answers.{padded, padded_point, pointed_as}
use Rattle.paper.specs.declared.Refusal.{Refusal}
use Rattle.paper.specs.declared.StepPoint.{StepPoint}
use Rattle.paper.specs.declared.Vertex.{Vertex}
use Rattle.paper.specs.declared.HeldPlace.{HeldPlace}
use Rattle.paper.proofs.Refused.{answered_by}
use Rattle.places.specs.Held.{vertex_as, masks_as, facet_as, VertexSize}
use Rattle.job.specs.OpenJob.{JobOf}
use Rattle.determinants.specs.Cells.{facet_columns}
use Rattle.points.specs.Shares.{low_limit}
use Rattle.located.specs.Located.{Finds}
use Rattle.located.proofs.PlaceFound.{held_facet}
use Rattle.located.proofs.PlaceCrossed.{refused_before}
use Rattle.judge.proofs.JudgeAnswers.{open_judges}

-- Open's refusal is Point's
pub open_points : (e : Refusal) (s p : List ℕ) → refusal_number e ≡ open_refusal s → refusal_number e ≡ point_refusal s p
open_points e s p h = refused_before e s p (open_judges e s p h)

padded_unless : (k : ℕ) (v : List ℤ) → unless k (padded 0ℤ 4 v) ≡ padded_point (unless k v)
unfolding unless padded_point
padded_unless zero v = refl
padded_unless (suc k) v = refl

pub point_answered : (s p : List ℕ) (r : Result StepPoint Refusal)
    → RefusedOr (point_refusal s p) (λ a. a.steps ≡ padded 0ℤ 4 (point_of (dimension s) (field_of s) (facet_of s p))) r
    → pointed_as r ≡ padded_point (pointed s p)
unfolding pointed_as pointed
point_answered s p r h =
    let v = point_of (dimension s) (field_of s) (facet_of s p) in
    answered_by (λ (a : StepPoint). a.steps) (point_refusal s p) (padded 0ℤ 4 v) r h ∙ padded_unless (point_refusal s p) v

-- a coordinate of 16 bits is within what the point asks
pub low_size : {v : Vertex} → VertexSize 32768 v → VertexSize low_limit v
low_size h = record { count = h.count; each = λ a. size_weaken (h.each a) (lit≤ tt) }

-- the point of the place that is held is the paper's
pub point_is : {n : ℕ} {s p : List ℕ} {q : HeldPlace} {cells : List ℤ} → JobOf n s → Finds n s p q cells
    → point_from n (facet_columns n cells n) (masks_as n q) 0 (vertex_as n q.low) ≡ point_of (dimension s) (field_of s) (facet_of s p)
unfolding point_of facet_as
point_is job f =
    let facet = held_facet job f.place in
    λ i. point_from (job.dimension i) (f.columns i) (facet i).masks 0 (facet i).low
