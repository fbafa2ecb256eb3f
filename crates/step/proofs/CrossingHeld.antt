-- A place of a job that Point does not refuse is held, and it is the place that its bytes say.
use Prim.Native.Nat.{ℕ}
use mathlib.Core.Path.{◌≡◌, sym, ap, subst₂, ◌∙◌}
use mathlib.Core.List.{List}
use lib.IntN.{ℤ}
use Rattle.curves.specs.Joined.{Traceable}
use Rattle.paper.specs.Job.{dimension, decode_place}
use Rattle.paper.specs.Values.{field_of}
use Rattle.paper.specs.Operations.{point_refusal}
use Rattle.paper.specs.declared.HeldPlace.{HeldPlace}
use Rattle.paper.proofs.PointTakes.{point_traceable}
use Rattle.places.specs.Held.{place_as}
use Rattle.job.specs.OpenJob.{JobOf}
use Rattle.located.specs.Located.{Finds}
use Rattle.step.specs.Held.{held_limit, Held}

module _ {n : ℕ} {s p : List ℕ} {q : HeldPlace} {cells : List ℤ} (j : JobOf n s) (f : Finds n s p q cells) where
  pub found_place : place_as n q ≡ decode_place (dimension s) p
  found_place = f.place.is ∙ ap (λ k. decode_place k p) j.dimension

  pub found_held : point_refusal s p ≡ 0 → Held s n q
  unfolding held_limit
  found_held none =
      record {
        job = j;
        traceable = subst₂ (λ k x. Traceable k (field_of s) x) (sym j.dimension) (sym found_place) (point_traceable s p none);
        size = f.place.size;
      }
