-- What is known of a place of a job that Step does not refuse, as the code holds it.
use Rattle.std.specs.Prelude.{ℕ, ◌^◌, List}
use Rattle.curves.specs.Joined.{Traceable}
use Rattle.paper.specs.Values.{field_of}
use Rattle.places.specs.Held.{place_as, VertexSize}
use Rattle.paper.specs.declared.HeldPlace.{HeldPlace}
use Rattle.job.specs.OpenJob.{JobOf}

-- the size of the coordinates: those that count fit 16 bits, the others stay what they were when the place was read
unfoldable pub held_limit : ℕ
held_limit = 2 ^ 15

-- a place of the job that Step does not refuse
pub record Held (s : List ℕ) (n : ℕ) (p : HeldPlace) : Type 0 where
  pub job : JobOf n s
  pub traceable : Traceable n (field_of s) (place_as n p)
  pub size : VertexSize held_limit p.low
