-- What request 2.5 says of a point: each coordinate is the number of steps that is nearest to the exact coordinate, and the even one of two that are
-- as near; and that a drawing moved by whole units has its points moved by as much.
use Rattle.std.specs.Prelude.{ℕ, ◌*◌, ◌%◌, ◌≤◌, ◌<◌, ◌≡◌, List, [], ◌∷◌, map, ℤ, pos, nat_abs, length, get_or}
use Rattle.exact.specs.Int.{◌⊕◌, ◌⊖◌, ◌⊗◌, 0ℤ}
use Rattle.exact.specs.Det.{determinant}
use Rattle.curves.specs.Grid.{Facet, facet_vertices}
use Rattle.curves.specs.Step.{Field, columns}
use Rattle.paper.specs.Limits.{steps_per_unit}
use Rattle.paper.specs.Job.{dimension}
use Rattle.paper.specs.Values.{field_of, weight_sum}
use Rattle.paper.specs.Operations.{facet_of}

-- z is the whole number nearest to a / d, and the even one of two that are as near; the distances are multiplied by 2 times the size of d
pub record IsNearest (a d z : ℤ) : Type 0 where
  -- z is at most a half away
  pub near : 2 * nat_abs (a ⊖ z ⊗ d) ≤ nat_abs d
  -- if it is exactly a half away, z is even
  pub even : 2 * nat_abs (a ⊖ z ⊗ d) ≡ nat_abs d → nat_abs z % 2 ≡ 0

-- D of a facet
unfoldable pub facet_d : ℕ → Field → Facet → ℤ
facet_d n φ f = determinant n (columns φ (facet_vertices f))

-- the exact coordinate of a facet's point on axis k, in steps and times D: 1024 times the lowest vertex's coordinate times D, plus 1024 times the sum of
-- the a_i of those vertices whose mask has the axis
unfoldable pub exact_steps : ℕ → Field → Facet → ℕ → ℤ
exact_steps n φ f k =
    pos steps_per_unit ⊗ (get_or f.low k 0ℤ ⊗ facet_d n φ f ⊕ weight_sum n (columns φ (facet_vertices f)) 1 f.masks k)

-- v has a number for each axis of a job, the nearest to the exact coordinate of the point of a place handed over as bytes
pub record NearestPoint (s p : List ℕ) (v : List ℤ) : Type 0 where
  pub axes : length v ≡ dimension s
  pub nearest :
      (k : ℕ) → k < dimension s
      → IsNearest (exact_steps (dimension s) (field_of s) (facet_of s p) k) (facet_d (dimension s) (field_of s) (facet_of s p)) (get_or v k 0ℤ)

-- numbers added to those of a vertex or a point, axis by axis
unfoldable pub moved : List ℤ → List ℤ → List ℤ
moved [] v = v
moved (k ∷ u) [] = []
moved (k ∷ u) (x ∷ v) = (k ⊕ x) ∷ moved u v

-- a facet moved by whole units
unfoldable pub moved_facet : List ℤ → Facet → Facet
moved_facet u f = record { low = moved u f.low; masks = f.masks }

-- whole units in steps, axis by axis
unfoldable pub unit_steps : List ℤ → List ℤ
unit_steps u = map (λ k. pos steps_per_unit ⊗ k) u
