-- The places of a list by position, and their bytes as parts of the list.
use Prim.Native.Nat.{ℕ, ◌+◌}
use native.Mathlib.Omega.{arith}
use mathlib.Core.Path.{◌≡◌, ap, ap₂, subst, ◌∙◌}
use mathlib.Core.List.{List, [], ◌∷◌, ◌++◌, map}
use lib.ListN.{length}
use Rattle.exact.specs.Crossed.{count_from}
use Rattle.exact.proofs.CountFrom.{length_map_count_from, map_count_from_last}
use Rattle.paper.specs.Job.{decode_place}
use Rattle.paper.specs.Pen.{place_bytes}
use Rattle.job.specs.OpenJob.{JobOf}
use Rattle.nesting.specs.CutOrder.{listed_at, first_listed}

-- a job of dimension 2
pub plane : {n : ℕ} {s : List ℕ} → n ≡ 2 → JobOf n s → JobOf 2 s
plane {n} {s} e j = subst (λ m. JobOf m s) e j

module _ (s ps : List ℕ) where
  pub listed_last : (k : ℕ) → first_listed s ps (k + 1) ≡ first_listed s ps k ++ (listed_at s ps k ∷ [])
  unfolding first_listed
  listed_last k =
      ap (λ m. map (listed_at s ps) (count_from 0 m)) (omega arith)
      ∙ map_count_from_last (listed_at s ps) 0 k
      ∙ ap (λ m. map (listed_at s ps) (count_from 0 k) ++ (listed_at s ps m ∷ [])) (omega arith)

  pub listed_length : (k : ℕ) → length (first_listed s ps k) ≡ k
  unfolding first_listed
  listed_length k = length_map_count_from (listed_at s ps) 0 k

  -- the place that its bytes are
  pub listed_is : JobOf 2 s → (k : ℕ) {part : List ℕ} → part ≡ place_bytes s ps k → decode_place 2 part ≡ listed_at s ps k
  unfolding listed_at
  listed_is j k e = ap₂ decode_place j.dimension e
