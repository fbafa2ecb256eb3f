-- What a job that opens gives: its box and its polynomials are as the functions over them ask, a vertex in its box is near, and a value of a
-- readable sum is within the limit of the cells.
use mathlib.Core.Path.{◌≡◌, subst}
use mathlib.Core.Bool.{true}
use mathlib.Core.List.{List}
use Prim.Native.Nat.{ℕ, ◌*◌, ◌<◌}
use lib.IntN.{ℤ}
use lib.ListN.{length}
use borrow.Author.Tests.{leb-true}
use Rattle.exact.specs.Size.{Size}
use Rattle.paper.specs.Job.{dimension, bias, body}
use Rattle.paper.specs.Values.{readable_sum, value_of, field_from, field_of}
use Rattle.paper.proofs.Bodies.{box_length, terms_high}
use Rattle.paper.proofs.BiasedValues.{value_size}
use Rattle.paper.specs.declared.Vertex.{Vertex}
use Rattle.places.specs.Held.{vertex_as}
use Rattle.job.specs.OpenJob.{JobOf}
use Rattle.job.proofs.Opened.{job_opens, job_axes}
use Rattle.lattice.specs.Box.{Near}
use Rattle.polynomial.specs.Sums.{Polynomial}
use Rattle.lattice.proofs.InBox.{inside_near}
use Rattle.determinants.specs.Cells.{entry_limit}

module _ {n : ℕ} {s : List ℕ} (j : JobOf n s) where
  -- the box, under another name for its bytes
  pub job_box : {b : List ℕ} → b ≡ body s 0 → length b ≡ 4 * n
  job_box e = rw (e, j.dimension) (box_length (job_opens j))

  pub job_polynomial : {b : List ℕ} (k : ℕ) → 0 < k → k < n → b ≡ body s k → Polynomial n b
  job_polynomial k l u e =
      let inner : k < dimension s = subst (λ (m : ℕ). k < m) j.dimension u in
      rw e (record {
        axes = job_axes j;
        terms = rw j.dimension ((job_opens j).polynomial k l inner);
        count = rw j.dimension (terms_high (job_opens j) k l inner);
      })

  pub job_near : (v : Vertex) → (field_of s).in_box (vertex_as n v) ≡ true → Near n v
  unfolding field_from field_of
  job_near v h = inside_near n (body s 0) v (job_axes j) (rw j.dimension (job_opens j).box) h

  pub job_value : (z : ℤ) → readable_sum n z ≡ true → Size (entry_limit n) (value_of (bias s) z)
  unfolding readable_sum entry_limit
  job_value z h = value_size (bias s) z (record { size = leb-true _ _ h })
