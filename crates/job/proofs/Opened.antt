-- A job that Open does not refuse has opened, and what its opening says of its dimension.
use Prim.Native.Nat.{ℕ}
use mathlib.Core.Path.{◌≡◌, sym, ◌∙◌}
use mathlib.Core.Bool.{true}
use mathlib.Core.List.{List}
use Rattle.paper.specs.Limits.{dimension_ok}
use Rattle.paper.specs.Job.{dimension, open_refusal}
use Rattle.paper.proofs.Opens.{Opens, opens}
use Rattle.bits.specs.Axes.{Axes}
use Rattle.bits.proofs.EachDimension.{dimension_axes}
use Rattle.job.specs.OpenJob.{JobOf}

pub opened : {s : List ℕ} {k n : ℕ} → k ≡ open_refusal s → k ≡ 0 → n ≡ dimension s → JobOf n s
opened r z e = record { opens = sym r ∙ z; dimension = e }

module _ {n : ℕ} {s : List ℕ} (j : JobOf n s) where
  pub job_opens : Opens s
  job_opens = opens s j.opens

  pub job_dimension : dimension_ok n ≡ true
  job_dimension = rw j.dimension job_opens.dimensions

  pub job_axes : Axes n
  job_axes = dimension_axes n job_dimension
