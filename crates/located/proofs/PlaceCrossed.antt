-- Behind Judge's refusals of a place: 11, or a place that is crossed.
use mathlib.Core.Path.{◌≡◌, sym, ap, ◌∙◌}
use mathlib.Core.Bool.{true, false, not}
use mathlib.Core.List.{List}
use Prim.Native.Nat.{ℕ}
use lib.IntN.{ℤ}
use Rattle.exact.specs.Crossed.{crossed}
use Rattle.curves.specs.Grid.{facet_vertices}
use Rattle.curves.specs.Step.{crossed_facet, columns}
use Rattle.paper.specs.Job.{refuse_if}
use Rattle.paper.specs.Values.{field_of}
use Rattle.paper.specs.Operations.{facet_of, crossed_in, judge_refusal, point_refusal}
use Rattle.paper.specs.Refusals.{refusal_number}
use Rattle.paper.proofs.Refusals.{refuse_here, refuse_later, first_passes}
use Rattle.paper.proofs.Refused.{refused_first}
use Rattle.paper.specs.declared.HeldPlace.{HeldPlace}
use Rattle.paper.specs.declared.Refusal.{Refusal}
use Rattle.job.specs.OpenJob.{JobOf}
use Rattle.determinants.specs.Cells.{facet_columns}
use Rattle.located.specs.Located.{Finds}

-- the test of the code, at the columns that the cells hold, is the paper's
pub crossed_is :
    {n : ℕ} {s p : List ℕ} {q : HeldPlace} {cells : List ℤ} → JobOf n s → Finds n s p q cells
    → crossed n (facet_columns n cells n) ≡ crossed_in s (facet_of s p)
unfolding crossed_in crossed_facet
crossed_is {n} {s} {p} job f =
    ap (crossed n) f.columns ∙ ap (λ k. crossed k (columns (field_of s) (facet_vertices (facet_of s p)))) job.dimension

pub refused_before : (e : Refusal) (s p : List ℕ) → refusal_number e ≡ judge_refusal s p → refusal_number e ≡ point_refusal s p
unfolding point_refusal
refused_before e s p h = refused_first e (refuse_if (not (crossed_in s (facet_of s p))) 11 0) h

module _ {n : ℕ} {s p : List ℕ} {q : HeldPlace} {cells : List ℤ} (job : JobOf n s) (found : (judge_refusal s p ≡ 0) × Finds n s p q cells) where
  -- nothing else refuses, so that 11 decides
  point_refusal_lem : point_refusal s p ≡ refuse_if (not (crossed_in s (facet_of s p))) 11 0
  unfolding point_refusal
  point_refusal_lem = first_passes (refuse_if (not (crossed_in s (facet_of s p))) 11 0) found.0

  pub not_crossed : crossed n (facet_columns n cells n) ≡ false → 11 ≡ point_refusal s p
  not_crossed h =
      let test : not (crossed_in s (facet_of s p)) ≡ true = ap not (sym (crossed_is job found.1) ∙ h) in
      sym (point_refusal_lem ∙ refuse_here 11 0 test)

  pub is_crossed : crossed n (facet_columns n cells n) ≡ true
      → (point_refusal s p ≡ 0) × (Finds n s p q cells × (crossed n (facet_columns n cells n) ≡ true))
  is_crossed h =
      let test : not (crossed_in s (facet_of s p)) ≡ false = ap not (sym (crossed_is job found.1) ∙ h) in
      (point_refusal_lem ∙ refuse_later 11 0 test, (found.1, h))
