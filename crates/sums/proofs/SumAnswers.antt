-- What each return of the running sum says, as the definition's answer.
use mathlib.Core.Path.{◌≡◌, sym, ap, ap₂, subst, ◌∙◌}
use mathlib.Core.Bool.{true, false}
use mathlib.Core.List.{List}
use Prim.Native.Nat.{ℕ, ◌+◌, ◌-◌, ◌≤◌, ◌<◌}
use lib.IntN.{ℤ}
use lib.Dec.{leb, ltb}
use borrow.Author.Tests.{lt-ltb, le-ltb, le-leb, lt-leb}
use Rattle.std.proofs.Common.{Result, Ok, Err, IsErr, IsErrAnd}
use Rattle.exact.specs.Size.{Is}
use Rattle.exact.proofs.Bits.{back, holds_call}
use Rattle.paper.specs.Job.{dimension, body, term_count, open_refusal, refuse_if}
use Rattle.paper.specs.Values.{inside_from, field_from, field_of}
use Rattle.paper.specs.Operations.{first_refusal}
use Rattle.paper.specs.RunningSum.{partial_sum_limit, running_sum, summed_body, summed_vertex, running_sum_refusal, running_summed}
use Rattle.paper.specs.Refusals.{refusal_number, RefusedOr}
use Rattle.paper.specs.Answers.{summed_as}
use Rattle.paper.specs.declared.Refusal.{Refusal}
use Rattle.paper.proofs.Refused.{refused_first, answered_by}
use Rattle.paper.proofs.AnyOrder.{limit_word}
use Rattle.paper.specs.declared.Vertex.{Vertex}
use Rattle.places.specs.Held.{vertex_as}
use Rattle.job.specs.OpenJob.{JobOf}

module _ (s : List ℕ) (p : ℕ) (v : List ℤ) (k : ℕ) where
  -- what every return shows
  abbrev pub Summed : Result ℤ Refusal → Type 0
  Summed r = RefusedOr (running_sum_refusal s p v k) (λ z. z ≡ running_sum (summed_body s p) (summed_vertex s v) k) r

  pub sum_is : (r : Result ℤ Refusal) → Summed r → summed_as r ≡ running_summed s p v k
  unfolding summed_as running_summed
  sum_is r h = answered_by (λ z. z) (running_sum_refusal s p v k) (running_sum (summed_body s p) (summed_vertex s v) k) r h

  -- Open's refusal, passed on
  pub sum_unopened : (e : Refusal) (r : Result ℤ Refusal) → refusal_number e ≡ open_refusal s → IsErr r × IsErrAnd r (λ k. k ≡ e) → Summed r
  unfolding running_sum_refusal
  sum_unopened e (Ok z) h g = absurd g.1
  sum_unopened e (Err w) h g = ap refusal_number g.1 ∙ refused_first e _ h

-- the refusals behind Open's, one after another
module _ {n : ℕ} {s : List ℕ} (j : JobOf n s) (p : ℕ) (v : Vertex) (k : ℕ) where
  pub no_polynomial : n - 1 ≤ p → 12 ≡ running_sum_refusal s p v.coordinates k
  unfolding running_sum_refusal first_refusal refuse_if
  no_polynomial h =
      let test = le-ltb p (dimension s - 1) (subst (λ (m : ℕ). m - 1 ≤ p) j.dimension h) in
      rw (j.opens, test)

  module _ {b : List ℕ} (under : p < n - 1) (e : b ≡ body s (p + 1)) where
    index_ok : ltb p (dimension s - 1) ≡ true
    index_ok = lt-ltb p (dimension s - 1) (subst (λ (m : ℕ). p < m - 1) j.dimension under)

    pub too_few_terms : term_count b < k → 12 ≡ running_sum_refusal s p v.coordinates k
    unfolding running_sum_refusal summed_body first_refusal refuse_if
    too_few_terms h =
        let test = lt-leb k (term_count (body s (p + 1))) (subst (λ (c : List ℕ). term_count c < k) e h) in
        rw (j.opens, index_ok, test)

    module _ (enough : k ≤ term_count b) where
      count_ok : leb k (term_count (body s (p + 1))) ≡ true
      count_ok = le-leb k (term_count (body s (p + 1))) (subst (λ (c : List ℕ). k ≤ term_count c) e enough)

      vertex_is : vertex_as n v ≡ summed_vertex s v.coordinates
      unfolding vertex_as summed_vertex
      vertex_is = ap (λ (m : ℕ). vertex_as m v) j.dimension

      inside_is : (field_of s).in_box (vertex_as n v) ≡ inside_from (body s 0) 0 (summed_vertex s v.coordinates)
      unfolding field_of field_from
      inside_is = ap (inside_from (body s 0) 0) vertex_is

      pub vertex_outside : (field_of s).in_box (vertex_as n v) ≡ false → 9 ≡ running_sum_refusal s p v.coordinates k
      unfolding running_sum_refusal summed_body first_refusal refuse_if
      vertex_outside h =
          let test = sym inside_is ∙ h in
          rw (j.opens, index_ok, count_ok, test)

      pub sum_answered : (field_of s).in_box (vertex_as n v) ≡ true → {r : ℤ} → Is (partial_sum_limit n) (running_sum b (vertex_as n v) k) r
          → Summed s p v.coordinates k (Ok (back r))
      unfolding running_sum_refusal summed_body first_refusal refuse_if
      sum_answered h {r} i =
          let test = sym inside_is ∙ h in
          (rw (j.opens, index_ok, count_ok, test), (holds_call i (limit_word n)).is ∙ ap₂ (λ c u. running_sum c u k) e vertex_is)
