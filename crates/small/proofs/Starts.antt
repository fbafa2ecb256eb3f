-- The start of a job on the small cutter. One beyond 64 on some axis, with the box inside, is refused by the small Trace with 9, as by the full one. And
-- the small limits do not look at the start: the same job with another start is taken too, so traces from other places of a curve are alike as well.
use mathlib.Core.Path.{◌≡◌, refl, sym, ap, subst, ◌∙◌}
use mathlib.Core.Bool.{Bool, true, false, not, ◌&&◌}
use mathlib.Core.List.{List, [], ◌∷◌, map}
use Prim.Native.Nat.{ℕ, suc, zero, ◌+◌, ◌*◌, ◌-◌, ◌≤◌, ◌<◌}
use native.Mathlib.Omega.{arith}
use lib.IntN.{ℤ, pos, nat_abs}
use lib.ListN.{length, get_or}
use lib.Signed.{le_z}
use Rattle.exact.specs.Int.{0ℤ, neg}
use Rattle.exact.proofs.AndTests.{and_left, and_right}
use Rattle.exact.proofs.CountFrom.{length_map_count_from}
use Rattle.curves.specs.Grid.{Vertex, Place, facet_vertices, plus}
use Rattle.curves.specs.Step.{every}
use Rattle.paper.specs.Bytes.{signed_word}
use Rattle.paper.specs.Job.{dimension, body, low_end, high_end, all_from, decode_place, with_start, open_refusal}
use Rattle.paper.specs.Values.{inside_from, field_from, field_of}
use Rattle.paper.specs.Operations.{refused, polynomial_terms, facet_refusal, start_of, trace_refusal, traced}
use Rattle.paper.proofs.Tests.{all_same}
use Rattle.paper.proofs.Refusals.{refuse_here, refuse_later, first_refuses, first_passes, unless_refused}
use Rattle.paper.proofs.Opens.{Opens, opens, opens_range}
use Rattle.paper.proofs.Terms.{between_size}
use Rattle.paper.proofs.WithStart.{with_start_dimension, with_start_body}
use Rattle.small.specs.Small.{small_coordinate_limit, end_small, axis_small, terms_small, job_small, small_refusal, small_traced}
use Rattle.small.proofs.TooLarge.{ends_small, taken_opens, taken_small}
use Rattle.small.proofs.SameAsFull.{same_trace}

-- ---- a start beyond the limit

-- a coordinate of a vertex in the box lies between the ends of its axis
record BetweenEnds (b : List ℕ) (a : ℕ) (x : ℤ) : Type 0 where
  low : le_z (low_end b a) x ≡ true
  high : le_z x (high_end b a) ≡ true

inside_axis : (b : List ℕ) (a : ℕ) (v : Vertex) → inside_from b a v ≡ true → (i : ℕ) → i < length v → BetweenEnds b (a + i) (get_or v i 0ℤ)
unfolding inside_from
inside_axis b a [] h i l = absurd (omega arith)
inside_axis b a (x ∷ v) h zero l =
    let below : Bool = le_z (low_end b a) x in
    let above : Bool = le_z x (high_end b a) in
    let same : a + 0 ≡ a = omega arith in
    subst (λ (k : ℕ). BetweenEnds b k x) (sym same)
    record {
      low = and_left below (above && inside_from b (suc a) v) h;
      high = and_left above (inside_from b (suc a) v) (and_right below (above && inside_from b (suc a) v) h);
    }
inside_axis b a (x ∷ v) h (suc i) l =
    let below : Bool = le_z (low_end b a) x in
    let above : Bool = le_z x (high_end b a) in
    let same : suc a + i ≡ a + suc i = omega arith in
    subst (λ (k : ℕ). BetweenEnds b k (get_or v i 0ℤ)) same
    (inside_axis b (suc a) v (and_right above (inside_from b (suc a) v) (and_right below (above && inside_from b (suc a) v) h)) i (omega arith))

module _ (s : List ℕ) (h : small_refusal s ≡ 0) where
  -- a vertex in the box has no coordinate larger in size than 64
  inside_small : (v : Vertex) → length v ≡ dimension s → inside_from (body s 0) 0 v ≡ true → (a : ℕ) → a < dimension s
      → nat_abs (get_or v a 0ℤ) ≤ small_coordinate_limit
  unfolding axis_small end_small
  inside_small v e i a l =
      let b : List ℕ = body s 0 in
      let x = inside_axis b 0 v i a (omega arith) in
      let ends = ends_small s (taken_small s h) a l in
      let same : 0 + a ≡ a = omega arith in
      let low : Bool = le_z (neg (pos small_coordinate_limit)) (low_end b a) in
      let high : Bool = le_z (high_end b a) (pos small_coordinate_limit) in
      between_size small_coordinate_limit (low_end b a) (high_end b a) (get_or v a 0ℤ)
      (and_left low (le_z (low_end b a) (pos small_coordinate_limit)) (and_left (end_small (low_end b a)) (end_small (high_end b a)) ends))
      (subst (λ (k : ℕ). le_z (low_end b k) (get_or v a 0ℤ) ≡ true) same x.low)
      (subst (λ (k : ℕ). le_z (get_or v a 0ℤ) (high_end b k) ≡ true) same x.high)
      (and_right (le_z (neg (pos small_coordinate_limit)) (high_end b a)) high (and_right (end_small (low_end b a)) (end_small (high_end b a)) ends))

  start_low_length : length (start_of s).facet.low ≡ dimension s
  unfolding start_of decode_place
  start_low_length = length_map_count_from (λ a. signed_word (body s (dimension s)) (2 * a)) 0 (dimension s)

  module _ (a : ℕ) (l : a < dimension s) (x : small_coordinate_limit < nat_abs (get_or (start_of s).facet.low a 0ℤ)) where
    start_outside : every (field_of s).in_box (facet_vertices (start_of s).facet) ≡ false
    unfolding every facet_vertices field_of field_from
    start_outside = go (inside_from (body s 0) 0 (start_of s).facet.low) refl
      where
        go : (p : Bool) → inside_from (body s 0) 0 (start_of s).facet.low ≡ p
            → (inside_from (body s 0) 0 (start_of s).facet.low && every (inside_from (body s 0) 0) (map (plus (start_of s).facet.low) (start_of s).facet.masks)) ≡ false
        go true e = absurd (omega (arith, x, inside_small (start_of s).facet.low start_low_length e a l))
        go false e = rw e

    start_refused : facet_refusal s (start_of s).facet ≡ 9
    unfolding facet_refusal
    start_refused = refuse_here 9 _ (ap not start_outside)

    trace_9 : trace_refusal s ≡ 9
    unfolding trace_refusal
    trace_9 =
        first_passes _ (taken_opens s h)
        ∙ (first_refuses (facet_refusal s (start_of s).facet) _ (λ e. omega (arith, e, start_refused)) ∙ start_refused)

    pub start_beyond : (space : ℕ) → small_traced s space ≡ refused 9
    unfolding traced
    start_beyond space =
        same_trace s h space ∙ (unless_refused (trace_refusal s) _ (λ e. omega (arith, e, trace_9)) ∙ ap refused trace_9)

-- ---- another start

module _ (s : List ℕ) (p : Place) (h : small_refusal s ≡ 0) where
  same_limits : job_small (with_start s p) ≡ job_small s
  unfolding job_small
  same_limits =
      let o = opens s (taken_opens s h) in
      let n : ℕ = dimension s in
      let same-terms : all_from (terms_small (with_start s p)) 1 (n - 1) ≡ all_from (terms_small s) 1 (n - 1) =
      all_same (terms_small (with_start s p)) (terms_small s) 1 (n - 1) (λ k l u. count o k (omega arith)) in
      rw (with_start_dimension o p, with_start_body o p 0 (omega (arith, (opens_range o).low)), same-terms)
    where
      count : Opens s → (k : ℕ) → k < dimension s → terms_small (with_start s p) k ≡ terms_small s k
      count o k l = unfold terms_small in unfold polynomial_terms in rw (with_start_dimension o p, with_start_body o p k l)

  -- the full one opens the job with another start: so does the small one
  pub with_start_lem : open_refusal (with_start s p) ≡ 0 → small_refusal (with_start s p) ≡ 0
  unfolding small_refusal
  with_start_lem e = first_passes _ e ∙ refuse_later 17 0 (ap not (same_limits ∙ taken_small s h))
