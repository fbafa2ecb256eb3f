-- A loop of a job that is inside another is so as a whole: which of its places is listed does not matter, nor its side, nor the place that names the
-- other loop.
use Prim.Native.Nat.{ℕ}
use mathlib.Core.Path.{◌≡◌, refl, sym, ap₂, ◌∙◌, subst}
use mathlib.Core.Bool.{Bool, true, false, not, ◌&&◌, false≢true}
use mathlib.Core.List.Memᴰ
use mathlib.Core.List.{List}
use lib.Signed.{◌<ℤ◌}
use borrow.Author.Tests.{not-true}
use Rattle.exact.proofs.AndTests.{and_left, and_right}
use Rattle.curves.specs.Grid.{Vertex, Facet, Place, facet_vertices}
use Rattle.curves.specs.Curve.{◌∈◌, itself}
use Rattle.curves.specs.Joined.{Joined, Traceable}
use Rattle.curves.proofs.JoinedLaws.{joined_trans, joined_sym}
use Rattle.paper.specs.Job.{dimension}
use Rattle.paper.specs.Values.{field_of}
use Rattle.paper.proofs.Opens.{Opens}
use Rattle.seamlist.specs.Seams.{OnSeam}
use Rattle.seamlist.proofs.SeamList.{on_seam}
use Rattle.nesting.specs.Inside.{inside}
use Rattle.nesting.specs.Loops.{greatest_x}
use Rattle.nesting.specs.CutOrder.{on_loop, loop_of, same_loop, row_end, loop_inside}
use Rattle.nesting.proofs.WholeOrder.{not_less_both}
use Rattle.nesting.proofs.SameMembers.{among_same, inside_same}
use Rattle.nesting.proofs.InsideSteady.{inside_steady}
use Rattle.nesting.proofs.Nested.{inside_rank}
use Rattle.nesting.proofs.JobLoops.{on_loop_closes, loop_joined, joined_loop, same_loop_joined, job_is_loop, job_ends_at}

-- a vertex of the facet
low_listed : (f : Facet) → f.low ∈ facet_vertices f
unfolding facet_vertices
low_listed f = Memᴰ.head refl

module _ {s : List ℕ} (o : Opens s) (q : Place) (t : Traceable (dimension s) (field_of s) q) (l : on_loop s q ≡ true) where
  -- ---- the outer loop

  -- each place on the loop is on a loop, the same
  pub joined_on_loop : (r : Place) → Traceable (dimension s) (field_of s) r → Joined (dimension s) (field_of s) q.facet r.facet → on_loop s r ≡ true
  joined_on_loop r u j = (on_loop_closes o r u).1 (λ g k. (on_loop_closes o q t).0 l g (joined_trans j k))

  -- the place that names the outer loop does not matter
  pub outer_place : (r : Place) → Traceable (dimension s) (field_of s) r → Joined (dimension s) (field_of s) q.facet r.facet
      → (p : Place) → loop_inside s p q ≡ loop_inside s p r
  unfolding loop_inside same_loop
  outer_place r u j p =
      let there : (f : Facet) → f ∈ loop_of s q → f ∈ loop_of s r =
      λ f i. joined_loop o r u (joined_on_loop r u j) f (joined_trans (joined_sym j) (loop_joined o q t f i)) in
      let back : (f : Facet) → f ∈ loop_of s r → f ∈ loop_of s q = λ f i. joined_loop o q t l f (joined_trans j (loop_joined o r u f i)) in
      ap₂ (λ a b. not a && b) (among_same (loop_of s q) (loop_of s r) there back p.facet)
      (inside_same (loop_of s q) (loop_of s r) there back (row_end s) p.facet.low)

  -- ---- the inner loop

  module _ (two : dimension s ≡ 2) (p : Place) (u : Traceable (dimension s) (field_of s) p) where
    -- each vertex of each facet joined to that of p is inside the loop of q exactly if the lowest vertex of p is
    pub job_inside_steady : ¬ Joined (dimension s) (field_of s) q.facet p.facet
        → (g : Facet) → Joined (dimension s) (field_of s) p.facet g
        → (v : Vertex) → v ∈ facet_vertices g → inside (row_end s) (loop_of s q) v ≡ inside (row_end s) (loop_of s q) p.facet.low
    job_inside_steady n g j v i =
        inside_steady (job_ends_at s) (job_is_loop o q t two l) p.facet
        (subst (λ d. OnSeam d (field_of s) p.facet) two (on_seam (dimension s) (field_of s) p u))
        (λ k. n (subst (λ d. Joined d (field_of s) q.facet p.facet) (sym two) k))
        g p.facet (subst (λ d. Joined d (field_of s) p.facet g) two j) itself
        v p.facet.low i (low_listed p.facet)

    -- the place of the inner loop does not matter, nor its side
    pub inner_place : (r : Place) → Joined (dimension s) (field_of s) p.facet r.facet → loop_inside s p q ≡ loop_inside s r q
    unfolding loop_inside
    inner_place r j = go (same_loop s p q) (same_loop s r q) refl refl
      where
        joins : same_loop s r q ≡ true → same_loop s p q ≡ true
        joins h = (same_loop_joined o q t l p).1 (joined_trans ((same_loop_joined o q t l r).0 h) (joined_sym j))

        joined : same_loop s p q ≡ true → same_loop s r q ≡ true
        joined h = (same_loop_joined o q t l r).1 (joined_trans ((same_loop_joined o q t l p).0 h) j)

        go : (a b : Bool) → same_loop s p q ≡ a → same_loop s r q ≡ b
            → (not (same_loop s p q) && inside (row_end s) (loop_of s q) p.facet.low)
            ≡ (not (same_loop s r q) && inside (row_end s) (loop_of s q) r.facet.low)
        go true true h k = rw (h, k)
        go true false h k = absurd (false≢true (sym k ∙ joined h))
        go false true h k = absurd (false≢true (sym h ∙ joins k))
        go false false h k =
            rw (h, k)
            (sym (job_inside_steady (λ i. false≢true (sym h ∙ (same_loop_joined o q t l p).1 i)) r.facet j r.facet.low (low_listed r.facet)))

-- ---- two loops

-- the loop of a place is inside another exactly if it is a different one and the place's lowest vertex is inside that
inside_parts : (s : List ℕ) (p q : Place) → loop_inside s p q ≡ true → (same_loop s p q ≡ false) × (inside (row_end s) (loop_of s q) p.facet.low ≡ true)
unfolding loop_inside
inside_parts s p q e =
    let other : Bool = not (same_loop s p q) in
    let within : Bool = inside (row_end s) (loop_of s q) p.facet.low in
    (not-true (same_loop s p q) (and_left other within e), and_right other within e)

module _ {s : List ℕ} (o : Opens s) (two : dimension s ≡ 2)
    (p : Place) (u : Traceable (dimension s) (field_of s) p) (k : on_loop s p ≡ true)
    (q : Place) (t : Traceable (dimension s) (field_of s) q) (l : on_loop s q ≡ true) where
  -- a loop inside another reaches less far along axis 1
  pub job_inside_rank : loop_inside s p q ≡ true → greatest_x (loop_of s p) <ℤ greatest_x (loop_of s q)
  job_inside_rank e =
      let w = inside_parts s p q e in
      inside_rank (job_ends_at s) (job_is_loop o q t two l)
      (λ j. false≢true (sym w.0 ∙ (same_loop_joined o q t l p).1 (subst (λ d. Joined d (field_of s) q.facet p.facet) (sym two) j)))
      (job_is_loop o p u two k) p.facet.low (low_listed p.facet) w.1

-- two loops are never inside each other
pub job_not_mutual : {s : List ℕ} → Opens s → dimension s ≡ 2
    → (p : Place) → Traceable (dimension s) (field_of s) p → on_loop s p ≡ true
    → (q : Place) → Traceable (dimension s) (field_of s) q → on_loop s q ≡ true
    → loop_inside s p q ≡ true → loop_inside s q p ≡ false
job_not_mutual {s} o two p u k q t l e = go (loop_inside s q p) refl
  where
    go : (b : Bool) → loop_inside s q p ≡ b → loop_inside s q p ≡ false
    go false h = h
    go true h =
        absurd (not_less_both (greatest_x (loop_of s p)) (greatest_x (loop_of s q))
        (job_inside_rank o two p u k q t l e) (job_inside_rank o two q t l p u k h))
