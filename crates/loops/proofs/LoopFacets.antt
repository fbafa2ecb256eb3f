-- The facets that a trace in a job of dimension 2 lists: none stands twice, and none leaves the box.
use Prim.Native.Nat.{ℕ}
use native.Mathlib.Omega.{arith}
use mathlib.Core.Path.{◌≡◌, sym, ap, subst}
use mathlib.Core.Bool.{true}
use mathlib.Core.List.{List, [], ◌∷◌}
use lib.IntN.{ℤ}
use lib.ListN.{length}
use lib.Signed.{le_z, ◌≤ℤ◌}
use Rattle.exact.specs.Int.{◌⊕◌, ◌⊖◌, 1ℤ}
use Rattle.exact.proofs.AndTests.{and_left, and_right}
use Rattle.exact.proofs.Linear.{split, linear}
use Rattle.curves.specs.Grid.{Facet, Place, plus, facet_vertices}
use Rattle.curves.specs.Curve.{◌∈◌, NoDup}
use Rattle.curves.specs.Step.{every, readable_all}
use Rattle.curves.specs.Joined.{Traceable}
use Rattle.curves.proofs.GridStep.{accepted}
use Rattle.curves.proofs.Finite.{test_le, le_test}
use Rattle.curves.proofs.SameFacet.{facet_path}
use Rattle.curves.proofs.Demand.{grid_demand3}
use Rattle.paper.specs.Job.{dimension}
use Rattle.paper.specs.Values.{field_of}
use Rattle.paper.proofs.Opens.{Opens}
use Rattle.seamlist.specs.Seams.{front, OnSeam}
use Rattle.seamlist.specs.JobSeams.{job_facets}
use Rattle.seamlist.specs.WholeTrace.{whole_trace}
use Rattle.seamlist.proofs.SeamList.{on_seam, joined_on}
use Rattle.nesting.specs.Inside.{edge_from}
use Rattle.nesting.specs.CutOrder.{loop_of, row_end}
use Rattle.nesting.proofs.InsideSteady.{seam_edge}
use Rattle.nesting.proofs.JobLoops.{loop_joined, job_ends_at}
use Rattle.loops.proofs.AheadCount.{Within}

-- ---- one facet

less_one : (x h : ℤ) → x ⊕ 1ℤ ≤ℤ h → x ≤ℤ h ⊖ 1ℤ
less_one x h = rw (split x, split h) (simp linear (omega arith))

less_one_test : (x h : ℤ) → le_z (x ⊕ 1ℤ) h ≡ true → le_z x (h ⊖ 1ℤ) ≡ true
less_one_test x h e = le_test x (h ⊖ 1ℤ) (less_one x h (test_le (x ⊕ 1ℤ) h e))

-- a facet of a seam is an edge, and its far end lies in the box
pub facet_within : (s : List ℕ) (f : Facet) → OnSeam 2 (field_of s) f → Within (row_end s) f
unfolding front facet_vertices every readable_all plus edge_from
facet_within s f o =
    let w = seam_edge (field_of s) f o in
    let low : f.low ≡ w.x ∷ w.y ∷ [] = ap (λ (g : Facet). g.low) w.is in
    let box : every (field_of s).in_box (facet_vertices f) ≡ true = and_left _ (every (field_of s).readable (facet_vertices f)) (accepted 2 (field_of s) (front f) o).readable in
    record {
      x = w.x;
      y = w.y;
      low = low;
      ends =
          λ m.
          let far : every (field_of s).in_box (plus (w.x ∷ w.y ∷ []) 1 ∷ []) ≡ true =
          and_right ((field_of s).in_box (w.x ∷ w.y ∷ [])) _
          (subst (λ (g : Facet). every (field_of s).in_box (facet_vertices g) ≡ true) (facet_path f (edge_from w.y w.x) low m) box) in
          less_one_test w.x (row_end s) (job_ends_at s _ _ (and_left _ true far));
    }

-- ---- the trace

module _ {s : List ℕ} (o : Opens s) (e : dimension s ≡ 2) (q : Place) (t : Traceable 2 (field_of s) q) where
  here : Traceable (dimension s) (field_of s) q
  here = subst (λ n. Traceable n (field_of s) q) (sym e) t

  pub loop_differ : NoDup (loop_of s q)
  unfolding loop_of whole_trace
  loop_differ = (grid_demand3 (dimension s) (field_of s) (omega (arith, e)) q here (length (job_facets s)) 0).no_repeat

  pub loop_within : (f : Facet) → f ∈ loop_of s q → Within (row_end s) f
  loop_within f i =
      facet_within s f
      (subst (λ n. OnSeam n (field_of s) f) e
      (joined_on (dimension s) (field_of s) (omega (arith, e)) q.facet f (on_seam (dimension s) (field_of s) q here) (loop_joined o q here f i)))
