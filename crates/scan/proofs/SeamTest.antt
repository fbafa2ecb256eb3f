-- The test of one facet: what is not readable or not crossed is no seam's least, and what is, is held.
use Prim.Native.Nat.{ℕ}
use native.Mathlib.Omega.{arith}
use mathlib.Core.Path.{◌≡◌, refl, sym, ap, subst, ◌∙◌}
use mathlib.Core.Bool.{Bool, true, false, ◌&&◌, and-false}
use mathlib.Core.List.{List}
use lib.IntN.{ℤ}
use lib.ListN.{length}
use borrow.Author.Tests.{lt-ltb}
use Rattle.exact.proofs.AndTests.{and_left, and-true}
use Rattle.exact.specs.Crossed.{crossed}
use Rattle.curves.specs.Grid.{Facet, turn, facet_vertices, place_ok}
use Rattle.curves.specs.Step.{readable_all, crossed_facet, traceable}
use Rattle.curves.specs.Joined.{Traceable}
use Rattle.curves.specs.GridDemand.{trace_of}
use Rattle.paper.specs.Job.{dimension}
use Rattle.paper.specs.Values.{field_of}
use Rattle.places.specs.Held.{facet_as, place_as}
use Rattle.paper.specs.declared.HeldPlace.{HeldPlace}
use Rattle.job.proofs.Opened.{job_axes}
use Rattle.determinants.specs.Cells.{facet_columns}
use Rattle.step.specs.Held.{Held}
use Rattle.step.proofs.HeldPlaces.{held_form}
use Rattle.cube.specs.Cube.{FacetTaken, OneSided}
use Rattle.cube.proofs.OneSidedFacets.{one_sided_facet}
use Rattle.seamlist.specs.Seams.{front, none_before, least_test}
use Rattle.seamlist.specs.JobSeams.{job_facets}
use Rattle.least.specs.Search.{least_in, HoldsFacet}
use Rattle.least.proofs.BothWays.{front_is}
use Rattle.scan.specs.Scanned.{OnCube}

-- the two walks of the test
walks_clear : List ℕ → Facet → Bool
walks_clear s f =
    none_before f (trace_of (dimension s) (field_of s) (front f) (length (job_facets s)))
    && none_before f (trace_of (dimension s) (field_of s) (turn (front f)) (length (job_facets s)))

not_taken : (s : List ℕ) (f : Facet) → traceable (dimension s) (field_of s) (front f) ≡ false → false ≡ least_in s f
unfolding least_in least_test walks_clear none_before
not_taken s f e = sym (ap (λ b. b && walks_clear s f) e)

module _ {s : List ℕ} {n : ℕ} {p : HeldPlace} {values : List ℤ} {known : List Bool} (o : OnCube s n p values known) where
  -- the facet
  abbrev f : Facet
  f = facet_as n p

  pub not_readable : {r : Bool} {cells : List ℤ} → FacetTaken s n f r cells → r ≡ false → false ≡ least_in s f
  unfolding traceable front
  not_readable t h =
      let e : readable_all (field_of s) (facet_vertices f) ≡ false = sym t.test ∙ h in
      not_taken s f
      (ap (λ b. place_ok (dimension s) (front f) && (b && crossed_facet (dimension s) (field_of s) f)) e ∙ and-false (place_ok (dimension s) (front f)))

  module _ {r : Bool} {cells : List ℤ} (t : FacetTaken s n f r cells) (h : r ≡ true) where
    crosses : {b : Bool} → crossed n (facet_columns n cells n) ≡ b → crossed_facet n (field_of s) f ≡ b
    unfolding crossed_facet
    crosses e = ap (crossed n) (sym (t.columns h)) ∙ e

    pub not_crossed : crossed n (facet_columns n cells n) ≡ false → false ≡ least_in s f
    unfolding traceable front
    not_crossed c =
        let e : crossed_facet (dimension s) (field_of s) f ≡ false = subst (λ m. crossed_facet m (field_of s) f ≡ false) o.job.dimension (crosses c) in
        not_taken s f
        (ap (λ b. place_ok (dimension s) (front f) && (readable_all (field_of s) (facet_vertices f) && b)) e
        ∙ ap (λ b. place_ok (dimension s) (front f) && b) (and-false (readable_all (field_of s) (facet_vertices f)))
        ∙ and-false (place_ok (dimension s) (front f)))

    pub crossed_held : crossed n (facet_columns n cells n) ≡ true → Held s n p
    unfolding traceable place_as place_ok
    crossed_held c = record {
      job = o.job;
      traceable = and-true (and-true o.form (lt-ltb p.side 2 (omega (arith, o.side)))) (and-true (sym t.test ∙ h) (crosses c));
      size = o.size;
    }

    pub taken_holds : HoldsFacet s n f cells
    taken_holds = record { within = t.within; columns = t.columns h }

  -- nor is a facet of a cube in which a polynomial has one side only
  pub one_sided_seam : OneSided n values known → least_in s f ≡ false
  unfolding traceable front
  one_sided_seam q = sym (not_taken s f (go (readable_all (field_of s) (facet_vertices f)) refl))
    where
      go : (b : Bool) → readable_all (field_of s) (facet_vertices f) ≡ b → traceable (dimension s) (field_of s) (front f) ≡ false
      go true e =
          let c : crossed_facet (dimension s) (field_of s) f ≡ false =
          subst (λ m. crossed_facet m (field_of s) f ≡ false) o.job.dimension (one_sided_facet (job_axes o.job) o.masks o.cube q e) in
          ap (λ b. place_ok (dimension s) (front f) && (readable_all (field_of s) (facet_vertices f) && b)) c
          ∙ ap (λ b. place_ok (dimension s) (front f) && b) (and-false (readable_all (field_of s) (facet_vertices f)))
          ∙ and-false (place_ok (dimension s) (front f))
      go false e =
          ap (λ b. place_ok (dimension s) (front f) && (b && crossed_facet (dimension s) (field_of s) f)) e ∙ and-false (place_ok (dimension s) (front f))

  -- the least of a seam is held
  pub seam_held : least_in s f ≡ true → Held s n p
  unfolding least_in least_test walks_clear none_before
  seam_held e =
      let on : Traceable (dimension s) (field_of s) (front f) = and_left (traceable (dimension s) (field_of s) (front f)) (walks_clear s f) e in
      record {
        job = o.job;
        traceable =
            subst (λ x. Traceable n (field_of s) x) (sym (front_is n p o.side))
            (subst (λ m. Traceable m (field_of s) (front f)) (sym o.job.dimension) on);
        size = o.size;
      }

  -- and well-formed with side 0
  pub seam_form : least_in s f ≡ true → place_ok n (front f) ≡ true
  seam_form e = subst (λ x. place_ok n x ≡ true) (front_is n p o.side) (held_form (seam_held e))
