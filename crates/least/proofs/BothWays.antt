-- A facet's two walks, both from it and each to one side: what they meet decides whether it is the least of its seam.
use Prim.Native.Nat.{ℕ}
use native.Mathlib.Omega.{arith}
use mathlib.Core.Path.{◌≡◌, sym, ap, ap₂, subst, ◌∙◌}
use mathlib.Core.Bool.{Bool, true, false, ◌&&◌, and-true, and-false}
use mathlib.Core.List.{List}
use lib.IntN.{ℤ}
use lib.ListN.{length}
use Rattle.curves.specs.Grid.{Facet, Place, turn}
use Rattle.curves.specs.Walk.{loop, full, trace}
use Rattle.exact.specs.Crossed.{crossed}
use Rattle.curves.specs.Step.{crossed_facet}
use Rattle.curves.specs.Joined.{Traceable}
use Rattle.curves.proofs.GridStep.{accepted, turn_traceable}
use Rattle.paper.specs.Job.{dimension}
use Rattle.paper.specs.Values.{field_of}
use Rattle.paper.specs.Operations.{step_in, on_same_facet}
use Rattle.paper.proofs.Opens.{opens_range}
use Rattle.places.specs.Held.{facet_as, place_as, VertexSize}
use Rattle.paper.specs.declared.HeldPlace.{HeldPlace}
use Rattle.job.proofs.Opened.{job_opens}
use Rattle.determinants.specs.Cells.{facet_columns}
use Rattle.step.specs.Held.{held_limit, Held}
use Rattle.carried.specs.declared.Entered.{Entered}
use Rattle.carried.specs.Carries.{Enters}
use Rattle.carried.proofs.CarriedStep.{enters_carries}
use Rattle.seamlist.specs.Seams.{facet_before, front, least_test}
use Rattle.seamlist.specs.JobSeams.{job_facets}
use Rattle.seamlist.proofs.Room.{job_room_lem}
use Rattle.seamlist.proofs.LeastTest.{job_least_tested, loop_least}
use Rattle.seamlist.proofs.FacetOrder.{before_irreflexive}
use Rattle.seamlist.specs.WholeTrace.{rest_from}
use Rattle.least.specs.Search.{least_in, clear_from, Walks, LeadsOn, HoldsFacet}

-- a walk that began at its start has come to `here`, and the rest of the trace says what the whole does
pub record Way (s : List ℕ) (n : ℕ) (start : HeldPlace) (here : Entered) (cells : List ℤ) : Type 0 where
  pub walks : Walks s n start here cells
  pub same_verdict : (rest_from s (place_as n start) (place_as n start)).verdict ≡ (rest_from s (place_as n start) (place_as n here.place)).verdict
  pub same_test : clear_from s (place_as n start) (place_as n start) ≡ clear_from s (place_as n start) (place_as n here.place)

pub way_on : {s : List ℕ} {n : ℕ} {start : HeldPlace} {here next : Entered} {cells after : List ℤ} → Way s n start here cells
    → LeadsOn s (place_as n start) (place_as n here.place) (place_as n next.place) × Walks s n start next after → Way s n start next after
way_on w l = record {
  walks = l.1;
  same_verdict = w.same_verdict ∙ l.0.same_verdict;
  same_test = w.same_test ∙ l.0.same_test;
}

-- ---- the start of a walk

module _ {s : List ℕ} {n : ℕ} {p : HeldPlace} (h : Held s n p) where
  -- the place in the job's dimension
  takes : Traceable (dimension s) (field_of s) (place_as n p)
  takes = subst (λ m. Traceable m (field_of s) (place_as n p)) h.job.dimension h.traceable

  has_room : ¬ ((rest_from s (place_as n p) (place_as n p)).verdict ≡ full)
  unfolding rest_from step_in on_same_facet trace
  has_room = job_room_lem (job_opens h.job) (place_as n p) takes (length (job_facets s)) (omega arith)

  pub way_begins : {before after : List ℤ} {r : Entered} → HoldsFacet s n (facet_as n p) before → Enters n p before after r → Way s n p r after
  unfolding place_as
  way_begins {before} {after} {r} c e =
      let is : place_as n r.place ≡ place_as n p = ap (place_as n) e.place in
      record {
        walks = record {
          start_held = h;
          carries = enters_carries h c.columns e;
          not_before_lem = ap (λ (x : Place). facet_before x.facet (place_as n p).facet) is ∙ before_irreflexive (place_as n p).facet;
          not_full = λ f. has_room (ap (λ x. (rest_from s (place_as n p) x).verdict) (sym is) ∙ f);
        };
        same_verdict = ap (λ x. (rest_from s (place_as n p) x).verdict) (sym is);
        same_test = ap (clear_from s (place_as n p)) (sym is);
      }

  -- the facet's columns are those of a crossed facet
  pub crossed_columns : {cells : List ℤ} → HoldsFacet s n (facet_as n p) cells → crossed n (facet_columns n cells n) ≡ true
  unfolding place_as crossed_facet
  crossed_columns c = ap (crossed n) c.columns ∙ (accepted n (field_of s) (place_as n p) h.traceable).crosses

-- ---- both walks

-- what the test says of the two whole traces
test_parts : (s : List ℕ) (f : Facet) → Traceable (dimension s) (field_of s) (front f)
    → least_in s f ≡ (clear_from s (front f) (front f) && clear_from s (turn (front f)) (turn (front f)))
unfolding least_in least_test clear_from rest_from trace step_in on_same_facet turn front
test_parts s f o = rw o

pub front_is : (n : ℕ) (p : HeldPlace) → p.side ≡ 0 → place_as n p ≡ front (facet_as n p)
unfolding place_as front
front_is n p e = λ i. record { facet = facet_as n p; side = e i }

module _ {s : List ℕ} {n : ℕ} {p : HeldPlace} (h : Held s n p) (side : p.side ≡ 0) (q : HeldPlace) (t : place_as n q ≡ turn (place_as n p)) where
  -- the place turned is held too
  pub turned_held : q.low ≡ p.low → Held s n q
  turned_held e = record {
    job = h.job;
    traceable = subst (λ x. Traceable n (field_of s) x) (sym t) (turn_traceable n (field_of s) (place_as n p) h.traceable);
    size = subst (VertexSize held_limit) (sym e) h.size;
  }

  turned_facet : facet_as n q ≡ facet_as n p
  unfolding place_as turn
  turned_facet = ap (λ (x : Place). x.facet) t

  -- and its walk begins with the same columns
  pub turned_begins : {before after : List ℤ} {r : Entered} → q.low ≡ p.low → HoldsFacet s n (facet_as n p) before → Enters n q before after r
      → Way s n q r after
  turned_begins {before} e c g = way_begins (turned_held e) (subst (λ f. HoldsFacet s n f before) (sym turned_facet) c) g

  on : Traceable (dimension s) (field_of s) (front (facet_as n p))
  on = subst (λ x. Traceable (dimension s) (field_of s) x) (front_is n p side) (takes h)

  both_decide : least_in s (facet_as n p) ≡ (clear_from s (place_as n p) (place_as n p) && clear_from s (place_as n q) (place_as n q))
  both_decide =
      test_parts s (facet_as n p) on
      ∙ ap₂ (λ x y. clear_from s x x && clear_from s y y) (sym (front_is n p side)) (sym (t ∙ ap turn (front_is n p side)))

  -- the first walk meets a facet before the start's
  pub front_before : {here : Entered} {cells : List ℤ} → Way s n p here cells → clear_from s (place_as n p) (place_as n here.place) ≡ false
      → false ≡ least_in s (facet_as n p)
  front_before w e = sym (both_decide ∙ rw (w.same_test ∙ e))

  -- so does the second
  pub back_before : {here : Entered} {cells : List ℤ} → Way s n q here cells → clear_from s (place_as n q) (place_as n here.place) ≡ false
      → false ≡ least_in s (facet_as n p)
  back_before w e =
      sym (both_decide ∙ ap (λ b. clear_from s (place_as n p) (place_as n p) && b) (w.same_test ∙ e) ∙ and-false (clear_from s (place_as n p) (place_as n p)))

  -- the first walk closes
  pub front_closed : {here : Entered} {cells : List ℤ} → Way s n p here cells
      → ((rest_from s (place_as n p) (place_as n here.place)).verdict ≡ loop) × (clear_from s (place_as n p) (place_as n here.place) ≡ true)
      → true ≡ least_in s (facet_as n p)
  unfolding least_in rest_from clear_from trace step_in on_same_facet front
  front_closed w e =
      let o = job_opens h.job in
      sym (job_least_tested o
      (loop_least (dimension s) (field_of s) (omega (arith, (opens_range o).low)) (length (job_facets s)) (facet_as n p) on
      (ap (λ x. (rest_from s x x).verdict) (sym (front_is n p side)) ∙ w.same_verdict ∙ e.0)
      (ap (λ x. clear_from s x x) (sym (front_is n p side)) ∙ w.same_test ∙ e.1))
      (length (job_facets s)))

  -- the first has ended, and the second decides
  pub second_decides : {here other : Entered} {cells others : List ℤ} {r : Bool} → Way s n p here cells
      → clear_from s (place_as n p) (place_as n here.place) ≡ true → Way s n q other others
      → r ≡ clear_from s (place_as n q) (place_as n other.place) → r ≡ least_in s (facet_as n p)
  second_decides w e v is = is ∙ sym v.same_test ∙ sym (both_decide ∙ rw (w.same_test ∙ e))

  -- the second has ended, and the first decides
  pub first_decides : {here other : Entered} {cells others : List ℤ} {r : Bool} → Way s n p here cells
      → r ≡ clear_from s (place_as n p) (place_as n here.place) → Way s n q other others
      → clear_from s (place_as n q) (place_as n other.place) ≡ true → r ≡ least_in s (facet_as n p)
  first_decides w is v e =
      is ∙ sym w.same_test
      ∙ sym (both_decide ∙ ap (λ b. clear_from s (place_as n p) (place_as n p) && b) (v.same_test ∙ e) ∙ and-true (clear_from s (place_as n p) (place_as n p)))
