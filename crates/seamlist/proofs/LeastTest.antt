-- The test whether a facet is the least of its seam, by its two traces: it passes the least facet whatever the space is, and no other where
-- neither trace is full.
use Prim.Native.Nat.{ℕ, ◌<◌}
use native.Mathlib.Omega.{arith}
use mathlib.Core.Path.{◌≡◌, refl, sym, ap, ◌∙◌}
use mathlib.Core.Bool.{Bool, true, false, not, ◌&&◌}
use mathlib.Core.Logic.{⊎_elim}
use mathlib.Core.List.Memᴰ
use mathlib.Core.List.{List, [], ◌∷◌, map}
use lib.ListN.{length}
use borrow.Author.Tests.{not-true}
use Rattle.exact.proofs.AndTests.{and_left, and_right, and-true}
use Rattle.curves.specs.Grid.{Facet, Place, turn}
use Rattle.curves.specs.Walk.{Trace, loop, full}
use Rattle.curves.specs.Curve.{◌∈◌}
use Rattle.curves.specs.Step.{Stop, Field, every, traceable}
use Rattle.curves.specs.GridDemand.{facet_of, trace_of}
use Rattle.curves.proofs.WalkTrace.{loop_not_full}
use Rattle.curves.proofs.WalkJoined.{not_full_traced}
use Rattle.curves.proofs.WalkClosed.{loop_covers}
use Rattle.curves.proofs.GridStep.{turn_traceable}
use Rattle.curves.proofs.GridWalk.{grid_walk}
use Rattle.curves.proofs.Demand.{grid_demand3}
use Rattle.paper.specs.Job.{dimension}
use Rattle.paper.specs.Values.{field_of}
use Rattle.paper.proofs.Opens.{Opens, opens_range}
use Rattle.seamlist.specs.Seams.{facet_before, front, OnSeam, Least, none_before, least_test}
use Rattle.seamlist.specs.JobSeams.{job_facets, InSeam}
use Rattle.seamlist.proofs.Room.{job_room_lem}

-- ---- a test of all members of a list

every_at : {A : Type 0} (t : A → Bool) (xs : List A) {x : A} → every t xs ≡ true → x ∈ xs → t x ≡ true
unfolding every
every_at t [] e m = absurd (Memᴰ.not-nil m)
every_at t (y ∷ xs) e m =
    ⊎_elim (λ q. ap t q ∙ and_left (t y) (every t xs) e) (λ r. every_at t xs (and_right (t y) (every t xs) e) r) (Memᴰ.cases_cons m)

every_from : {A : Type 0} (t : A → Bool) (xs : List A) → ((x : A) → x ∈ xs → t x ≡ true) → every t xs ≡ true
unfolding every
every_from t [] h = refl
every_from t (y ∷ xs) h = and-true (h y (Memᴰ.head refl)) (every_from t xs (λ x i. h x (Memᴰ.tail i)))

-- ---- one trace

-- none of its facets is before f
none_at : (f : Facet) (t : Trace Place Stop) {g : Facet} → none_before f t ≡ true → g ∈ map facet_of t.places → facet_before g f ≡ false
unfolding none_before
none_at f t e m =
    let w = Memᴰ.of_map facet_of t.places m in
    ap (λ g. facet_before g f) (sym w.2)
    ∙ not-true (facet_before w.0.facet f) (every_at (λ (p : Place). not (facet_before p.facet f)) t.places e w.1)

none_from : (f : Facet) (t : Trace Place Stop) → ((g : Facet) → g ∈ map facet_of t.places → facet_before g f ≡ false) → none_before f t ≡ true
unfolding none_before
none_from f t h =
    every_from (λ (p : Place). not (facet_before p.facet f)) t.places (λ p i. ap not (h p.facet (Memᴰ.map facet_of i)))

-- ---- both traces

module _ (n : ℕ) (φ : Field) (large : 0 < n) where
  -- the least facet passes, with any space
  pub least_tested : {f : Facet} → Least n φ f → (space : ℕ) → least_test n φ space f ≡ true
  unfolding least_test front turn
  least_tested {f} l space =
      let o : OnSeam n φ f = l.on in
      let d = grid_demand3 n φ large (front f) o space space in
      let e = grid_demand3 n φ large (turn (front f)) (turn_traceable n φ (front f) o) space space in
      and-true o
      (and-true (none_from f (trace_of n φ (front f) space) (λ g i. l.first g (d.joined g i)))
      (none_from f (trace_of n φ (turn (front f)) space) (λ g i. l.first g (e.joined g i))))

  -- what the test says, part by part
  pub record Passes (space : ℕ) (f : Facet) : Type 0 where
    pub on : OnSeam n φ f
    pub ahead : none_before f (trace_of n φ (front f) space) ≡ true
    pub behind : none_before f (trace_of n φ (turn (front f)) space) ≡ true

  pub test_passes : (space : ℕ) (f : Facet) → least_test n φ space f ≡ true → Passes space f
  unfolding least_test
  test_passes space f e =
      let a : Bool = traceable n φ (front f) in
      let b : Bool = none_before f (trace_of n φ (front f) space) in
      let c : Bool = none_before f (trace_of n φ (turn (front f)) space) in
      let r : b && c ≡ true = and_right a (b && c) e in
      record { on = and_left a (b && c) e; ahead = and_left b c r; behind = and_right b c r }

  -- only the least passes, where neither trace is full
  pub tested_least : (space : ℕ) (f : Facet)
      → (OnSeam n φ f → ¬ ((trace_of n φ (front f) space).verdict ≡ full))
      → (OnSeam n φ f → ¬ ((trace_of n φ (turn (front f)) space).verdict ≡ full))
      → least_test n φ space f ≡ true → Least n φ f
  unfolding front turn
  tested_least space f nt nb e =
      let p : Passes space f = test_passes space f e in
      let d = (grid_demand3 n φ large (front f) p.on space space).neither_full (nt p.on) (nb p.on) in
      record {
        on = p.on;
        first =
            λ g j.
            ⊎_elim
            (none_at f (trace_of n φ (front f) space) p.ahead)
            (none_at f (trace_of n φ (turn (front f)) space) p.behind)
            (d.every g j);
      }

  -- one trace tells it if that is a loop
  pub loop_least : (space : ℕ) (f : Facet) → OnSeam n φ f → (trace_of n φ (front f) space).verdict ≡ loop
      → none_before f (trace_of n φ (front f) space) ≡ true → Least n φ f
  unfolding front
  loop_least space f o h e =
      let w = grid_walk n φ large in
      record {
        on = o;
        first = λ g j. none_at f (trace_of n φ (front f) space) e (loop_covers w o (not_full_traced w o space (loop_not_full h)) h g j);
      }

-- ---- jobs

module _ {s : List ℕ} (o : Opens s) where
  large : 0 < dimension s
  large = omega (arith, (opens_range o).low)

  -- the space that no trace fills
  abbrev room : ℕ
  room = length (job_facets s)

  front_room : (f : Facet) → InSeam s f → ¬ ((trace_of (dimension s) (field_of s) (front f) room).verdict ≡ full)
  front_room f t = job_room_lem o (front f) t room (omega arith)

  turned_room : (f : Facet) → InSeam s f → ¬ ((trace_of (dimension s) (field_of s) (turn (front f)) room).verdict ≡ full)
  turned_room f t = job_room_lem o (turn (front f)) (turn_traceable (dimension s) (field_of s) (front f) t) room (omega arith)

  pub job_least_tested : {f : Facet} → Least (dimension s) (field_of s) f → (space : ℕ) → least_test (dimension s) (field_of s) space f ≡ true
  job_least_tested l space = least_tested (dimension s) (field_of s) large l space

  pub job_tested_least : (f : Facet) → least_test (dimension s) (field_of s) (length (job_facets s)) f ≡ true → Least (dimension s) (field_of s) f
  job_tested_least f e = tested_least (dimension s) (field_of s) large (length (job_facets s)) f (front_room f) (turned_room f) e
