-- The step in the grid. A place that Step does not refuse is a simplex without one vertex, whose facet is crossed and readable;
-- the step goes on exactly if the whole simplex is readable, and then leads to the place of its other crossed facet, turned.
use Prim.Native.Nat.{ℕ, zero, suc, ◌-◌, ◌≤◌, ◌<◌}
use mathlib.Core.Path.{◌≡◌, refl, sym, ap, ◌∙◌, subst}
use mathlib.Core.Bool.{Bool, true, false, cond, ◌&&◌}
use mathlib.Core.List.{List, [], ◌∷◌}
use native.Mathlib.Omega.{arith}
use lib.Dec.{ltb}
use borrow.Author.Tests.{lt-ltb}
use Rattle.exact.proofs.AndTests.{and_left, and_right, and-true}
use Rattle.exact.specs.Det.{Column}
use Rattle.exact.specs.Crossed.{crossed, remove, exit}
use Rattle.exact.specs.Simplex as Columns
use Rattle.exact.proofs.Simplex.{simplex_map, remove_map}
use Rattle.curves.specs.Grid.{Vertex, Place, Incidence, facet_vertices, vertices, facet_ok, place_ok, turn, incidence, place_of}
use Rattle.curves.specs.Walk.{stop, go}
use Rattle.curves.specs.Step.{edge, limit, every, Field, column, columns, crossed_facet, readable_all, traceable, onward, step_through, step}
use Rattle.curves.specs.Joined.{Traceable}
use Rattle.curves.proofs.OrderTests.{order_length}
use Rattle.curves.proofs.Vertices.{length_vertices, facet_vertices_lem}
use Rattle.curves.proofs.IncidenceOf.{place_formed, Valid, incidence_of_place, place_of_ok}

-- ---- what holds of all vertices holds of all but one

pub every_remove : {A : Type 0} (t : A → Bool) (i : ℕ) (xs : List A) → every t xs ≡ true → every t (remove i xs) ≡ true
unfolding every remove
every_remove t i [] e = refl
every_remove t zero (x ∷ xs) e = and_right (t x) (every t xs) e
every_remove t (suc i) (x ∷ xs) e = and-true (and_left (t x) (every t xs) e) (every_remove t i xs (and_right (t x) (every t xs) e))

pub readable_remove : (φ : Field) (i : ℕ) (vs : List Vertex) → readable_all φ vs ≡ true → readable_all φ (remove i vs) ≡ true
unfolding readable_all
readable_remove φ i vs e =
    and-true (every_remove φ.in_box i vs (and_left (every φ.in_box vs) (every φ.readable vs) e))
    (every_remove φ.readable i vs (and_right (every φ.in_box vs) (every φ.readable vs) e))

-- ---- a place that Step does not refuse

pub record Accepted (n : ℕ) (φ : Field) (p : Place) : Type 0 where
  pub form : place_ok n p ≡ true
  pub readable : readable_all φ (facet_vertices p.facet) ≡ true
  pub crosses : crossed_facet n φ p.facet ≡ true

pub accepted : (n : ℕ) (φ : Field) (p : Place) → Traceable n φ p → Accepted n φ p
unfolding traceable
accepted n φ p o =
    let a : Bool = place_ok n p in
    let b : Bool = readable_all φ (facet_vertices p.facet) in
    let c : Bool = crossed_facet n φ p.facet in
    let r : b && c ≡ true = and_right a (b && c) o in
    record { form = and_left a (b && c) o; readable = and_left b c r; crosses = and_right b c r }

pub accepted_traceable : (n : ℕ) (φ : Field) (p : Place) → Accepted n φ p → Traceable n φ p
unfolding traceable
accepted_traceable n φ p a = and-true a.form (and-true a.readable a.crosses)

pub turn_ok : (n : ℕ) (p : Place) → place_ok n p ≡ true → place_ok n (turn p) ≡ true
unfolding place_ok turn
turn_ok n p h =
    and-true (and_left (facet_ok n p.facet) (ltb p.side 2) h) (lt-ltb (1 - p.side) 2 (omega arith))

pub turn_traceable : (n : ℕ) (φ : Field) (p : Place) → Traceable n φ p → Traceable n φ (turn p)
unfolding turn
turn_traceable n φ p o =
    let a : Accepted n φ p = accepted n φ p o in
    accepted_traceable n φ (turn p) (record { form = turn_ok n p a.form; readable = a.readable; crosses = a.crosses })

pub traceable_side : (n : ℕ) (φ : Field) (p : Place) → Traceable n φ p → p.side < 2
traceable_side n φ p o = (place_formed n p (accepted n φ p o).form).side_under

-- ---- the simplex without one vertex

-- the columns of a simplex's vertices
abbrev pub columns_of : Field → Incidence → List Column
columns_of φ t = columns φ (vertices t.corner t.order)

-- all vertices of a simplex are readable
abbrev pub AllReadable : Field → Incidence → Type 0
AllReadable φ t = readable_all φ (vertices t.corner t.order) ≡ true

-- the same simplex without another vertex
abbrev pub without : Incidence → ℕ → Incidence
without t j = record { corner = t.corner; order = t.order; out = j }

module _ (n : ℕ) (φ : Field) (t : Incidence) (p : 0 < n) (v : Valid n t) where
  pub without_valid : (j : ℕ) → j ≤ n → Valid n (without t j)
  without_valid j l = record { order_is = v.order_is; corner_length = v.corner_length; out_bound = l }

  pub columns_simplex : Columns.IsSimplex n (columns_of φ t)
  unfolding columns column
  columns_simplex =
      simplex_map (column φ) n (vertices t.corner t.order) p
      (length_vertices t.corner t.order ∙ ap suc (order_length n t.order v.order_is))
      (λ w. refl)

  -- the facet is crossed exactly if the columns without that vertex are
  pub crossed_columns : crossed_facet n φ (place_of t).facet ≡ crossed n (remove t.out (columns_of φ t))
  unfolding crossed_facet columns place_of
  crossed_columns =
      ap (crossed n)
      (ap (columns φ) (facet_vertices_lem n t.corner t.order t.out v.order_is p)
      ∙ sym (remove_map (column φ) t.out (vertices t.corner t.order)))

  -- a crossed facet of a readable simplex is one that Step does not refuse
  pub place_traceable : AllReadable φ t → Columns.FacetCrossed n (columns_of φ t) t.out → Traceable n φ (place_of t)
  unfolding place_of
  place_traceable r c =
      accepted_traceable n φ (place_of t)
      (record {
        form = place_of_ok n t p v;
        readable =
            ap (readable_all φ) (facet_vertices_lem n t.corner t.order t.out v.order_is p)
            ∙ readable_remove φ t.out (vertices t.corner t.order) r;
        crosses = crossed_columns ∙ c;
      })

-- ---- the step

-- the vertex that the other crossed facet leaves out
abbrev pub exit_of : ℕ → Field → Incidence → ℕ
exit_of n φ t = exit n (columns_of φ t) t.out

-- a step that goes on: the simplex is readable, and the place is that of the other crossed facet, turned
pub record Goes (n : ℕ) (φ : Field) (p y : Place) : Type 0 where
  pub readable : AllReadable φ (incidence n p)
  pub target : y ≡ turn (place_of (without (incidence n p) (exit_of n φ (incidence n p))))

-- the step by its two tests
pub step_tests : (n : ℕ) (φ : Field) (p : Place) (a b : Bool) →
    every φ.in_box (vertices (incidence n p).corner (incidence n p).order) ≡ a →
    every φ.readable (vertices (incidence n p).corner (incidence n p).order) ≡ b →
    step n φ p ≡ cond a (cond b (go (turn (place_of (without (incidence n p) (exit_of n φ (incidence n p)))))) (stop limit)) (stop edge)
unfolding step step_through onward
step_tests n φ p a b h k = rw (h, k)

pub step_goes : (n : ℕ) (φ : Field) (p y : Place) → step n φ p ≡ go y → Goes n φ p y
unfolding readable_all
step_goes n φ p y e = by_tests _ _ refl refl
  where
    vs : List Vertex
    vs = vertices (incidence n p).corner (incidence n p).order

    by_tests : (a b : Bool) → every φ.in_box vs ≡ a → every φ.readable vs ≡ b → Goes n φ p y
    by_tests false b h k =
        let q : stop edge ≡ go y = sym (step_tests n φ p false b h k) ∙ e in
        let z : ◌≡◌ {A = ℕ} 0 1 = cc in
        absurd (let bad : ⊥ = omega arith in bad)
    by_tests true false h k =
        let q : stop limit ≡ go y = sym (step_tests n φ p true false h k) ∙ e in
        let z : ◌≡◌ {A = ℕ} 0 1 = cc in
        absurd (let bad : ⊥ = omega arith in bad)
    by_tests true true h k = record { readable = and-true h k; target = cc (step_tests n φ p true true h k) }

pub goes_step : (n : ℕ) (φ : Field) (p : Place) → AllReadable φ (incidence n p) →
    step n φ p ≡ go (turn (place_of (without (incidence n p) (exit_of n φ (incidence n p)))))
unfolding readable_all
goes_step n φ p r =
    let vs : List Vertex = vertices (incidence n p).corner (incidence n p).order in
    step_tests n φ p true true (and_left (every φ.in_box vs) (every φ.readable vs) r)
    (and_right (every φ.in_box vs) (every φ.readable vs) r)

-- the same from the simplex: its facet's place leads through it
pub step_place : (n : ℕ) (φ : Field) (t : Incidence) → 0 < n → Valid n t → AllReadable φ t →
    step n φ (place_of t) ≡ go (turn (place_of (without t (exit_of n φ t))))
step_place n φ t p v r = subst P (incidence_of_place n t p v) (goes_step n φ (place_of t)) r
  where
    P : Incidence → Type 0
    P u = AllReadable φ u → step n φ (place_of t) ≡ go (turn (place_of (without u (exit_of n φ u))))
