-- A step by what is carried, over every dimension and any field: the new vertex alone decides whether the step goes on, its column completes the
-- simplex's columns, the comparisons of `exact.specs.Compared` find the exit, and beyond the exit the columns are carried on.
use Prim.Native.Nat.{ℕ, suc, zero, ◌≤◌, ◌<◌}
use mathlib.Core.Path.{◌≡◌, refl, sym, ap, ◌∙◌, subst}
use mathlib.Core.Bool.{Bool, true, false, cond, ◌&&◌}
use mathlib.Core.List.{List, [], ◌∷◌, ◌++◌}
use native.Mathlib.Omega.{arith}
use lib.ListN.{length, get_or, set, get_or-map}
use lib.Dec.{eqb}
use borrow.Author.Tests.{eq-eqb, ne_eqb}
use Rattle.exact.specs.Sign.{sign}
use Rattle.exact.specs.Det.{Column, determinant}
use Rattle.exact.specs.Crossed.{crossed, remove}
use Rattle.exact.specs.Compared.{sign_of, compared_exit, plus_across}
use Rattle.exact.specs.Simplex as Columns
use Rattle.exact.proofs.AndTests.{and_left, and_right}
use Rattle.exact.proofs.Simplex.{remove_map}
use Rattle.curves.specs.Grid.{Vertex, Place, Incidence, facet_vertices, vertices, turn, incidence, place_of, pivot, pivot_at}
use Rattle.curves.specs.Walk.{stop, go}
use Rattle.curves.specs.Step.{edge, limit, every, Field, column, columns, crossed_facet, readable_all, onward, step_through, step}
use Rattle.curves.specs.Joined.{Traceable}
use Rattle.curves.specs.Carried.{Carried, new_vertex, beyond}
use Rattle.curves.proofs.OrderTests.{order_length, length_snoc}
use Rattle.curves.proofs.Vertices.{length_vertices, facet_vertices_lem}
use Rattle.curves.proofs.IncidenceOf.{Valid, incidence_ok, place_incidence, incidence_of_place}
use Rattle.curves.proofs.Pivot.{pivot_first_lem, pivot_last_lem, pivot_middle, pivot_cases, pivot_valid, pivot_turns}
use Rattle.curves.proofs.SameFacet.{turn_facet}
use Rattle.curves.proofs.GridStep.{accepted, columns_of, without, columns_simplex, exit_of}
use Rattle.curves.proofs.GridWalk.{other_only, step_traceable}
use Rattle.exact.proofs.ExitCompared.{exit_compared, exit_determinant}

-- ---- lists without one element

-- a test that holds of all elements but one holds of all exactly if it holds of that one
every_but :
    {A : Type 0} (test : A → Bool) (i : ℕ) (xs : List A) (d : A) → i < length xs → every test (remove i xs) ≡ true
    → every test xs ≡ test (get_or xs i d)
unfolding every remove
every_but test i [] d l e = absurd (omega arith)
every_but test zero (x ∷ xs) d l e = rw e (and_right_true (test x))
  where
    and_right_true : (a : Bool) → a && true ≡ a
    and_right_true true = refl
    and_right_true false = refl
every_but test (suc i) (x ∷ xs) d l e =
    rw (and_left (test x) (every test (remove i xs)) e)
    (every_but test i xs d (omega arith) (and_right (test x) (every test (remove i xs)) e))

-- a list that agrees with another but at i agrees with it when the other's element is put at i
set_known :
    {A : Type 0} (i : ℕ) (us vs : List A) (d : A) → length us ≡ length vs → remove i us ≡ remove i vs → set us i (get_or vs i d) ≡ vs
unfolding remove
set_known i [] [] d s e = refl
set_known i [] (v ∷ vs) d s e = absurd (omega arith)
set_known i (u ∷ us) [] d s e = absurd (omega arith)
set_known zero (u ∷ us) (v ∷ vs) d s e = ap (λ l. v ∷ l) e
set_known (suc i) (u ∷ us) (v ∷ vs) d s e =
    let head : u ≡ v = cc in
    let tail : remove i us ≡ remove i vs = cc in
    rw (head, set_known i us vs d (omega arith) tail)

-- the columns of all vertices but one
columns_remove : (φ : Field) (i : ℕ) (vs : List Vertex) → columns φ (remove i vs) ≡ remove i (columns φ vs)
unfolding columns
columns_remove φ i vs = sym (remove_map (column φ) i vs)

-- ---- the simplex beyond a facet

-- which vertex the pivot brings in: the last for the first, the first for the last, and else the one at the same index
pivot_out :
    (c : Vertex) (o : List ℕ) (i : ℕ) → 0 < length o → i ≤ length o
    → (pivot_at c o i).out ≡ cond (eqb i 0) (length o) (cond (eqb i (length o)) 0 i)
pivot_out = pivot_cases P first last middle
  where
    P : Vertex → List ℕ → ℕ → Type 0
    P c o i = (pivot_at c o i).out ≡ cond (eqb i 0) (length o) (cond (eqb i (length o)) 0 i)

    first : (c : Vertex) (a : ℕ) (o : List ℕ) → P c (a ∷ o) 0
    first c a o = rw (pivot_first_lem c a o)

    last : (c : Vertex) (a : ℕ) (o : List ℕ) → P c (o ++ (a ∷ [])) (suc (length o))
    last c a o = rw (pivot_last_lem c a o, length_snoc a o, ne_eqb (suc (length o)) 0 (omega arith), eq-eqb (suc (length o)) (suc (length o)) refl)

    middle : (c : Vertex) (o : List ℕ) (i : ℕ) → suc i < length o → P c o (suc i)
    middle c o i h = rw (pivot_middle c o i (omega arith), ne_eqb (suc i) 0 (omega arith), ne_eqb (suc i) (length o) (omega arith))

module _ (n : ℕ) (pos : 0 < n) (t : Incidence) (w : Valid n t) (j : ℕ) (l : j ≤ n) where
  -- the simplex with vertex j as the one left out
  valid_without : Valid n (without t j)
  valid_without = record { order_is = w.order_is; corner_length = w.corner_length; out_bound = l }

  -- which vertex of the simplex beyond is new
  pub out_beyond : (beyond t j).out ≡ cond (eqb j 0) n (cond (eqb j n) 0 j)
  unfolding beyond pivot
  out_beyond =
      let size : length t.order ≡ n = order_length n t.order w.order_is in
      pivot_out t.corner t.order j (omega arith) (omega arith) ∙ ap (λ m. cond (eqb j 0) m (cond (eqb j m) 0 j)) size

  -- what is beyond the facet without vertex j is a simplex again
  pub valid_beyond : Valid n (beyond t j)
  unfolding beyond
  valid_beyond = pivot_valid n (without t j) pos valid_without

  -- it is the one on the side of its place
  pub incidence_beyond : incidence n (place_of (beyond t j)) ≡ beyond t j
  incidence_beyond = incidence_of_place n (beyond t j) pos valid_beyond

  -- its place is that of the facet, turned
  pub place_beyond : place_of (beyond t j) ≡ turn (place_of (without t j))
  unfolding beyond
  place_beyond = pivot_turns n (without t j) pos valid_without

  -- its facet has the vertices of the simplex other than vertex j
  facet_beyond : facet_vertices (place_of (beyond t j)).facet ≡ remove j (vertices t.corner t.order)
  unfolding place_of
  facet_beyond =
      ap (λ (q : Place). facet_vertices q.facet) place_beyond ∙ ap facet_vertices (turn_facet (place_of (without t j)))
      ∙ facet_vertices_lem n t.corner t.order j w.order_is pos

-- ---- a step from a place, into the simplex t on its side

module _ (n : ℕ) (φ : Field) (pos : 0 < n) (p : Place) (o : Traceable n φ p) (t : Incidence) (it : incidence n p ≡ t) where
  -- t is a simplex of dimension n and the index of one of its vertices
  pub valid_here : Valid n t
  valid_here = subst (Valid n) it (incidence_ok n p (accepted n φ p o).form)

  -- the facet has the vertices of t other than the new one
  facet_here : facet_vertices p.facet ≡ remove t.out (vertices t.corner t.order)
  unfolding place_of
  facet_here =
      ap (λ (q : Place). facet_vertices q.facet) (sym (place_incidence n p (accepted n φ p o).form) ∙ ap place_of it)
      ∙ facet_vertices_lem n t.corner t.order t.out valid_here.order_is pos

  -- the same of its columns
  columns_here : columns φ (facet_vertices p.facet) ≡ remove t.out (columns_of φ t)
  columns_here = ap (columns φ) facet_here ∙ columns_remove φ t.out (vertices t.corner t.order)

  -- they are crossed
  crossed_here : Columns.FacetCrossed n (columns_of φ t) t.out
  unfolding crossed_facet
  crossed_here = ap (crossed n) (sym columns_here) ∙ (accepted n φ p o).crosses

  -- the exit is the only other vertex whose opposite facet is crossed
  other_here : Columns.OnlyOther n (Columns.FacetCrossed n (columns_of φ t)) t.out (exit_of n φ t)
  other_here = other_only n φ t pos valid_here crossed_here

  -- the exit is one of the vertices
  pub exit_bound : exit_of n φ t ≤ n
  exit_bound = other_here.low

  -- a test that holds of the facet's vertices holds of all those of t exactly if it holds of the new one
  new_alone :
      (test : Vertex → Bool) → every test (facet_vertices p.facet) ≡ true
      → every test (vertices t.corner t.order) ≡ test (new_vertex t)
  unfolding new_vertex
  new_alone test e =
      every_but test t.out (vertices t.corner t.order) []
      (omega (arith, length_vertices t.corner t.order, order_length n t.order valid_here.order_is, valid_here.out_bound))
      (ap (every test) (sym facet_here) ∙ e)

  -- the facet's vertices are in the box and readable, so the new vertex alone decides
  pub new_decides :
      step n φ p
      ≡ cond (φ.in_box (new_vertex t)) (cond (φ.readable (new_vertex t)) (go (place_of (beyond t (exit_of n φ t)))) (stop limit)) (stop edge)
  unfolding step step_through onward readable_all
  new_decides =
      let vs : List Vertex = facet_vertices p.facet in
      let inside : every φ.in_box vs ≡ true = and_left (every φ.in_box vs) (every φ.readable vs) (accepted n φ p o).readable in
      let readable : every φ.readable vs ≡ true = and_right (every φ.in_box vs) (every φ.readable vs) (accepted n φ p o).readable in
      ap (λ u. step_through n φ u (vertices u.corner u.order)) it
      ∙ rw (new_alone φ.in_box inside, new_alone φ.readable readable, place_beyond n pos t valid_here (exit_of n φ t) exit_bound)

  -- the place beyond the exit is one that Step does not refuse
  pub traceable_beyond : φ.in_box (new_vertex t) ≡ true → φ.readable (new_vertex t) ≡ true → Traceable n φ (place_of (beyond t (exit_of n φ t)))
  traceable_beyond inside readable =
      step_traceable n φ pos p o (place_of (beyond t (exit_of n φ t))) (new_decides ∙ rw (inside, readable))

  module _ (us : List Column) (plus : Bool) (c : Carried n φ p t.out us plus) where
    -- with the new vertex's column put in, the columns carried are those of the simplex
    pub filled : set us t.out (column φ (new_vertex t)) ≡ columns_of φ t
    unfolding new_vertex columns
    filled =
        ap (set us t.out) (sym (get_or-map (column φ) (vertices t.corner t.order) t.out []))
        ∙ set_known t.out us (columns_of φ t) (column φ []) (c.size ∙ sym (columns_simplex n φ t pos valid_here).size)
        (c.known ∙ columns_here)

    -- the determinant of the facet, as one of the simplex's columns without the new vertex's
    signed_here : sign (determinant n (remove t.out (columns_of φ t))) ≡ sign_of plus
    signed_here = ap (λ cs. sign (determinant n cs)) (sym columns_here) ∙ c.signed

    -- the comparisons find the exit
    pub compared : compared_exit n (columns_of φ t) plus t.out ≡ exit_of n φ t
    compared =
        exit_compared n (columns_of φ t) plus t.out (columns_simplex n φ t pos valid_here) valid_here.out_bound crossed_here signed_here

    -- columns that agree with those of the simplex but for the exit's are carried at the place beyond
    pub carried_on :
        (ws : List Column) → length ws ≡ suc n
        → remove (beyond t (exit_of n φ t)).out ws ≡ remove (exit_of n φ t) (columns_of φ t)
        → Carried n φ (place_of (beyond t (exit_of n φ t))) (beyond t (exit_of n φ t)).out ws (plus_across plus t.out (exit_of n φ t))
    carried_on ws size known =
        let there : columns φ (facet_vertices (place_of (beyond t (exit_of n φ t))).facet) ≡ remove (exit_of n φ t) (columns_of φ t)
        = ap (columns φ) (facet_beyond n pos t valid_here (exit_of n φ t) exit_bound)
        ∙ columns_remove φ (exit_of n φ t) (vertices t.corner t.order) in
        record {
          size = size;
          known = known ∙ sym there;
          signed =
              ap (λ cs. sign (determinant n cs)) there
              ∙ exit_determinant n (columns_of φ t) plus t.out (columns_simplex n φ t pos valid_here) valid_here.out_bound
              crossed_here signed_here;
        }
