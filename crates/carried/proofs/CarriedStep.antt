-- A step by what is carried: the new vertex decides between edge, limit and going on, and where it goes on the next place is held, and the
-- cells hold what is carried there.
use Prim.Native.Nat.{ℕ, suc, ◌≤◌, ◌<◌}
use native.Mathlib.Omega.{arith}
use mathlib.Core.Path.{◌≡◌, sym, ap, subst, subst₂, ◌∙◌}
use mathlib.Core.Bool.{Bool, true, false, cond}
use mathlib.Core.List.{List}
use lib.IntN.{ℤ}
use lib.ListN.{length, set}
use Rattle.exact.specs.Sign.{sign}
use Rattle.exact.specs.Det.{determinant}
use Rattle.exact.specs.Crossed.{remove}
use Rattle.exact.specs.Compared.{compared_exit, plus_across}
use Rattle.exact.proofs.CountFrom.{length_map_count_from}
use Rattle.curves.specs.Grid.{Place, Incidence, facet_vertices, incidence, place_of, pivot}
use Rattle.curves.specs.Grid as Grid
use Rattle.curves.specs.Walk.{stop, go}
use Rattle.curves.specs.Step.{edge, limit, Field, column, columns, step}
use Rattle.curves.specs.Joined.{Traceable}
use Rattle.curves.specs.Carried.{Carried, new_vertex, beyond}
use Rattle.curves.proofs.IncidenceOf.{Valid}
use Rattle.curves.proofs.GridStep.{columns_of, exit_of}
use Rattle.curves.proofs.Carried.{out_beyond, valid_beyond, incidence_beyond, place_beyond, valid_here, exit_bound, new_decides, traceable_beyond, filled, compared, carried_on}
use Rattle.paper.specs.Values.{field_of}
use Rattle.paper.specs.Operations.{step_in}
use Rattle.places.specs.Held.{vertex_as, facet_as, place_as}
use Rattle.paper.specs.declared.Vertex.{Vertex}
use Rattle.paper.specs.declared.HeldPlace.{HeldPlace}
use Rattle.job.proofs.Opened.{job_axes}
use Rattle.determinants.specs.Cells.{column_at, simplex_columns, facet_columns}
use Rattle.field.specs.Put.{ValuesPut}
use Rattle.table.specs.Table.{order_at}
use Rattle.sides.specs.Corners.{corner_under, CornerIs}
use Rattle.sides.proofs.Anywhere.{place_anywhere, pivot_order, corner_low}
use Rattle.simplices.specs.Search.{Found}
use Rattle.moves.specs.Columns.{new_index, ColumnsMoved}
use Rattle.step.specs.Held.{Held}
use Rattle.step.specs.Ahead.{Leads}
use Rattle.step.proofs.HeldPlaces.{next_held}
use Rattle.step.proofs.SimplexStep.{cond_both, simplex_is, job_step}
use Rattle.carried.specs.declared.Entered.{Entered}
use Rattle.carried.specs.Carries.{Carries, simplex_at, new_vertex_at, Enters, Beyond}
use Rattle.carried.proofs.PutColumn.{column_put}

-- the cells hold n + 1 columns
columns_length : (n : ℕ) (cells : List ℤ) → length (simplex_columns n cells) ≡ suc n
unfolding simplex_columns
columns_length n cells = length_map_count_from (column_at n cells) 0 (suc n)

-- the corner of a simplex, from the lowest vertex of its place
corner_of_place : (t : Incidence) → corner_under (place_of t).facet.low t.order t.out ≡ t.corner
unfolding place_of
corner_of_place t =
    ap (λ (p : Place). corner_under p.facet.low t.order t.out) (place_anywhere t.corner t.order t.out)
    ∙ corner_low t.corner t.order t.out

module _ {s : List ℕ} {n : ℕ} {here : Entered} {cells : List ℤ} (k : Carries s n here cells) {corner : Vertex}
    (c : CornerIs here.place.low (order_at n here.row) here.out corner) where
  -- the job's field, the place, and the simplex on its side
  φ : Field
  φ = field_of s

  x : Place
  x = place_as n here.place

  t : Incidence
  t = simplex_at n corner here.row here.out

  large : 0 < n
  large = omega (arith, (job_axes k.held.job).low)

  is_simplex : incidence n x ≡ t
  unfolding simplex_at x t
  is_simplex = simplex_is k.held k.found c

  -- the new vertex decides
  decides : step_in s x
      ≡ cond (φ.in_box (new_vertex t)) (cond (φ.readable (new_vertex t)) (go (place_of (beyond t (exit_of n φ t)))) (stop limit)) (stop edge)
  unfolding φ x
  decides = job_step k.held k.found c ∙ new_decides n φ large x k.held.traceable t is_simplex

  module _ (v : Vertex) (e : vertex_as n v ≡ new_vertex_at n corner here.row here.out) where
    -- what holds of the new vertex holds of the vertex that the code holds
    at_new : {A : Type 0} (f : Grid.Vertex → A) → f (new_vertex t) ≡ f (vertex_as n v)
    unfolding new_vertex_at t
    at_new f = ap f (sym e)

    pub at_edge : (field_of s).in_box (vertex_as n v) ≡ false → step_in s (place_as n here.place) ≡ stop edge
    unfolding φ x
    at_edge h = decides ∙ rw (at_new (field_of s).in_box ∙ h)

    pub at_limit : (field_of s).in_box (vertex_as n v) ≡ true → (field_of s).readable (vertex_as n v) ≡ false
        → step_in s (place_as n here.place) ≡ stop limit
    unfolding φ x
    at_limit h r = decides ∙ rw (at_new (field_of s).in_box ∙ h, at_new (field_of s).readable ∙ r)

    module _ (inside : (field_of s).in_box (vertex_as n v) ≡ true) {r : Bool} {full : List ℤ}
        (put : ValuesPut s n (vertex_as n v) here.out cells r full) (done : r ≡ true) where
      readable : (field_of s).readable (vertex_as n v) ≡ true
      readable = sym put.test ∙ done

      -- with the new vertex's values the cells hold the columns of the simplex
      columns_full : simplex_columns n full ≡ columns_of φ t
      unfolding new_vertex_at t x φ simplex_at
      columns_full =
          column_put k.found.vertex put done
          ∙ ap (λ w. set (simplex_columns n cells) here.out (column (field_of s) w)) e
          ∙ filled n (field_of s) large x k.held.traceable t is_simplex (simplex_columns n cells) here.plus k.carried

      module _ {w : ℕ} (is : w ≡ compared_exit n (simplex_columns n full) here.plus here.out) where
        -- the comparisons find the exit
        exit_is : w ≡ exit_of n φ t
        unfolding t x φ simplex_at
        exit_is =
            is ∙ ap (λ us. compared_exit n us here.plus here.out) columns_full
            ∙ compared n (field_of s) large x k.held.traceable t is_simplex (simplex_columns n cells) here.plus k.carried

        pub exit_low : w ≤ n
        unfolding x φ
        exit_low = subst (λ j. j ≤ n) (sym exit_is) (exit_bound n φ large x k.held.traceable t is_simplex)

        valid : Valid n t
        unfolding x φ
        valid = valid_here n φ large x k.held.traceable t is_simplex

        -- the simplex there
        there : Incidence
        there = beyond t w

        -- the step goes on to its place
        goes : step_in s x ≡ go (place_of there)
        unfolding there φ
        goes =
            decides ∙ cond_both _ _ _ (at_new (field_of s).in_box ∙ inside) (at_new (field_of s).readable ∙ readable)
            ∙ ap (λ j. go (place_of (beyond t j))) (sym exit_is)

        traceable : Traceable n φ (place_of there)
        unfolding there φ x
        traceable =
            subst (λ j. Traceable n (field_of s) (place_of (beyond t j))) (sym exit_is)
            (traceable_beyond n (field_of s) large x k.held.traceable t is_simplex
            (at_new (field_of s).in_box ∙ inside) (at_new (field_of s).readable ∙ readable))

        module _ {q : Entered} (b : Beyond n corner here w q) where
          -- what the code holds of it: the place, the vertex left out, the order
          place_is : place_as n q.place ≡ place_of there
          unfolding there t simplex_at place_of
          place_is = b.is_place.is ∙ sym (place_beyond n large t valid w exit_low)

          out_is : q.out ≡ there.out
          unfolding there new_index
          out_is = b.is_out ∙ sym (out_beyond n large t valid w exit_low)

          order_is : order_at n q.row ≡ there.order
          unfolding there t simplex_at beyond pivot
          order_is = b.is_row.order ∙ sym (pivot_order (vertex_as n corner) (order_at n here.row) w)

          -- the step leads to the place that is held
          pub leads : Leads s n (place_as n here.place) q.place
          unfolding x φ
          leads = record {
            is = goes ∙ ap go (sym place_is);
            held =
                next_held k.held k.found.table c b.is_place.low
                (subst (λ y. Traceable n (field_of s) y) (sym place_is) traceable);
          }

          -- the simplex on its side
          found_there : Found n (place_as n q.place) q.row q.out
          unfolding there
          found_there = record {
            table = b.is_row.table;
            vertex = subst (λ j. j ≤ n) (sym out_is) (valid_beyond n large t valid w exit_low).out_bound;
            is =
                ap (incidence n) place_is ∙ incidence_beyond n large t valid w exit_low
                ∙ (λ i. record {
                  corner =
                      (sym (corner_of_place there)
                      ∙ (λ i. corner_under (sym place_is i).facet.low (sym order_is i) (sym out_is i))) i;
                  order = sym order_is i;
                  out = sym out_is i;
                });
          }

          module _ {after : List ℤ} (m : ColumnsMoved n w (new_index n w) full after) where
            -- and what is carried there
            carried_there : Carried n φ (place_of there) there.out (simplex_columns n after) (plus_across here.plus here.out w)
            unfolding there x φ t simplex_at facet_columns
            carried_there =
                subst
                (λ j. remove (beyond t j).out (simplex_columns n after) ≡ remove j (columns_of (field_of s) t)
                → Carried n (field_of s) (place_of (beyond t j)) (beyond t j).out (simplex_columns n after) (plus_across here.plus here.out j))
                (sym exit_is)
                (carried_on n (field_of s) large x k.held.traceable t is_simplex (simplex_columns n cells) here.plus k.carried
                (simplex_columns n after) (columns_length n after))
                (ap (λ j. remove j (simplex_columns n after)) (sym out_is ∙ b.is_out) ∙ m.columns ∙ ap (remove w) columns_full)

            pub carries : Carries s n q after
            unfolding x φ
            carries = record {
              held = leads.held;
              found = found_there;
              within = m.within;
              carried =
                  (subst (λ y. Carried n (field_of s) y q.out (simplex_columns n after) q.plus) (sym place_is)
                  (subst₂ (λ j p. Carried n (field_of s) (place_of there) j (simplex_columns n after) p) (sym out_is) (sym b.is_plus) carried_there));
            }

-- the beginning of a walk
pub enters_carries :
    {s : List ℕ} {n : ℕ} {p : HeldPlace} {before after : List ℤ} {r : Entered} → Held s n p
    → facet_columns n before n ≡ columns (field_of s) (facet_vertices (place_as n p).facet) → Enters n p before after r → Carries s n r after
unfolding facet_columns
enters_carries {s} {n} {p} {before} {after} {r} h e g =
    subst (λ q. Held s n q → Found n (place_as n q) r.row r.out → facet_columns n before n ≡ columns (field_of s) (facet_vertices (place_as n q).facet) → Carries s n r after)
    g.place
    (λ held found columns. record {
      held = held;
      found = found;
      within = g.moved.within;
      carried = record {
        size = columns_length n after;
        known = g.moved.columns ∙ columns;
        signed = ap (λ cs. sign (determinant n cs)) (sym columns) ∙ g.signed;
      };
    })
    h g.found e
