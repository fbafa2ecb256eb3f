-- The step from a held place, through the row of the table and the corner that were found: edge, limit, or the place that the
-- exit leads to, which is held too.
use Prim.Native.Nat.{ℕ, ◌≤◌, ◌<◌}
use native.Mathlib.Omega.{arith}
use mathlib.Core.Path.{◌≡◌, sym, ap, subst, ◌∙◌}
use mathlib.Core.Bool.{Bool, true, false, cond}
use mathlib.Core.List.{List}
use lib.IntN.{ℤ}
use Rattle.std.proofs.Common.{Err}
use Rattle.exact.specs.Crossed.{exit}
use Rattle.curves.specs.Grid.{Place, Incidence, vertices, incidence, place_at, place_of, turn}
use Rattle.curves.specs.Grid as Grid
use Rattle.curves.specs.Walk.{stop, go}
use Rattle.curves.specs.Step.{every, columns, crossed_facet, onward, step_through, step}
use Rattle.curves.specs.Joined.{Traceable}
use Rattle.curves.proofs.IncidenceOf.{Valid, incidence_ok, place_incidence}
use Rattle.curves.proofs.GridStep.{accepted, crossed_columns}
use Rattle.curves.proofs.GridWalk.{other_only, step_traceable}
use Rattle.paper.specs.Values.{field_of}
use Rattle.paper.specs.Operations.{step_in}
use Rattle.paper.specs.Answers.{stop_as}
use Rattle.paper.specs.declared.Stop.{Stop}
use Rattle.paper.specs.declared.Stop.TheVariants.{Edge, Limit}
use Rattle.places.specs.Held.{vertex_as, facet_as, place_as}
use Rattle.paper.specs.declared.Vertex.{Vertex}
use Rattle.paper.specs.declared.HeldPlace.{HeldPlace}
use Rattle.determinants.specs.Cells.{simplex_columns}
use Rattle.columns.specs.Found.{SimplexFound}
use Rattle.job.proofs.Opened.{job_axes}
use Rattle.table.specs.Table.{order_at}
use Rattle.sides.specs.Corners.{CornerIs, PlaceIs}
use Rattle.simplices.specs.Search.{Found}
use Rattle.step.specs.Held.{Held}
use Rattle.step.specs.Ahead.{Leads}
use Rattle.step.proofs.HeldPlaces.{held_form, next_held}

-- both tests hold
pub cond_both : {A : Type 0} (x y z : A) {a b : Bool} → a ≡ true → b ≡ true → cond a (cond b x y) z ≡ x
cond_both x y z h k = rw (h, k)

-- ---- the simplex on a held place's side

module _
    {s : List ℕ} {n : ℕ} {p : HeldPlace} (h : Held s n p)
    {row out : ℕ} (f : Found n (place_as n p) row out)
    {corner : Vertex} (c : CornerIs p.low (order_at n row) out corner)
  where
    abbrev pub simplex : Incidence
    simplex = record { corner = vertex_as n corner; order = order_at n row; out = out }

    abbrev corners : List Grid.Vertex
    corners = vertices (vertex_as n corner) (order_at n row)

    pub simplex_is : incidence n (place_as n p) ≡ simplex
    unfolding place_as facet_as
    simplex_is = f.is ∙ (λ i. record { corner = sym (c.is n) i; order = order_at n row; out = out })

    pub job_step : step_in s (place_as n p) ≡ step n (field_of s) (place_as n p)
    unfolding step_in
    job_step = ap (λ k. step k (field_of s) (place_as n p)) (sym h.job.dimension)

    step_is : step n (field_of s) (place_as n p) ≡ step_through n (field_of s) simplex corners
    unfolding step
    step_is = ap (λ (t : Incidence). step_through n (field_of s) t (vertices t.corner t.order)) simplex_is

    -- what stops the step: a vertex outside the box, or a value that is not readable
    pub at_edge : every (field_of s).in_box corners ≡ false → step_in s (place_as n p) ≡ stop (stop_as Edge)
    unfolding step_through stop_as
    at_edge v = job_step ∙ step_is ∙ rw v

    pub at_limit : every (field_of s).in_box corners ≡ true → every (field_of s).readable corners ≡ false → step_in s (place_as n p) ≡ stop (stop_as Limit)
    unfolding step_through stop_as
    at_limit v w = job_step ∙ step_is ∙ rw (v, w)

    pub stops : (w : Stop) {cells : List ℤ} → SimplexFound s n corners {T = Unit {0}} (Err w) cells → step_in s (place_as n p) ≡ stop (stop_as w)
    stops Edge v = at_edge v.found
    stops Limit v = at_limit v.found.0 v.found.1

    -- nothing stops it, and the cells hold the simplex's columns
    module _ (cells : List ℤ)
        (v : (every (field_of s).in_box corners ≡ true) × ((every (field_of s).readable corners ≡ true) × (simplex_columns n cells ≡ columns (field_of s) corners)))
        {way : ℕ} (w : way ≡ exit n (simplex_columns n cells) out) where
      way_is : way ≡ exit n (columns (field_of s) corners) out
      way_is = w ∙ ap (λ us. exit n us out) v.1.1

      valid : Valid n simplex
      valid = subst (Valid n) simplex_is (incidence_ok n (place_as n p) (held_form h))

      large : 0 < n
      large = omega (arith, (job_axes h.job).low)

      is_place : place_of simplex ≡ place_as n p
      is_place = ap place_of (sym simplex_is) ∙ place_incidence n (place_as n p) (held_form h)

      pub way_inside : way ≤ n
      way_inside =
          subst (λ k. k ≤ n) (sym way_is)
          (other_only n (field_of s) simplex large valid
          (sym (crossed_columns n (field_of s) simplex large valid)
          ∙ ap (λ (q : Place). crossed_facet n (field_of s) q.facet) is_place
          ∙ (accepted n (field_of s) (place_as n p) h.traceable).crosses)).low

      ahead : Place
      ahead = turn (place_at (vertex_as n corner) (order_at n row) way)

      step_ahead : step n (field_of s) (place_as n p) ≡ go ahead
      unfolding step_through onward place_of ahead
      step_ahead =
          step_is
          ∙ cond_both _ _ _ v.0 v.1.0
          ∙ ap (λ k. go (turn (place_at (vertex_as n corner) (order_at n row) k))) (sym way_is)

      pub leads : {q : HeldPlace} → PlaceIs n corner row way (turn (place_at (vertex_as n corner) (order_at n row) way)) q → Leads s n (place_as n p) q
      unfolding ahead
      leads {q} e =
          let t = step_traceable n (field_of s) large (place_as n p) h.traceable ahead step_ahead in
          record {
            is = job_step ∙ step_ahead ∙ ap go (sym e.is);
            held = next_held h f.table c e.low (subst (λ q. Traceable n (field_of s) q) (sym e.is) t);
          }
