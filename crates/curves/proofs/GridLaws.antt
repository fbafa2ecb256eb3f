-- What document 01 takes over from the mathematics of the grid, for every dimension n from 1 on: a simplex has no crossed facet or
-- exactly two; each well-formed facet lies on the two simplices of its sides and on no other; and turning a place is the P rule.
use Prim.Native.Nat.{ℕ, ◌≤◌, ◌<◌}
use mathlib.Core.Path.{◌≡◌, sym, ap, ap₂, ◌∙◌}
use mathlib.Core.Bool.{true}
use mathlib.Core.Logic.{◌⊎◌}
use mathlib.Core.List.{List}
use native.Mathlib.Omega.{arith}
use Rattle.exact.specs.Crossed.{crossed, remove}
use Rattle.exact.specs.Simplex.{NoneOrTwo}
use Rattle.exact.proofs.Simplex.{none_or_two}
use Rattle.curves.specs.Grid.{Vertex, Facet, Place, Incidence, vertices, facet_ok, place_ok, turn, incidence, place_at, place_of, pivot}
use Rattle.curves.specs.Reflection.{reflected_p, replaced, vertices_of}
use Rattle.curves.specs.Step.{Field, columns, crossed_facet}
use Rattle.curves.specs.Joined.{IsSimplex}
use Rattle.curves.proofs.IncidenceOf.{place_dimension, place_incidence, Valid, incidence_ok, incidence_of_place}
use Rattle.curves.proofs.IncidenceSides.{facet_out, sided, side_facet, sides_differ, facet_sides}
use Rattle.curves.proofs.Pivot.{pivot_valid, pivot_turns}
use Rattle.curves.proofs.PRule.{p_rule}
use Rattle.curves.proofs.GridStep.{columns_simplex, crossed_columns}

-- ---- the crossed facets of a simplex

-- a simplex and one of its vertices
simplex_valid : (n : ℕ) (c : Vertex) (o : List ℕ) (i : ℕ) → IsSimplex n c o → i ≤ n → Valid n record { corner = c; order = o; out = i }
simplex_valid n c o i σ l = record { order_is = σ.order_ok; corner_length = σ.corner_length; out_bound = l }

-- none or exactly two, in terms of the columns ..
pub simplex_none_or_two : (n : ℕ) (φ : Field) (c : Vertex) (o : List ℕ) → 0 < n → IsSimplex n c o → NoneOrTwo n (columns φ (vertices c o))
simplex_none_or_two n φ c o pos σ = none_or_two n _ (columns_simplex n φ _ pos (simplex_valid n c o 0 σ (omega arith)))

-- .. and the facet without vertex i is crossed exactly if the columns without that of vertex i are
pub simplex_facet_crossed :
    (n : ℕ) (φ : Field) (c : Vertex) (o : List ℕ) (i : ℕ) → 0 < n → IsSimplex n c o → i ≤ n
    → crossed_facet n φ (place_at c o i).facet ≡ crossed n (remove i (columns φ (vertices c o)))
unfolding place_of
simplex_facet_crossed n φ c o i pos σ l = crossed_columns n φ record { corner = c; order = o; out = i } pos (simplex_valid n c o i σ l)

-- ---- the simplices of a facet

-- a facet lies on just the simplices of its two sides
pub record OnTwoSides (n : ℕ) (f : Facet) : Type 0 where
  pub on_side : (s : ℕ) → s < 2 → Valid n (incidence n (sided f s)) × ((place_of (incidence n (sided f s))).facet ≡ f)
  pub differ : (incidence n (sided f 0)).corner ≡ (incidence n (sided f 1)).corner → ¬ ((incidence n (sided f 0)).order ≡ (incidence n (sided f 1)).order)
  pub no_other : (t : Incidence) → Valid n t → (place_of t).facet ≡ f → (t ≡ incidence n (sided f 0)) ⊎ (t ≡ incidence n (sided f 1))

pub facet_on_two_sides : (n : ℕ) (f : Facet) → 0 < n → facet_ok n f ≡ true → OnTwoSides n f
unfolding place_of
facet_on_two_sides n f pos h =
    record { on_side = λ s l. side_facet n f s h l; differ = differ; no_other = λ t v e. facet_sides n t f pos v e }
  where
    differ : (incidence n (sided f 0)).corner ≡ (incidence n (sided f 1)).corner → ¬ ((incidence n (sided f 0)).order ≡ (incidence n (sided f 1)).order)
    differ c o =
        let t : Incidence = incidence n (sided f 0) in
        let u : Incidence = incidence n (sided f 1) in
        let v : Valid n u = (side_facet n f 1 h (omega arith)).0 in
        let e : t.out ≡ u.out =
        facet_out n u.corner u.order t.out u.out pos v.order_is v.corner_length
        (side_facet n f 0 h (omega arith)).0.out_bound v.out_bound
        (ap₂ (λ (x : Vertex) (y : List ℕ). (place_at x y t.out).facet) (sym c) (sym o)
        ∙ (side_facet n f 0 h (omega arith)).1 ∙ sym (side_facet n f 1 h (omega arith)).1)
        in
        sides_differ n f h (λ i. record { corner = c i; order = o i; out = e i })

-- ---- turning is the P rule

-- the simplex on the other side of a place is the neighbour over its facet ..
pub turn_pivot : (n : ℕ) (p : Place) → place_ok n p ≡ true → incidence n (turn p) ≡ pivot (incidence n p)
turn_pivot n p h =
    let pos : 0 < n = place_dimension n p h in
    let v : Valid n (incidence n p) = incidence_ok n p h in
    ap (incidence n) (ap turn (sym (place_incidence n p h)) ∙ sym (pivot_turns n (incidence n p) pos v))
    ∙ incidence_of_place n (pivot (incidence n p)) pos (pivot_valid n (incidence n p) pos v)

-- .. so its vertices are those of the simplex with s_(i−1) + s_(i+1) − s_i for the vertex s_i that the facet leaves out
pub turn_vertices :
    (n : ℕ) (p : Place) → place_ok n p ≡ true →
    vertices_of (incidence n (turn p)) ≡
    replaced n (vertices_of (incidence n p)) (incidence n p).out (reflected_p (vertices_of (incidence n p)) (incidence n p).out)
turn_vertices n p h = ap vertices_of (turn_pivot n p h) ∙ p_rule n (incidence n p) (place_dimension n p h) (incidence_ok n p h)
