-- A simplex that has a facet of a closed curve is readable, and exactly one other of its facets is on that curve: over every dimension from 1 on
-- and every field, for simplices in the box and out of it.
use Prim.Native.Nat.{ℕ, ◌≤◌, ◌<◌}
use mathlib.Core.Path.{◌≡◌, refl, sym, ◌∙◌, subst}
use mathlib.Core.Bool.{true}
use Rattle.exact.specs.Simplex as Columns
use Rattle.exact.specs.Simplex.{OnlyOther}
use Rattle.curves.specs.Grid.{Facet, Incidence, place_of}
use Rattle.curves.specs.Curve.{onward}
use Rattle.curves.specs.Step.{Field, crossed_facet}
use Rattle.curves.specs.Joined.{Shares, Joined, Closes}
use Rattle.curves.proofs.IncidenceOf.{place_formed, Valid, incidence_of_place, place_of_ok}
use Rattle.curves.proofs.GridStep.{accepted, columns_of, AllReadable, without, without_valid, crossed_columns, exit_of}
use Rattle.curves.proofs.GridWalk.{other_only}
use Rattle.seamlist.specs.Seams.{front, OnSeam}
use Rattle.seamlist.proofs.SeamList.{joined_on}

module _ (n : ℕ) (φ : Field) (large : 0 < n) (f : Facet) (on : OnSeam n φ f) where
  -- a facet that is joined to one on a seam is crossed
  pub joined_crossed : (g : Facet) → Joined n φ f g → crossed_facet n φ g ≡ true
  unfolding front
  joined_crossed g j = (accepted n φ (front g) (joined_on n φ large f g on j)).crosses

  module _ (closes : Closes n φ f) (t : Incidence) (v : Valid n t) where
    -- the simplex's facet without vertex i is on the curve of f
    abbrev pub OnCurve : ℕ → Type 0
    OnCurve i = Joined n φ f (place_of (without t i)).facet

    -- a simplex with a facet on a closed curve is readable
    pub curve_readable : (i : ℕ) → i ≤ n → OnCurve i → AllReadable φ t
    curve_readable i l j =
        let u : Incidence = without t i in
        let w : Valid n u = without_valid n φ t large v i l in
        subst (λ (s : Incidence). AllReadable φ s) (incidence_of_place n u large w)
        (closes (place_of u).facet j (place_of u).side (place_formed n (place_of u) (place_of_ok n u large w)).side_under)

    -- the facet is crossed, as the columns of the simplex without that vertex
    curve_columns : (i : ℕ) → i ≤ n → OnCurve i → Columns.FacetCrossed n (columns_of φ t) i
    curve_columns i l j =
        sym (crossed_columns n φ (without t i) large (without_valid n φ t large v i l)) ∙ joined_crossed (place_of (without t i)).facet j

    -- two crossed facets of a readable simplex share it
    crossed_share : AllReadable φ t → (i k : ℕ) → i ≤ n → k ≤ n
        → Columns.FacetCrossed n (columns_of φ t) i → Columns.FacetCrossed n (columns_of φ t) k
        → Shares n φ (place_of (without t i)).facet (place_of (without t k)).facet
    unfolding place_of
    crossed_share r i k l m c d =
        record {
          corner = t.corner;
          order = t.order;
          simplex = record { corner_length = v.corner_length; order_ok = v.order_is };
          readable = r;
          first = record { out = i; out_ok = l; same = refl };
          second = record { out = k; out_ok = m; same = refl };
          first_crossed = crossed_columns n φ (without t i) large (without_valid n φ t large v i l) ∙ c;
          second_crossed = crossed_columns n φ (without t k) large (without_valid n φ t large v k m) ∙ d;
        }

    -- if one facet of a simplex is on a closed curve, exactly one other is
    pub curve_only_other : (i : ℕ) → i ≤ n → OnCurve i → OnlyOther n OnCurve i (exit_of n φ (without t i))
    curve_only_other i l j =
        let c : Columns.FacetCrossed n (columns_of φ t) i = curve_columns i l j in
        let o : OnlyOther n (Columns.FacetCrossed n (columns_of φ t)) i (exit_of n φ (without t i))
        = other_only n φ (without t i) large (without_valid n φ t large v i l) c in
        record {
          low = o.low;
          other = o.other;
          crosses = onward j (crossed_share (curve_readable i l j) i (exit_of n φ (without t i)) l o.low c o.crosses);
          only = λ r r≤ apart k. o.only r r≤ apart (curve_columns r r≤ k);
        }
