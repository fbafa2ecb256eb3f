-- Crossed facets, readable simplices and the step, over the dimension n, over any values at the vertices, any box and any
-- test of which vertices are readable: document 01, sections "Crossed" and "Step".
use Rattle.std.specs.Prelude.{ℕ, Bool, true, cond, ◌&&◌, List, [], ◌∷◌, map, ℤ}
use Rattle.exact.specs.Int.{1ℤ}
use Rattle.exact.specs.Det.{Column}
use Rattle.exact.specs.Crossed.{crossed, exit}
use Rattle.curves.specs.Grid.{Vertex, Facet, Place, Incidence, facet_vertices, place_ok, vertices, incidence, place_of, turn}
use Rattle.curves.specs.Walk.{Next, stop, go}

-- why a step ends: a vertex outside the box, or one whose values are not readable
pub data Stop : Type 0 where
  edge limit : Stop

-- a test holds for each member of a list
unfoldable pub every : {A : Type 0} → (A → Bool) → List A → Bool
every t [] = true
every t (x ∷ xs) = t x && every t xs

-- what a curve is drawn on: the values f1 .. f(n−1) at a vertex, the vertices in the box, and those with readable values
pub record Field : Type 0 where
  pub value : Vertex → List ℤ
  pub in_box : Vertex → Bool
  pub readable : Vertex → Bool

-- the column 1, f1(v), .., f(n−1)(v)
unfoldable pub column : Field → Vertex → Column
column φ v = 1ℤ ∷ φ.value v

unfoldable pub columns : Field → List Vertex → List Column
columns φ vs = map (column φ) vs

-- the facet is crossed
unfoldable pub crossed_facet : ℕ → Field → Facet → Bool
crossed_facet n φ f = crossed n (columns φ (facet_vertices f))

-- the vertices lie in the box and their values are readable: document 01 calls a simplex with such vertices *readable*
unfoldable pub readable_all : Field → List Vertex → Bool
readable_all φ vs = every φ.in_box vs && every φ.readable vs

-- a place that Step does not refuse: well-formed, in the box, readable and crossed
unfoldable pub traceable : ℕ → Field → Place → Bool
traceable n φ p = place_ok n p && (readable_all φ (facet_vertices p.facet) && crossed_facet n φ p.facet)

-- the place onward through the simplex's other crossed facet
unfoldable pub onward : ℕ → Field → Incidence → Place
onward n φ t =
    turn (place_of record {
      corner = t.corner;
      order = t.order;
      out = exit n (columns φ (vertices t.corner t.order)) t.out;
    })

-- the step through the simplex with these vertices
unfoldable pub step_through : ℕ → Field → Incidence → List Vertex → Next Place Stop
step_through n φ t vs =
    cond (every φ.in_box vs) (cond (every φ.readable vs) (go (onward n φ t)) (stop limit)) (stop edge)

-- edge, limit, or the place of the other crossed facet of the simplex on the place's side, its side leading onward
unfoldable pub step : ℕ → Field → Place → Next Place Stop
step n φ p = step_through n φ (incidence n p) (vertices (incidence n p).corner (incidence n p).order)
