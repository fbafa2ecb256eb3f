-- What the functions promise of the cells, part by part: s are the job's bytes, n its dimension.
use Rattle.std.specs.Prelude.{ℕ, ◌*◌, ◌≤◌, ◌≡◌, Bool, true, false, List, map, ℤ, length, get_or, Result, Ok, Err}
use Rattle.exact.specs.Int.{0ℤ}
use Rattle.exact.specs.Crossed.{count_from}
use Rattle.curves.specs.Grid.{Vertex, Facet, facet_vertices}
use Rattle.curves.specs.Step.{Field, columns, every}
use Rattle.paper.specs.declared.Refusal.{Refusal}
use Rattle.paper.specs.declared.Stop.{Stop}
use Rattle.paper.specs.declared.Stop.TheVariants.{Edge, Limit}
use Rattle.paper.specs.Refusals.{RefusedOr}
use Rattle.paper.specs.Values.{field_of}
use Rattle.paper.specs.Operations.{facet_refusal}
use Rattle.determinants.specs.Cells.{stride, column_at, simplex_columns, facet_columns, Cells}

-- the columns of some vertices, put in if the sums of all are readable; the cells behind them stay
pub record ColumnsPut (s : List ℕ) (n : ℕ) (vs : List Vertex) (before : List ℤ) (r : Bool) (after : List ℤ) : Type 0 where
  pub test : r ≡ every (field_of s).readable vs
  pub cells : Cells n after
  pub columns : r ≡ true → map (column_at n after) (count_from 0 (length vs)) ≡ columns (field_of s) vs
  pub upper : (q : ℕ) → stride * length vs ≤ q → get_or after q 0ℤ ≡ get_or before q 0ℤ

-- what stops a step through these vertices, one outside the box before a value that is not readable; P where nothing does
abbrev pub StoppedOr : {T : Type 0} → Field → List Vertex → Type 0 → Result T Stop → Type 0
StoppedOr φ vs P (Ok x) = (every φ.in_box vs ≡ true) × ((every φ.readable vs ≡ true) × P)
StoppedOr φ vs P (Err Edge) = every φ.in_box vs ≡ false
StoppedOr φ vs P (Err Limit) = (every φ.in_box vs ≡ true) × (every φ.readable vs ≡ false)

-- the columns of some vertices, put in if nothing stops
pub record ColumnsFound (s : List ℕ) (n : ℕ) (vs : List Vertex) {T : Type 0} (before : List ℤ) (r : Result T Stop) (after : List ℤ) : Type 0 where
  pub found : StoppedOr (field_of s) vs (map (column_at n after) (count_from 0 (length vs)) ≡ columns (field_of s) vs) r
  pub cells : Cells n after
  pub upper : (q : ℕ) → stride * length vs ≤ q → get_or after q 0ℤ ≡ get_or before q 0ℤ

-- the columns of a facet
pub record FacetFound (s : List ℕ) (n : ℕ) (f : Facet) {T : Type 0} (r : Result T Refusal) (after : List ℤ) : Type 0 where
  pub found : RefusedOr (facet_refusal s f) (λ _. facet_columns n after n ≡ columns (field_of s) (facet_vertices f)) r
  pub cells : Cells n after

-- the columns of a simplex
pub record SimplexFound (s : List ℕ) (n : ℕ) (vs : List Vertex) {T : Type 0} (r : Result T Stop) (after : List ℤ) : Type 0 where
  pub found : StoppedOr (field_of s) vs (simplex_columns n after ≡ columns (field_of s) vs) r
  pub cells : Cells n after
