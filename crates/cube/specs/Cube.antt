-- The values at the corners of the unit cube above a vertex, as the code holds them: those of corner v + m, m a mask, stand where a simplex has those of
-- its vertex m (`column_at`), and a test says of each corner whether it lies in the box with readable values. s are the job's bytes, n its dimension.
use Rattle.std.specs.Prelude.{ℕ, suc, ◌+◌, ◌*◌, ◌-◌, ◌^◌, ◌≤◌, ◌<◌, ◌≡◌, Bool, true, false, ◌&&◌, ◌⊎◌, List, ℤ, length, get_or}
use Rattle.std.specs.Int.Signed.{le_z}
use Rattle.exact.specs.Int.{0ℤ}
use Rattle.exact.specs.Size.{Size}
use Rattle.curves.specs.Grid.{Vertex, Facet, plus, facet_vertices}
use Rattle.curves.specs.Step.{column, columns, readable_all}
use Rattle.paper.specs.Values.{field_of}
use Rattle.paper.specs.declared.HeldPlace.{HeldPlace}
use Rattle.determinants.specs.Cells.{stride, column_at, entry_limit, facet_columns, Cells}

-- every number is at most as large as a readable value
pub record Within (n : ℕ) (xs : List ℤ) : Type 0 where
  pub entries : (k : ℕ) → Size (entry_limit n) (get_or xs k 0ℤ)

-- the values of vertex i of some columns, copied as those of vertex j of others
pub record ValuesCopied (n : ℕ) (from : List ℤ) (i : ℕ) (before : List ℤ) (j : ℕ) (after : List ℤ) : Type 0 where
  pub count : length after ≡ length before
  pub within : Within n after
  pub copied : column_at n after j ≡ column_at n from i
  pub lower : (q : ℕ) → q < stride * j → get_or after q 0ℤ ≡ get_or before q 0ℤ
  pub upper : (q : ℕ) → stride * j + (n - 1) ≤ q → get_or after q 0ℤ ≡ get_or before q 0ℤ

-- a vertex lies in the box, and its values are readable
unfoldable pub known_at : List ℕ → Vertex → Bool
known_at s u = (field_of s).in_box u && (field_of s).readable u

-- what is held of corner m
pub record Corner (s : List ℕ) (n : ℕ) (v : Vertex) (m : ℕ) (values : List ℤ) (r : Bool) : Type 0 where
  pub test : r ≡ known_at s (plus v m)
  pub column : r ≡ true → column_at n values m ≡ column (field_of s) (plus v m)

-- one corner is put in; the values of the others stay
pub record CornerPut (s : List ℕ) (n : ℕ) (v : Vertex) (m : ℕ) (before : List ℤ) (r : Bool) (after one : List ℤ) : Type 0 where
  pub count : length after ≡ length before
  pub within : Within n after
  pub corner : Corner s n v m after r
  pub lower : (q : ℕ) → q < stride * m → get_or after q 0ℤ ≡ get_or before q 0ℤ
  pub left : Cells n one

-- all corners are
pub record Cube (s : List ℕ) (n : ℕ) (v : Vertex) (values : List ℤ) (known : List Bool) (one : List ℤ) : Type 0 where
  pub room : length values ≡ 48
  pub tests : length known ≡ 16
  pub within : Within n values
  pub corner : (m : ℕ) → m < 2 ^ n → Corner s n v m values (get_or known m false)
  pub left : Cells n one

-- the masks of a place are those of corners
pub record MasksUnder (n : ℕ) (p : HeldPlace) : Type 0 where
  pub count : length p.masks ≡ 3
  pub each : (k : ℕ) → get_or p.masks k 0 < 2 ^ n

-- the columns of a facet with the cube's vertex as its lowest
pub record FacetTaken (s : List ℕ) (n : ℕ) (f : Facet) (r : Bool) (after : List ℤ) : Type 0 where
  pub test : r ≡ readable_all (field_of s) (facet_vertices f)
  pub within : Cells n after
  pub columns : r ≡ true → facet_columns n after n ≡ columns (field_of s) (facet_vertices f)

-- value k at corner m
unfoldable pub value_at : List ℤ → ℕ → ℕ → ℤ
value_at values k m = get_or values (stride * m + k) 0ℤ

-- value k is above 0 at no corner that is known, or, where `above` is false, at each of them
abbrev pub NoneOnSide : ℕ → ℕ → Bool → List ℤ → List Bool → Type 0
NoneOnSide n k above values known =
    (m : ℕ) → m < 2 ^ n → get_or known m false ≡ true → le_z (value_at values k m) 0ℤ ≡ above

-- one or the other
abbrev pub OneSide : ℕ → ℕ → List ℤ → List Bool → Type 0
OneSide n k values known = NoneOnSide n k true values known ⊎ NoneOnSide n k false values known

-- some polynomial has one side only at the corners that are known
pub record OneSided (n : ℕ) (values : List ℤ) (known : List Bool) : Type 0 where
  pub polynomial : ℕ
  pub is_one : suc polynomial < n
  pub side : OneSide n polynomial values known
