-- The entries of the columns of a simplex, read from its cells, and the sizes that the determinants of a facet keep to.
use Rattle.std.specs.Prelude.{ℕ, suc, zero, ◌+◌, ◌*◌, ◌^◌, ◌≡◌, ◌<◌, List, ℤ, length, get_or}
use Rattle.exact.specs.Int.{0ℤ, 1ℤ}
use Rattle.exact.specs.Size.{Size}
use Rattle.determinants.specs.Cells.{stride}

-- the entry of a row at vertex v: 1 in row 0, then the values
unfoldable pub entry_at : List ℤ → ℕ → ℕ → ℤ
entry_at cells zero v = 1ℤ
entry_at cells (suc k) v = get_or cells (stride * v + k) 0ℤ

-- fifteen cells, each at most m in size
pub record CellsWithin (m : ℕ) (cells : List ℤ) : Type 0 where
  pub count : length cells ≡ 15
  pub entries : (k : ℕ) → Size m (get_or cells k 0ℤ)

-- rows and vertices that have entries in the cells
pub record Held (rows vertices : List ℕ) : Type 0 where
  pub row : (k : ℕ) → get_or rows k 0 < 4
  pub vertex : (k : ℕ) → get_or vertices k 0 < 5

-- an entry times a determinant of two rows, of entries up to 2 ^ 19
abbrev pub product_limit : ℕ
product_limit = 2 ^ 58

-- a coefficient: a determinant of 3 rows of entries up to 2 ^ 19 is at most 6 · 2 ^ 57, one of 2 rows of entries up to 2 ^ 28 less
abbrev pub coefficient_limit : ℕ
coefficient_limit = 3 * product_limit

-- D, a sum of at most four coefficients
abbrev pub determinant_limit : ℕ
determinant_limit = 4 * coefficient_limit
