-- How the code holds the columns of a simplex: the values at up to five vertices in one array of fifteen numbers. Value k of vertex i stands
-- at stride * i + k; the 1 on top of a column is not held. A facet is the simplex without one of its vertices; a facet alone takes the
-- vertices 0 .. n − 1, so it is the one without vertex n.
use Rattle.std.specs.Prelude.{ℕ, suc, ◌+◌, ◌*◌, ◌-◌, ◌≡◌, List, ◌∷◌, map, ℤ, length, get_or}
use Rattle.exact.specs.Int.{0ℤ, 1ℤ}
use Rattle.exact.specs.Size.{Size}
use Rattle.exact.specs.Det.{Column}
use Rattle.exact.specs.Crossed.{count_from, remove}
use Rattle.paper.specs.Limits.{readable_limit}
use Rattle.bits.specs.Axes.{Axes}

-- the numbers held of a vertex: the values of dimension 4
abbrev pub stride : ℕ
stride = 3

-- the column of vertex i: 1, then its n − 1 values
unfoldable pub column_at : ℕ → List ℤ → ℕ → Column
column_at n cells i = 1ℤ ∷ map (λ k. get_or cells (stride * i + k) 0ℤ) (count_from 0 (n - 1))

-- the columns of the simplex
unfoldable pub simplex_columns : ℕ → List ℤ → List Column
simplex_columns n cells = map (column_at n cells) (count_from 0 (suc n))

-- the columns of its facet without vertex `out`
unfoldable pub facet_columns : ℕ → List ℤ → ℕ → List Column
facet_columns n cells out = remove out (simplex_columns n cells)

-- a cell is at most as large as a readable value: up to that size no determinant leaves 64 bits
unfoldable pub entry_limit : ℕ → ℕ
entry_limit n = readable_limit n

-- what is asked of the cells: every number, those that do not count too, is within the limit. They stay a lent array with this fact beside it: a
-- struct with the fact in it would hold n too, which the job holds already, and each function of both would ask that the two agree.
pub record Cells (n : ℕ) (cells : List ℤ) : Type 0 where
  pub axes : Axes n
  pub count : length cells ≡ 15
  pub entries : (k : ℕ) → Size (entry_limit n) (get_or cells k 0ℤ)
