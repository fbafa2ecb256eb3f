-- The sum of a polynomial at a vertex: a limit that keeps it inside 64 bits, what is asked of the polynomial's bytes, and the powers of
-- a coordinate in a table, the power e at index e. Entry 1 of a table is the coordinate itself, so the tables give the vertex.
use Rattle.std.specs.Prelude.{ℕ, ◌^◌, ◌≤◌, ◌<◌, ◌≡◌, true, List, [], map, ℤ, length, get_or, take}
use Rattle.exact.specs.Int.{power, 0ℤ, 1ℤ}
use Rattle.exact.specs.Size.{Is}
use Rattle.curves.specs.Grid.{Vertex}
use Rattle.paper.specs.Limits.{coordinate_limit, term_limit, degree_limit}
use Rattle.paper.specs.Job.{term_count, exponent_of, polynomial_ok}
use Rattle.bits.specs.Axes.{Axes}
use Rattle.places.specs.Held.{counted}

-- no sum of as many terms as a polynomial may have is larger in size, in any dimension (`partial_sum_limit` is the bound by dimension)
unfoldable pub sum_limit : ℕ
sum_limit = 2 ^ 59

-- the body of a polynomial that has passed Open's tests
pub record Polynomial (n : ℕ) (b : List ℕ) : Type 0 where
  pub axes : Axes n
  pub terms : polynomial_ok n b ≡ true
  pub count : term_count b ≤ term_limit n

-- the powers of x
pub record PowersOf (x : ℤ) (p : List ℤ) : Type 0 where
  pub count : length p ≡ 5
  pub power_at : (e : ℕ) → e ≤ degree_limit → Is (coordinate_limit ^ e) (power x e) (get_or p e 0ℤ)

-- entry 1 of a table: the coordinate that it has the powers of
unfoldable pub base : List ℤ → ℤ
base p = get_or p 1 0ℤ

-- the table of an axis
abbrev pub table_of : List (List ℤ) → ℕ → List ℤ
table_of ts a = get_or ts a []

-- the tables of the axes that count
pub record Tables (n : ℕ) (ts : List (List ℤ)) : Type 0 where
  pub count : length ts ≡ 4
  pub each : (a : ℕ) → a < 4 → a < n → PowersOf (base (table_of ts a)) (table_of ts a)

-- the vertex that they are of
unfoldable pub tabled : ℕ → List (List ℤ) → Vertex
tabled n ts = take n (map base ts)

-- the power of an axis's coordinate in term i; 1 from axis n on
unfoldable pub factor_on : ℕ → List ℕ → ℕ → ℕ → List (List ℤ) → ℤ
factor_on n b i a ts = counted 1ℤ n a (power (base (table_of ts a)) (exponent_of b i a))
