-- What the theorems about the crossed facets of a simplex speak of. The simplex has the n + 1 columns us, and its facet without
-- vertex p is `remove p us`.
use Rattle.std.specs.Prelude.{ℕ, suc, ◌≤◌, ◌<◌, ◌≡◌, true, false, ◌≢◌, ◌⊎◌, List, [], length, get_or}
use Rattle.exact.specs.Int.{0ℤ, 1ℤ}
use Rattle.exact.specs.Det.{Column}
use Rattle.exact.specs.Crossed.{crossed, remove}

-- the columns of a simplex of dimension n: n + 1 of them, each with top entry 1; n is at least 1, since for n = 0 the one facet,
-- of no vertex, is crossed alone
pub record IsSimplex (n : ℕ) (us : List Column) : Type 0 where
  pub large : 0 < n
  pub size : length us ≡ suc n
  pub ones : (p : ℕ) → p ≤ n → get_or (get_or us p []) 0 0ℤ ≡ 1ℤ

-- the facet without p is crossed
abbrev pub FacetCrossed : ℕ → List Column → ℕ → Type 0
FacetCrossed n us p = crossed n (remove p us) ≡ true

-- of 0, .., n without p, q and only q is crossed
pub record OnlyOther (n : ℕ) (crossed : ℕ → Type 0) (p q : ℕ) : Type 0 where
  pub low : q ≤ n
  pub other : p ≢ q
  pub crosses : crossed q
  pub only : (r : ℕ) → r ≤ n → p ≢ r → crossed r → r ≡ q

-- the number of crossed facets is 0 or 2
pub data NoneOrTwo (n : ℕ) (us : List Column) : Type 0 where
  none : ((p : ℕ) → p ≤ n → crossed n (remove p us) ≡ false) → NoneOrTwo n us
  two :
      (p q : ℕ) → p < q → q ≤ n → FacetCrossed n us p → FacetCrossed n us q
      → ((r : ℕ) → r ≤ n → FacetCrossed n us r → (r ≡ p) ⊎ (r ≡ q))
      → NoneOrTwo n us
