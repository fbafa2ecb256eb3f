-- The tables of any vertex: a coordinate past the limit has the table of the limit on its side, and where all that count are near the tables are those
-- of the vertex.
use mathlib.Core.Path.{◌≡◌, sym, ap, subst, ◌∙◌}
use mathlib.Core.List.{List, map}
use Prim.Native.Nat.{ℕ, ◌+◌, ◌≤◌, ◌<◌}
use native.Mathlib.Omega.{arith}
use lib.IntN.{ℤ}
use lib.ListN.{length, get_or, set, length-set}
use lib.Seq.{get_or-set_same, get_or-set_other}
use borrow.Author.Count.{below_none, below_more}
use Rattle.std.proofs.lemmas.List.{get_or-take}
use Rattle.exact.specs.Int.{0ℤ}
use Rattle.exact.specs.Size.{Size}
use Rattle.paper.specs.Limits.{coordinate_limit}
use Rattle.paper.specs.declared.Vertex.{Vertex}
use Rattle.places.specs.Held.{vertex_as}
use Rattle.lattice.specs.Box.{Near}
use Rattle.polynomial.specs.Sums.{PowersOf, base, table_of, Tables, tabled}
use Rattle.polynomial.proofs.PowerLaws.{Tabling, base_at}

-- of the axes under k the numbers ws are near, and are those of vs where these are
pub record Nearing (vs : List ℤ) (k : ℕ) (ws : List ℤ) : Type 0 where
  pub count : length ws ≡ 4
  pub near : (a : ℕ) → a < k → Size coordinate_limit (get_or ws a 0ℤ)
  pub same : (a : ℕ) → a < k → Size coordinate_limit (get_or vs a 0ℤ) → get_or ws a 0ℤ ≡ get_or vs a 0ℤ

pub nearing_none : {vs : List ℤ} → length vs ≡ 4 → Nearing vs 0 vs
nearing_none l = record { count = l; near = below_none _; same = below_none _ }

pub nearing_next : {vs ws : List ℤ} (k : ℕ) {y : ℤ} → k < 4 → Size coordinate_limit y → (Size coordinate_limit (get_or vs k 0ℤ) → y ≡ get_or vs k 0ℤ)
    → Nearing vs k ws → Nearing vs (k + 1) (set ws k y)
nearing_next {vs} {ws} k {y} l s h g = record {
  count = length-set ws k y ∙ g.count;
  near = below_more _ k (λ a u. subst (Size coordinate_limit) (sym (other a u)) (g.near a u)) (subst (Size coordinate_limit) (sym here) s);
  same = below_more _ k (λ a u t. other a u ∙ g.same a u t) (λ t. here ∙ h t);
}
  where
    here : get_or (set ws k y) k 0ℤ ≡ y
    here = get_or-set_same ws k y 0ℤ (omega (arith, g.count))

    other : (a : ℕ) → a < k → get_or (set ws k y) a 0ℤ ≡ get_or ws a 0ℤ
    other a u = get_or-set_other ws k a y 0ℤ (λ e. omega arith)

module _ {v w : Vertex} {k n : ℕ} (l : n ≤ k) (g : Nearing v.coordinates k w.coordinates) where
  pub all_near : Near n w
  all_near = record { each = λ a m. g.near a (omega arith) }

  pub near_tabling : n ≤ 4 → {ts : List (List ℤ)} → Tables n ts × (tabled n ts ≡ vertex_as n w) → Tabling v.coordinates n ts
  unfolding tabled vertex_as
  near_tabling u {ts} t = record {
    count = t.0.count;
    each = λ a m s. subst (λ x. PowersOf x (table_of ts a)) (coordinate a m s) (t.0.each a (omega arith) m);
  }
    where
      coordinate : (a : ℕ) → a < n → Size coordinate_limit (get_or v.coordinates a 0ℤ) → base (table_of ts a) ≡ get_or v.coordinates a 0ℤ
      coordinate a m s =
          sym (base_at ts a) ∙ sym (get_or-take n (map base ts) a 0ℤ m) ∙ ap (λ xs. get_or xs a 0ℤ) t.1 ∙ get_or-take n w.coordinates a 0ℤ m
          ∙ g.same a (omega arith) s
