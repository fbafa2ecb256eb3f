-- Powers of coordinates up to the degree's limit, the table of them, and their products: all stay far inside 64 bits.
use mathlib.Core.Path.{◌≡◌, refl, sym, ap, ap₂, subst, ◌∙◌}
use mathlib.Core.Bool.{Bool, true}
use mathlib.Core.List.{List, [], ◌∷◌, map}
use Prim.Native.Nat.{ℕ, suc, zero, ◌+◌, ◌^◌, ◌-◌, ◌≤◌, ◌<◌}
use native.Mathlib.Omega.{arith}
use native.Mathlib.Nat.{le_trans, pow-succ', pow-le-pow_right}
use lib.IntN.{ℤ, pos, nat_abs, ◌*ℤ◌}
use lib.ListN.{length, get_or, get_or-map, set, take, length-map, length-set}
use lib.Seq.{get_or-set_same, get_or-set_other}
use lib.Dec.{leb, lit≤, lit<}
use borrow.Author.Count.{below_more}
use lib.Pow.{pow-add}
use mir.Syntax.{w64}
use mir.Val.{SFits}
use borrow.Author.Tests.{le-leb}
use Rattle.exact.specs.Int.{◌⊗◌, power, 0ℤ}
use Rattle.exact.specs.Size.{Size, Is}
use Rattle.exact.proofs.Ring.{mul-one}
use Rattle.exact.proofs.SizeLaws.{size_power}
use Rattle.exact.proofs.Bits.{holds, holds_call, back, back_is, back_size, fits_mul, holds_mul}
use Rattle.curves.specs.Step.{every}
use Rattle.paper.specs.Limits.{coordinate_limit, degree_limit}
use Rattle.paper.specs.RunningSum.{monomial_limit, vertex_within}
use Rattle.paper.proofs.Taken.{take_short}
use Rattle.exact.proofs.AndTests.{and-true}
use Rattle.paper.specs.declared.Vertex.{Vertex}
use Rattle.places.specs.Held.{vertex_as}
use Rattle.lattice.specs.Box.{Near}
use Rattle.polynomial.specs.Sums.{PowersOf, base, table_of, Tables, tabled}
use Rattle.polynomial.proofs.Limits.{coordinate_word, degree_limit_lem, monomial_limit_lem}

-- a power up to the degree's limit
pub power_bound : (k : ℕ) → k ≤ degree_limit → coordinate_limit ^ k ≤ monomial_limit
unfolding monomial_limit coordinate_limit
power_bound k h = pow-le-pow_right (lit< tt) h

pub power_word : (k : ℕ) → k ≤ degree_limit → coordinate_limit ^ k ≤ 2 ^ 63 - 1
power_word k h = le_trans (power_bound k h) (rw monomial_limit_lem (lit≤ tt))

-- ---- products of powers

-- a product fits 64 bits, and there it is the number v, of size at most m
abbrev pub Computed : ℕ → ℤ → ℤ → Type 0
Computed m v y = SFits w64 y × Is m v (back y)

-- two powers whose exponents together are within the degree's limit
pub powers_product_lem :
    (p q : ℕ) → p + q ≤ degree_limit → {v w f g : ℤ} → Is (coordinate_limit ^ p) v f → Is (coordinate_limit ^ q) w g
    → Computed (coordinate_limit ^ (p + q)) (v ⊗ w) (f *ℤ g)
powers_product_lem p q h i j =
    let bound = subst (λ (m : ℕ). m ≤ 2 ^ 63 - 1) (pow-add coordinate_limit p q) (power_word (p + q) h) in
    (fits_mul i j bound, rw (pow-add coordinate_limit p q) (holds_mul i j bound))

-- ---- the table

module _ {x : ℤ} (s : Size coordinate_limit x) where
  one_is : Is (coordinate_limit ^ 0) (power x 0) (pos 1)
  unfolding power
  one_is = record { is = refl; size = size_power s 0 }

  itself_is : Is (coordinate_limit ^ 1) (power x 1) (back x)
  unfolding power
  itself_is = rw (mul-one x) (record { is = (holds s coordinate_word).is; size = rw mul-one at (size_power s 1) })

  -- one power more
  power_next : (k : ℕ) → suc k ≤ degree_limit → {r : ℤ} → Is (coordinate_limit ^ k) (power x k) r
      → Computed (coordinate_limit ^ suc k) (power x (suc k)) (back x *ℤ r)
  unfolding power
  power_next k l i =
      let bound = subst (λ (m : ℕ). m ≤ 2 ^ 63 - 1) (pow-succ' coordinate_limit k) (power_word (suc k) l) in
      let itself = holds s coordinate_word in
      (fits_mul itself i bound, rw (pow-succ' coordinate_limit k) (holds_mul itself i bound))

  -- the entries as the code multiplies them
  abbrev square : ℤ
  square = back x *ℤ back x

  abbrev cube : ℤ
  cube = back x *ℤ back square

  abbrev fourth : ℤ
  fourth = back x *ℤ back cube

  pub square_is : Computed (coordinate_limit ^ 2) (power x 2) square
  unfolding degree_limit
  square_is = power_next 1 (lit≤ tt) itself_is

  pub cube_is : Computed (coordinate_limit ^ 3) (power x 3) cube
  unfolding degree_limit
  cube_is = power_next 2 (lit≤ tt) square_is.1

  pub fourth_is : Computed (coordinate_limit ^ 4) (power x 4) fourth
  unfolding degree_limit
  fourth_is = power_next 3 (lit≤ tt) cube_is.1

  abbrev table : List ℤ
  table = pos 1 ∷ back x ∷ back square ∷ back cube ∷ back fourth ∷ []

  pub powers_of : PowersOf x table
  powers_of = record { count = refl; power_at = at }
    where
      at : (e : ℕ) → e ≤ degree_limit
          → Is (coordinate_limit ^ e) (power x e) (get_or table e 0ℤ)
      at zero l = one_is
      at (suc zero) l = itself_is
      at (suc (suc zero)) l = square_is.1
      at (suc (suc (suc zero))) l = cube_is.1
      at (suc (suc (suc (suc zero)))) l = fourth_is.1
      at (suc (suc (suc (suc (suc e))))) l = absurd (omega (arith, degree_limit_lem))

-- the entry 1 of the powers of x is x
pub powers_base : {x : ℤ} {p : List ℤ} → PowersOf x p → base p ≡ x
unfolding base power degree_limit
powers_base {x} h = (h.power_at 1 (lit≤ tt)).is ∙ mul-one x

pub powers_own : {x : ℤ} {p : List ℤ} → PowersOf x p → PowersOf (base p) p
powers_own h = rw (powers_base h) h

-- an entry, read from the table
pub power_entry : {x : ℤ} {p : List ℤ} {e r : ℕ} → PowersOf x p → r ≡ e → e ≤ degree_limit → Is (coordinate_limit ^ e) (power x e) (back (get_or p r 0ℤ))
power_entry {e = e} h i l = rw i (holds_call (h.power_at e l) (power_word e l))

-- of a coordinate that is read from its bits
pub read_back : {x : ℤ} {p : List ℤ} → Size coordinate_limit x → (Size coordinate_limit (back x) → PowersOf (back x) p) → PowersOf x p
read_back {x} {p} s h = subst (λ y. PowersOf y p) (back_is s coordinate_word) (h (back_size s coordinate_word))

-- ---- the tables of a vertex

-- the tables of the axes under k of which P holds are those of the coordinates vs
pub record TablingWhere (P : ℕ → Type 0) (vs : List ℤ) (k : ℕ) (ts : List (List ℤ)) : Type 0 where
  pub count : length ts ≡ 4
  pub each : (a : ℕ) → a < k → P a → PowersOf (get_or vs a 0ℤ) (table_of ts a)

-- those of the near coordinates
abbrev pub Tabling : List ℤ → ℕ → List (List ℤ) → Type 0
Tabling vs k ts = TablingWhere (λ a. Size coordinate_limit (get_or vs a 0ℤ)) vs k ts

-- those of the axes that count
abbrev pub CountedTabling : List ℤ → ℕ → ℕ → List (List ℤ) → Type 0
CountedTabling vs n k ts = TablingWhere (λ a. a < n) vs k ts

-- one table more
tabling_more : {P : ℕ → Type 0} {vs : List ℤ} (k : ℕ) {ts : List (List ℤ)} {p : List ℤ} → k < 4 → (P k → PowersOf (get_or vs k 0ℤ) p) → TablingWhere P vs k ts
    → TablingWhere P vs (k + 1) (set ts k p)
tabling_more {P} {vs} k {ts} {p} l h g = record {
  count = length-set ts k p ∙ g.count;
  each =
      below_more _ k
      (λ a u m. subst (PowersOf (get_or vs a 0ℤ)) (sym (get_or-set_other ts k a p [] (λ e. omega arith))) (g.each a u m))
      (λ m. subst (PowersOf (get_or vs k 0ℤ)) (sym (get_or-set_same ts k p [] (omega (arith, g.count)))) (h m));
}

pub tabling_next : {vs : List ℤ} (k : ℕ) {ts : List (List ℤ)} {p : List ℤ} → k < 4 → (Size coordinate_limit (get_or vs k 0ℤ) → PowersOf (get_or vs k 0ℤ) p) → Tabling vs k ts
    → Tabling vs (k + 1) (set ts k p)
tabling_next k l h g = tabling_more k l h g

-- an axis that counts
pub counted_next : {vs : List ℤ} {n : ℕ} (k : ℕ) {ts : List (List ℤ)} {p : List ℤ} → k < 4 → PowersOf (get_or vs k 0ℤ) p → CountedTabling vs n k ts
    → CountedTabling vs n (k + 1) (set ts k p)
counted_next k l h g = tabling_more k l (λ m. h) g

-- one that does not
pub tabling_stays : {vs : List ℤ} {n : ℕ} (k : ℕ) {ts : List (List ℤ)} → n ≤ k → CountedTabling vs n k ts → CountedTabling vs n (k + 1) ts
tabling_stays k l g = record { count = g.count; each = below_more _ k g.each (λ m. absurd (omega arith)) }

-- ---- all tables

-- lists with the same members up to n
take_same : (n : ℕ) (xs ys : List ℤ) → length xs ≡ length ys → ((a : ℕ) → a < length xs → a < n → get_or xs a 0ℤ ≡ get_or ys a 0ℤ)
    → take n xs ≡ take n ys
take_same zero xs ys l h = refl
take_same (suc n) [] [] l h = refl
take_same (suc n) [] (y ∷ ys) l h = absurd (omega arith)
take_same (suc n) (x ∷ xs) [] l h = absurd (omega arith)
take_same (suc n) (x ∷ xs) (y ∷ ys) l h =
    ap₂ (λ z zs. z ∷ zs) (h 0 (omega arith) (omega arith))
    (take_same n xs ys (omega arith) (λ a u m. h (suc a) (omega arith) (omega arith)))

-- a coordinate that the tables are of
pub base_at : (ts : List (List ℤ)) (a : ℕ) → get_or (map base ts) a 0ℤ ≡ base (table_of ts a)
unfolding base
base_at ts a = get_or-map base ts a []

-- where P holds of the axes that count
module _ {P : ℕ → Type 0} {v : Vertex} {k : ℕ} {ts : List (List ℤ)} (all : 4 ≤ k) (h : TablingWhere P v.coordinates k ts) (e : length v.coordinates ≡ 4)
    (n : ℕ) (holds : (a : ℕ) → a < n → P a) where
  of_axis : (a : ℕ) → a < 4 → a < n → PowersOf (get_or v.coordinates a 0ℤ) (table_of ts a)
  of_axis a l m = h.each a (omega arith) (holds a m)

  tables_where : Tables n ts × (tabled n ts ≡ vertex_as n v)
  unfolding tabled vertex_as
  tables_where = (
    record { count = h.count; each = λ a l m. powers_own (of_axis a l m) },
    take_same n (map base ts) v.coordinates (length-map ts base ∙ h.count ∙ sym e)
        (λ a l m. base_at ts a ∙ powers_base (of_axis a (omega (arith, length-map ts base, h.count)) m)),
  )

pub tables_are : {v : Vertex} {k : ℕ} {ts : List (List ℤ)} → 4 ≤ k → Tabling v.coordinates k ts → length v.coordinates ≡ 4 → (n : ℕ) → Near n v
    → Tables n ts × (tabled n ts ≡ vertex_as n v)
tables_are all h e n near = tables_where all h e n near.each

pub counted_are : {v : Vertex} {n k : ℕ} {ts : List (List ℤ)} → 4 ≤ k → CountedTabling v.coordinates n k ts → length v.coordinates ≡ 4
    → Tables n ts × (tabled n ts ≡ vertex_as n v)
counted_are {n = n} all h e = tables_where all h e n (λ a m. m)

-- ---- the vertex of the tables is one that a box may have

base_within : {p : List ℤ} → PowersOf (base p) p → leb (nat_abs (base p)) coordinate_limit ≡ true
unfolding power coordinate_limit degree_limit
base_within {p} h = le-leb _ _ (subst (Size coordinate_limit) (mul-one (base p)) (h.power_at 1 (lit≤ tt)).size).size

-- a test that the first n members pass
every_taken : (t : ℤ → Bool) (n : ℕ) (xs : List ℤ) → ((a : ℕ) → a < length xs → a < n → t (get_or xs a 0ℤ) ≡ true) → every t (take n xs) ≡ true
unfolding every
every_taken t zero xs h = refl
every_taken t (suc n) [] h = refl
every_taken t (suc n) (x ∷ xs) h =
    and-true (h 0 (omega arith) (omega arith)) (every_taken t n xs (λ a l m. h (suc a) (omega arith) (omega arith)))

-- what the laws of sums ask of a vertex
pub record BoxVertex (v : List ℤ) : Type 0 where
  pub short : length v ≤ 4
  pub near : vertex_within v ≡ true

pub tables_vertex : {n : ℕ} {ts : List (List ℤ)} → Tables n ts → BoxVertex (tabled n ts)
unfolding tabled vertex_within
tables_vertex {n} {ts} t =
    let count : length (map base ts) ≡ 4 = length-map ts base ∙ t.count in
    record {
      short = omega (arith, take_short n (map base ts), count);
      near =
          every_taken (λ x. leb (nat_abs x) coordinate_limit) n (map base ts)
          (λ a l m. ap (λ x. leb (nat_abs x) coordinate_limit) (base_at ts a) ∙ base_within (t.each a (omega (arith, count)) m));
    }
