-- What the tests of a box and of a polynomial say of each axis and each term, as facts on numbers.
use mathlib.Core.Path.{◌≡◌}
use mathlib.Core.Bool.{Bool, true, false, not, ◌&&◌, false≢true}
use mathlib.Core.List.{List}
use Prim.Native.Nat.{ℕ, suc, zero, ◌-◌, ◌≤◌, ◌<◌}
use native.Mathlib.Omega.{arith}
use native.Mathlib.Nat.{le_trans}
use lib.Dec.{leb, eqb}
use lib.IntN.{ℤ, pos, negsuc, nat_abs}
use lib.Signed.{le_z, lt_z}
use borrow.Author.Tests.{ltb-true, leb-true, eqb-true, eqb-false, not-true, ne_eqb}
use Rattle.exact.proofs.AndTests.{and_left, and_right}
use Rattle.exact.specs.Int.{neg}
use Rattle.paper.specs.Limits.{coordinate_limit, coefficient_limit, degree_limit}
use Rattle.paper.specs.Job.{low_end, high_end, axis_ok, box_ok, term_count, coefficient_of, exponent_of, exponents_zero, degree, term_ok, exponent_weight, rises, polynomial_ok}
use Rattle.paper.proofs.Tests.{all_at}

-- ---- the box

-- the ends of an axis
pub record AxisRange (b : List ℕ) (a : ℕ) : Type 0 where
  pub low : le_z (neg (pos coordinate_limit)) (low_end b a) ≡ true
  pub rising : lt_z (low_end b a) (high_end b a) ≡ true
  pub high : le_z (high_end b a) (pos coordinate_limit) ≡ true

pub axis_range : (b : List ℕ) (a : ℕ) → axis_ok b a ≡ true → AxisRange b a
unfolding axis_ok
axis_range b a h =
    let first : Bool = le_z (neg (pos coordinate_limit)) (low_end b a) in
    let second : Bool = lt_z (low_end b a) (high_end b a) in
    let third : Bool = le_z (high_end b a) (pos coordinate_limit) in
    record {
      low = and_left first (second && third) h;
      rising = and_left second third (and_right first (second && third) h);
      high = and_right second third (and_right first (second && third) h);
    }

pub box_axis : (n : ℕ) (b : List ℕ) (a : ℕ) → box_ok n b ≡ true → a < n → AxisRange b a
unfolding box_ok
box_axis n b a h l = axis_range b a (all_at (axis_ok b) 0 n a h (omega arith) (omega arith))

-- a number from − m to m, and so any number between two such, is at most m in size
pub between_size : (m : ℕ) (x y z : ℤ) → le_z (neg (pos m)) x ≡ true → le_z x z ≡ true → le_z z y ≡ true → le_z y (pos m) ≡ true → nat_abs z ≤ m
unfolding neg
between_size m x y (pos c) p q r t = top y r t
  where
    top : (y : ℤ) → le_z (pos c) y ≡ true → le_z y (pos m) ≡ true → c ≤ m
    top (pos b) r t = omega (arith, leb-true c b r, leb-true b m t)
    top (negsuc b) r t = absurd (false≢true r)
between_size zero (pos a) y (negsuc c) p q r t = absurd (false≢true q)
between_size zero (negsuc a) y (negsuc c) p q r t = absurd (false≢true p)
between_size (suc m) (pos a) y (negsuc c) p q r t = absurd (false≢true q)
between_size (suc m) (negsuc a) y (negsuc c) p q r t = omega (arith, leb-true a m p, leb-true c a q)

-- ---- terms

pub record TermRange (n : ℕ) (b : List ℕ) (i : ℕ) : Type 0 where
  pub nonzero : nat_abs (coefficient_of b i) ≡ 0 → ⊥
  pub size : nat_abs (coefficient_of b i) ≤ coefficient_limit
  pub above : (a : ℕ) → n ≤ a → a < 4 → exponent_of b i a ≡ 0
  pub sum : degree b i ≤ degree_limit

pub term_range : (n : ℕ) (b : List ℕ) (i : ℕ) → term_ok n b i ≡ true → TermRange n b i
unfolding term_ok exponents_zero
term_range n b i h =
    let c1 : Bool = not (eqb (nat_abs (coefficient_of b i)) 0) in
    let c2 : Bool = leb (nat_abs (coefficient_of b i)) coefficient_limit in
    let c3 : Bool = exponents_zero b i n (4 - n) in
    let c4 : Bool = leb (degree b i) degree_limit in
    let h2 = and_right c1 (c2 && (c3 && c4)) h in
    let h3 = and_right c2 (c3 && c4) h2 in
    record {
      nonzero = eqb-false _ _ (not-true _ (and_left c1 (c2 && (c3 && c4)) h));
      size = leb-true _ _ (and_left c2 (c3 && c4) h2);
      above = λ a p u. eqb-true _ _ (all_at (λ k. eqb (exponent_of b i k) 0) n (4 - n) a (and_left c3 c4 h3) p (omega arith));
      sum = leb-true _ _ (and_right c3 c4 h3);
    }

-- an exponent is at most the sum of all
pub exponent_degree : (b : List ℕ) (i a : ℕ) → a < 4 → exponent_of b i a ≤ degree b i
unfolding degree
exponent_degree b i zero l = omega arith
exponent_degree b i (suc zero) l = omega arith
exponent_degree b i (suc (suc zero)) l = omega arith
exponent_degree b i (suc (suc (suc zero))) l = omega arith
exponent_degree b i (suc (suc (suc (suc a)))) l = absurd (omega arith)

-- so an exponent of a term within the limits is small
pub exponent_limit : {n : ℕ} {b : List ℕ} {i : ℕ} → TermRange n b i → (a : ℕ) → a < 4 → exponent_of b i a ≤ degree_limit
exponent_limit {b = b} {i = i} r a l = le_trans (exponent_degree b i a l) r.sum

module _ (n : ℕ) (b : List ℕ) (h : polynomial_ok n b ≡ true) where
  term_at : (i : ℕ) → i < term_count b → (term_ok n b i && rises b i) ≡ true
  unfolding polynomial_ok
  term_at i l = all_at (λ k. term_ok n b k && rises b k) 0 (term_count b) i h (omega arith) (omega arith)

  pub polynomial_term : (i : ℕ) → i < term_count b → TermRange n b i
  polynomial_term i u = term_range n b i (and_left (term_ok n b i) (rises b i) (term_at i u))

  -- terms rise strictly
  pub terms_rise : (i : ℕ) → 0 < i → i < term_count b → exponent_weight b (i - 1) < exponent_weight b i
  unfolding rises
  terms_rise i p u =
      let away : eqb i 0 ≡ false = ne_eqb i 0 (λ e. omega arith) in
      ltb-true _ _ (rw away at (and_right (term_ok n b i) (rises b i) (term_at i u)))
