-- The terms of a polynomial that has passed Open's tests, at the vertex of the tables of powers: a term's bytes lie inside the body, the
-- exponents together are within the degree's limit, and so are the products within theirs.
use mathlib.Core.Path.{◌≡◌, refl, sym, ap, subst, ◌∙◌}
use mathlib.Core.List.{List, [], map}
use mathlib.Core.Bool.{Bool, true, false}
use borrow.Author.Tests.{ltb-true, ltb-false}
use Prim.Native.Nat.{ℕ, suc, zero, ◌+◌, ◌*◌, ◌^◌, ◌≤◌, ◌<◌}
use native.Mathlib.Omega.{arith}
use native.Mathlib.Nat.{one-le-pow, pow-zero}
use lib.IntN.{ℤ, pos, ◌*ℤ◌}
use lib.ListN.{length, get_or, take, drop, length-map, length-take}
use lib.Seq.{drop-cons}
use Rattle.std.proofs.lemmas.List.{drop_all, get_or-take}
use lib.Dec.{ltb, lit<}
use mir.Syntax.{w64}
use mir.Val.{SFits}
use Rattle.exact.specs.Int.{◌⊗◌, power, 0ℤ, 1ℤ}
use Rattle.exact.specs.Size.{Size, Is}
use Rattle.exact.proofs.Ring.{mul-one}
use Rattle.exact.proofs.SizeLaws.{size_pos, size_weaken}
use Rattle.exact.proofs.Bits.{holds_call, back, fits_mul, holds_mul}
use Rattle.paper.specs.Limits.{coordinate_limit, coefficient_limit, degree_limit}
use Rattle.paper.specs.Job.{term_count, exponent_of, coefficient_of, degree}
use Rattle.paper.specs.Values.{monomial, term_value}
use Rattle.paper.specs.RunningSum.{monomial_limit, term_size}
use Rattle.paper.proofs.Terms.{polynomial_term, exponent_limit}
use Rattle.places.proofs.Counted.{number_counts, number_absent}
use Rattle.paper.proofs.Taken.{take_short, take_most}
use Rattle.polynomial.specs.Sums.{Polynomial, PowersOf, base, table_of, Tables, tabled, factor_on}
use Rattle.polynomial.proofs.Limits.{coefficient_word, monomial_word, term_word}
use Rattle.polynomial.proofs.PowerLaws.{Computed, power_bound, power_word, powers_product_lem, power_entry, base_at}

-- a term's eight bytes lie inside the body
pub term_inside : (b : List ℕ) (i : ℕ) → i < term_count b → 8 * i + 8 ≤ length b
unfolding term_count
term_inside b i l = omega arith

-- ---- exponents

pub record Exponents (b : List ℕ) (i : ℕ) : Type 0 where
  pub sum : exponent_of b i 0 + exponent_of b i 1 + exponent_of b i 2 + exponent_of b i 3 ≤ degree_limit
  pub each : (a : ℕ) → a < 4 → exponent_of b i a ≤ degree_limit
  pub coefficient : Size coefficient_limit (coefficient_of b i)

pub exponents : {n : ℕ} {b : List ℕ} (p : Polynomial n b) (i : ℕ) → i < term_count b → Exponents b i
unfolding degree
exponents {n} {b} p i l =
    let t = polynomial_term n b p.terms i l in
    record {
      sum = t.sum;
      each = exponent_limit t;
      coefficient = record { size = t.size };
    }

-- ---- the product of the powers

is_weaken : {m k : ℕ} {v r : ℤ} → Is m v r → m ≤ k → Is k v r
is_weaken i h = record { is = i.is; size = size_weaken i.size h }

-- a factor of term i that a call answered
abbrev pub Factor : ℕ → List ℕ → ℕ → ℕ → List (List ℤ) → ℤ → Type 0
Factor n b i a ts f = Is (coordinate_limit ^ exponent_of b i a) (factor_on n b i a ts) f

-- read from the table on an axis that counts, else 1
pub factor_counts :
    (n : ℕ) (b : List ℕ) (i a : ℕ) {r : ℕ} (ts : List (List ℤ)) → a < n → PowersOf (base (table_of ts a)) (table_of ts a) → r ≡ exponent_of b i a
    → exponent_of b i a ≤ degree_limit → Factor n b i a ts (back (get_or (table_of ts a) r 0ℤ))
unfolding factor_on
factor_counts n b i a ts l h e d =
    rw (← number_counts 1ℤ n a (power (base (table_of ts a)) (exponent_of b i a)) l) (power_entry h e d)

pub factor_absent : (n : ℕ) (b : List ℕ) (i a : ℕ) (ts : List (List ℤ)) → n ≤ a → Factor n b i a ts (pos 1)
unfolding factor_on coordinate_limit
factor_absent n b i a ts l =
    rw (← number_absent 1ℤ n a (power (base (table_of ts a)) (exponent_of b i a)) l)
    (record { is = refl; size = size_weaken (size_pos 1) (one-le-pow (exponent_of b i a) coordinate_limit (lit< tt)) })

-- the exponents from axis k on, together
pub exponents_from : (ℕ → ℕ) → ℕ → ℕ
exponents_from e zero = e 0 + (e 1 + (e 2 + e 3))
exponents_from e (suc zero) = e 1 + (e 2 + e 3)
exponents_from e (suc (suc zero)) = e 2 + e 3
exponents_from e (suc (suc (suc zero))) = e 3
exponents_from e (suc (suc (suc (suc k)))) = 0

exponents_next : (e : ℕ → ℕ) (k : ℕ) → k < 4 → exponents_from e k ≡ e k + exponents_from e (suc k)
unfolding exponents_from
exponents_next e zero l = refl
exponents_next e (suc zero) l = refl
exponents_next e (suc (suc zero)) l = refl
exponents_next e (suc (suc (suc zero))) l = omega arith
exponents_next e (suc (suc (suc (suc k)))) l = absurd (omega arith)

exponents_low : (e : ℕ → ℕ) → e 0 + e 1 + e 2 + e 3 ≤ degree_limit → (k : ℕ) → exponents_from e k ≤ degree_limit
unfolding exponents_from
exponents_low e l zero = omega arith
exponents_low e l (suc zero) = omega arith
exponents_low e l (suc (suc zero)) = omega arith
exponents_low e l (suc (suc (suc zero))) = omega arith
exponents_low e l (suc (suc (suc (suc k)))) = omega arith

-- the product of the powers from axis k on
abbrev pub ProductFrom : ℕ → List ℕ → ℕ → List (List ℤ) → ℕ → ℤ → Type 0
ProductFrom n b i ts k r = Is (coordinate_limit ^ exponents_from (exponent_of b i) k) (monomial b i k (drop k (tabled n ts))) r

-- the coordinates that the tables are of
coordinate_at : (n : ℕ) (ts : List (List ℤ)) (k : ℕ) → k < n → get_or (tabled n ts) k 0ℤ ≡ base (table_of ts k)
unfolding tabled
coordinate_at n ts k u = get_or-take n (map base ts) k 0ℤ u ∙ base_at ts k

tabled_long : (n : ℕ) (ts : List (List ℤ)) (k : ℕ) → length ts ≡ 4 → k < 4 → k < n → k < length (tabled n ts)
unfolding tabled
tabled_long n ts k e l u = omega (arith, length-take n (map base ts), length-map ts base)

tabled_short : (n : ℕ) (ts : List (List ℤ)) → length (tabled n ts) ≤ n
unfolding tabled
tabled_short n ts = take_most n (map base ts)

module _ (n : ℕ) (b : List ℕ) (i : ℕ) {ts : List (List ℤ)} (t : Tables n ts) where
  -- behind the last axis there is none
  pub product_none : ProductFrom n b i ts 4 (pos 1)
  unfolding tabled monomial exponents_from
  product_none =
      let none : drop 4 (take n (map base ts)) ≡ [] = drop_all 4 (take n (map base ts)) (omega (arith, take_short n (map base ts), length-map ts base, t.count)) in
      rw none (record { is = refl; size = rw pow-zero (size_pos 1) })

  abbrev WithFactor : ℕ → Type 0
  WithFactor k = monomial b i k (drop k (tabled n ts)) ≡ factor_on n b i k ts ⊗ monomial b i (suc k) (drop (suc k) (tabled n ts))

  -- the power of one axis more
  monomial_next : (k : ℕ) → k < 4 → WithFactor k
  unfolding monomial factor_on
  monomial_next k l = go (ltb k n) refl
    where
      rest : ℤ
      rest = monomial b i (suc k) (drop (suc k) (tabled n ts))

      counts : k < n → WithFactor k
      counts u =
          ap (monomial b i k) (drop-cons (tabled n ts) k 0ℤ (tabled_long n ts k t.count l u))
          ∙ ap (λ x. power x (exponent_of b i k) ⊗ rest) (coordinate_at n ts k u)
          ∙ ap (λ x. x ⊗ rest) (number_counts 1ℤ n k (power (base (table_of ts k)) (exponent_of b i k)) u)

      absent : n ≤ k → WithFactor k
      absent u =
          let none : (m : ℕ) → n ≤ m → drop m (tabled n ts) ≡ [] = λ m w. drop_all m (tabled n ts) (omega (arith, tabled_short n ts)) in
          rw (none k u, none (suc k) (omega arith))
          (number_absent 1ℤ n k (power (base (table_of ts k)) (exponent_of b i k)) u ∙ sym (mul-one (factor_on n b i k ts)))

      go : (c : Bool) → ltb k n ≡ c → WithFactor k
      go true e = counts (ltb-true k n e)
      go false e = absent (ltb-false k n e)

  -- a factor that a call answered, times the product so far
  module _ (p : Polynomial n b × (i < term_count b)) (k : ℕ) (l : k < 4) {m : ℕ} (e : m ≡ suc k) {f r : ℤ} (x : Factor n b i k ts f)
      (y : ProductFrom n b i ts m r) where
    both : Computed (coordinate_limit ^ (exponent_of b i k + exponents_from (exponent_of b i) (suc k)))
        (factor_on n b i k ts ⊗ monomial b i (suc k) (drop (suc k) (tabled n ts))) (back f *ℤ r)
    both =
        let t = exponents p.0 i p.1 in
        powers_product_lem (exponent_of b i k) (exponents_from (exponent_of b i) (suc k))
        (omega (arith, exponents_low (exponent_of b i) t.sum k, exponents_next (exponent_of b i) k l))
        (holds_call x (power_word (exponent_of b i k) (t.each k l)))
        (subst (λ (a : ℕ). ProductFrom n b i ts a r) e y)

    pub product_fits : SFits w64 (back f *ℤ r)
    product_fits = both.0

    pub product_next : ProductFrom n b i ts k (back (back f *ℤ r))
    product_next = rw (monomial_next k l, exponents_next (exponent_of b i) k l) both.1

  pub product_all : {k : ℕ} → k ≡ 0 → Polynomial n b × (i < term_count b) → {r : ℤ} → ProductFrom n b i ts k r
      → Is monomial_limit (monomial b i 0 (tabled n ts)) r
  product_all e p y =
      is_weaken (rw e at y) (power_bound _ (exponents_low (exponent_of b i) (exponents p.0 i p.1).sum 0))

-- ---- a term

module _ {b : List ℕ} {i : ℕ} (v : List ℤ) {c m : ℤ} (e : Exponents b i) (h : c ≡ coefficient_of b i) (j : Is monomial_limit (monomial b i 0 v) m) where
  coefficient_held : Is coefficient_limit (coefficient_of b i) (back c)
  coefficient_held = holds_call (record { is = h; size = e.coefficient }) coefficient_word

  pub term_fits : SFits w64 (back c *ℤ back m)
  unfolding term_size
  term_fits = fits_mul coefficient_held (holds_call j monomial_word) term_word

  pub term_product : Is term_size (term_value b v i) (back (back c *ℤ back m))
  unfolding term_value term_size
  term_product = holds_mul coefficient_held (holds_call j monomial_word) term_word
