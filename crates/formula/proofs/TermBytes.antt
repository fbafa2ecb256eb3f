-- The bytes of a term list: the four bytes of a coefficient are read back, and there are 8 bytes for each coefficient that is not 0.
use Prim.Native.Nat.{ℕ, suc, zero, ◌+◌, ◌*◌, ◌-◌, ◌/◌, ◌%◌, ◌≤◌, ◌<◌}
use native.Mathlib.Omega.{arith}
use mathlib.Core.Path.{◌≡◌, refl, sym, ap, ◌∙◌}
use mathlib.Core.Bool.{Bool, true, false, not, cond}
use mathlib.Core.List.{List, [], ◌∷◌, ◌++◌}
use lib.IntN.{ℤ, pos, negsuc, nat_abs}
use lib.ListN.{length, get_or, drop, length-append}
use lib.Seq.{get_or-drop}
use lib.Dec.{ltb}
use borrow.Author.Tests.{lt-ltb, le-ltb}
use Rattle.exact.proofs.AndTests.{and_left, and_right, and-true}
use Rattle.curves.specs.Grid.{under}
use Rattle.paper.specs.Limits.{degree_limit}
use Rattle.paper.specs.Bytes.{byte, word, double_word, signed, signed_double_word}
use Rattle.paper.specs.RunningSum.{exponent_sum}
use Rattle.formula.specs.Polynomial.{Polynomial, cell, is_zero, monomial_count, exponents_at, degree_at}
use Rattle.formula.specs.Read.{double_word_of, double_word_bytes, term_bytes, terms_from, term_list}
use Rattle.formula.proofs.Slots.{monomial_length, monomial_degree}

-- ---- 32 signed bits

double_word_of_under : (z : ℤ) → double_word_of z < 4294967296
unfolding double_word_of
double_word_of_under (pos a) = omega arith
double_word_of_under (negsuc a) = omega arith

-- a number of 32 bits put together from its four bytes
four_bytes : (u : ℕ) → u % 256 + 256 * (u / 256 % 256) + 65536 * (u / 65536 % 256 + 256 * (u / 16777216)) ≡ u
four_bytes u =
    let a : u / 256 / 256 ≡ u / 65536 = omega arith in
    let b : u / 65536 / 256 ≡ u / 16777216 = omega arith in
    let c : u / 256 % 256 + 256 * (u / 256 / 256) ≡ u / 256 = omega arith in
    let d : u / 65536 % 256 + 256 * (u / 65536 / 256) ≡ u / 65536 = omega arith in
    omega arith

signed_double_word_of : (z : ℤ) → nat_abs z < 2147483648 → signed 2147483648 (double_word_of z) ≡ z
unfolding signed double_word_of
signed_double_word_of (pos a) h =
    let same : a % 4294967296 ≡ a = omega arith in
    rw (same, lt-ltb a 2147483648 h)
signed_double_word_of (negsuc a) h =
    let same : a % 4294967296 ≡ a = omega arith in
    let high : 2147483648 ≤ 4294967295 - a = omega arith in
    rw (same, le-ltb (4294967295 - a) 2147483648 high) (ap negsuc (omega arith))

module _ (b : List ℕ) (k : ℕ) (z : ℤ) (rest : List ℕ) (stands : drop k b ≡ double_word_bytes z ++ rest) where
  byte_of : (i j : ℕ) → k + i ≡ j → byte b j ≡ get_or (double_word_bytes z ++ rest) i 0
  unfolding byte
  byte_of i j e = ap (λ m. get_or b m 0) (sym e) ∙ (sym (get_or-drop k b i 0) ∙ ap (λ l. get_or l i 0) stands)

  -- where the four bytes of a number stand, its 32 bits are read
  read_bits : double_word b k ≡ double_word_of z
  unfolding double_word word double_word_bytes
  read_bits =
      rw (byte_of 0 k (omega arith), byte_of 1 (k + 1) refl, byte_of 2 (k + 2) refl, byte_of 3 (k + 2 + 1) (omega arith))
      (four_bytes (double_word_of z))

  -- and the number itself if 32 signed bits hold it
  pub read_double_word : nat_abs z < 2147483648 → signed_double_word b k ≡ z
  unfolding signed_double_word
  read_double_word h = ap (signed 2147483648) read_bits ∙ signed_double_word_of z h

-- ---- the terms

-- coefficient k is not 0
unfoldable pub is_term : Polynomial → ℕ → Bool
is_term p k = not (is_zero (cell p k))

-- how many of the m numbers from k on pass a test
unfoldable pub passing : (ℕ → Bool) → ℕ → ℕ → ℕ
passing t k zero = 0
passing t k (suc m) = cond (t k) 1 0 + passing t (k + 1) m

module _ (p : Polynomial) where
  -- a coefficient 0 has no bytes, another one has 8
  pub no_term : (k : ℕ) → is_zero (cell p k) ≡ true → term_bytes p k ≡ []
  unfolding term_bytes
  no_term k h = rw h

  pub one_term : (k : ℕ) → is_zero (cell p k) ≡ false → term_bytes p k ≡ double_word_bytes (cell p k) ++ exponents_at k
  unfolding term_bytes
  one_term k h = rw h

  pub eight_bytes : (k : ℕ) → k < monomial_count → length (double_word_bytes (cell p k) ++ exponents_at k) ≡ 8
  unfolding double_word_bytes
  eight_bytes k l = omega (arith, monomial_length k l)

  term_length : (k : ℕ) → k < monomial_count → length (term_bytes p k) ≡ 8 * cond (is_term p k) 1 0
  unfolding is_term
  term_length k l = go (is_zero (cell p k)) refl
    where
      go : (t : Bool) → is_zero (cell p k) ≡ t → length (term_bytes p k) ≡ 8 * cond (not (is_zero (cell p k))) 1 0
      go true e = rw (no_term k e, e)
      go false e = rw (one_term k e, e) (eight_bytes k l)

  -- 8 bytes for each coefficient that is not 0
  pub terms_length : (k m : ℕ) → k + m ≤ monomial_count → length (terms_from p k m) ≡ 8 * passing (is_term p) k m
  unfolding terms_from passing
  terms_length k zero l = refl
  terms_length k (suc m) l =
      let here = term_length k (omega arith) in
      let later = terms_length (k + 1) m (omega arith) in
      length-append (term_bytes p k) (terms_from p (k + 1) m) ∙ omega (arith, here, later)

  pub term_list_length : length (term_list p) ≡ 8 * passing (is_term p) 0 monomial_count
  unfolding term_list
  term_list_length = terms_length 0 monomial_count (omega arith)

-- ---- each is a byte

append_under : (l m : List ℕ) → under 256 l ≡ true → under 256 m ≡ true → under 256 (l ++ m) ≡ true
unfolding under
append_under [] m h g = g
append_under (x ∷ l) m h g = and-true (and_left (ltb x 256) (under 256 l) h) (append_under l m (and_right (ltb x 256) (under 256 l) h) g)

double_word_under : (z : ℤ) → under 256 (double_word_bytes z) ≡ true
unfolding under double_word_bytes
double_word_under z =
    let u : ℕ = double_word_of z in
    and-true (lt-ltb (u % 256) 256 (omega arith))
    (and-true (lt-ltb (u / 256 % 256) 256 (omega arith))
    (and-true (lt-ltb (u / 65536 % 256) 256 (omega arith))
    (and-true (lt-ltb (u / 16777216) 256 (omega (arith, double_word_of_under z))) refl)))

exponents_under : (es : List ℕ) → exponent_sum es < 256 → under 256 es ≡ true
unfolding under exponent_sum
exponents_under [] h = refl
exponents_under (e ∷ es) h = and-true (lt-ltb e 256 (omega arith)) (exponents_under es (omega arith))

term_under : (p : Polynomial) (k : ℕ) → k < monomial_count → under 256 (term_bytes p k) ≡ true
unfolding under degree_limit degree_at
term_under p k l = go (is_zero (cell p k)) refl
  where
    go : (t : Bool) → is_zero (cell p k) ≡ t → under 256 (term_bytes p k) ≡ true
    go true e = rw (no_term p k e)
    go false e =
        rw (one_term p k e)
        (append_under (double_word_bytes (cell p k)) (exponents_at k) (double_word_under (cell p k))
        (exponents_under (exponents_at k) (omega (arith, monomial_degree k l))))

terms_under : (p : Polynomial) (k m : ℕ) → k + m ≤ monomial_count → under 256 (terms_from p k m) ≡ true
unfolding under terms_from
terms_under p k zero l = refl
terms_under p k (suc m) l =
    append_under (term_bytes p k) (terms_from p (k + 1) m) (term_under p k (omega arith)) (terms_under p (k + 1) m (omega arith))

pub term_list_under : (p : Polynomial) → under 256 (term_list p) ≡ true
unfolding term_list
term_list_under p = terms_under p 0 monomial_count (omega arith)
