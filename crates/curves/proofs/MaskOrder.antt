-- An order of the axes as powers added one after another, each new to the running mask. `Fresh n m o` says that of the list o from
-- the mask m on; it is what `is_order` tests, and it gives the sum of the powers and its ones.
use Prim.Native.Nat.{ℕ, suc, ◌+◌, ◌^◌, ◌<◌}
use mathlib.Core.Path.{◌≡◌, refl, sym, ap, ◌∙◌, subst}
use mathlib.Core.Bool.{Bool, true, false, not, ◌&&◌, true≢false}
use mathlib.Core.List.{List, [], ◌∷◌, ◌++◌}
use native.Mathlib.Nat.{add-zero, zero-add, add_assoc}
use native.Mathlib.Omega.{arith}
use lib.ListN.{length}
use lib.Dec.{eqb}
use lib.Count.{ones}
use lib.Pow.{pow_pos}
use borrow.Author.Tests.{lt-ltb, eq-eqb, ne_eqb}
use Rattle.exact.proofs.AndTests.{and_left, and_right, and-true, and-false}
use Rattle.curves.specs.Grid.{absent, distinct, under, is_order}
use Rattle.curves.proofs.OrderTests.{order_under, order_distinct, under_head, under_tail}
use Rattle.curves.proofs.MaskBits.{bit, bit_zero, bit_add_same, bit_add_other, ones_add, ones_zero, add_under}
use Rattle.curves.proofs.MaskAxes.{all_ones}

-- each axis is under n, and its bit is 0 in the sum of m and the powers of the axes before it
pub data Fresh (n : ℕ) : ℕ → List ℕ → Type 0 where
  none : {m : ℕ} → Fresh n m []
  next : {m a : ℕ} {o : List ℕ} → a < n → bit a m ≡ 0 → Fresh n (m + 2 ^ a) o → Fresh n m (a ∷ o)

-- the sum of the powers of a list
unfoldable pub weight : List ℕ → ℕ
weight [] = 0
weight (a ∷ o) = 2 ^ a + weight o

-- ---- from the test

fresh_from : (n m : ℕ) (o : List ℕ) → under n o ≡ true → distinct o ≡ true → ((b : ℕ) → absent b o ≡ false → bit b m ≡ 0) → Fresh n m o
unfolding under distinct absent
fresh_from n m [] u d h = none
fresh_from n m (a ∷ o) u d h =
    let first : bit a m ≡ 0 = h a (ap (λ (t : Bool). not t && absent a o) (eq-eqb a a refl)) in
    let other : (b : ℕ) → absent b o ≡ false → ¬ (b ≡ a)
    = λ b q e. true≢false (sym (and_left (absent a o) (distinct o) d) ∙ ap (λ (x : ℕ). absent x o) (sym e) ∙ q) in
    next (under_head n a o u) first
    (fresh_from n (m + 2 ^ a) o (under_tail n a o u) (and_right (absent a o) (distinct o) d)
    (λ b q. bit_add_other b a m (other b q) first ∙ h b (and-false (not (eqb b a)) q)))

pub distinct_fresh : (n : ℕ) (o : List ℕ) → under n o ≡ true → distinct o ≡ true → Fresh n 0 o
distinct_fresh n o u d = fresh_from n 0 o u d (λ b q. bit_zero b)

pub order_fresh : (n : ℕ) (o : List ℕ) → is_order n o ≡ true → Fresh n 0 o
order_fresh n o h = distinct_fresh n o (order_under n o h) (order_distinct n o h)

-- ---- back to the test

pub fresh_under : {n m : ℕ} {o : List ℕ} → Fresh n m o → under n o ≡ true
unfolding under
fresh_under none = refl
fresh_under {n} (next {a = a} l b r) = and-true (lt-ltb a n l) (fresh_under r)

fresh_absent : {n m : ℕ} {o : List ℕ} (b : ℕ) → bit b m ≡ 1 → Fresh n m o → absent b o ≡ true
unfolding absent
fresh_absent b e none = refl
fresh_absent {n} {m} b e (next {a = a} l z r) =
    let other : ¬ (b ≡ a) = λ q. omega (arith, ap (λ (x : ℕ). bit x m) q) in
    and-true (ap not (ne_eqb b a other)) (fresh_absent b (bit_add_other b a m other z ∙ e) r)

pub fresh_distinct : {n m : ℕ} {o : List ℕ} → Fresh n m o → distinct o ≡ true
unfolding distinct
fresh_distinct none = refl
fresh_distinct {n} {m} (next {a = a} l z r) = and-true (fresh_absent a (bit_add_same a m z) r) (fresh_distinct r)

pub fresh_order : (n : ℕ) (o : List ℕ) → Fresh n 0 o → length o ≡ n → is_order n o ≡ true
unfolding is_order
fresh_order n o f e = and-true (eq-eqb (length o) n e) (and-true (fresh_under f) (fresh_distinct f))

-- ---- parts and other orders of a fresh list

-- what is fresh to a mask is fresh to 0
pub fresh_zero : {n m : ℕ} {o : List ℕ} → Fresh n m o → Fresh n 0 o
fresh_zero {n} {m} {o} f = distinct_fresh n o (fresh_under f) (fresh_distinct f)

pub fresh_front : {n m : ℕ} (o p : List ℕ) → Fresh n m (o ++ p) → Fresh n m o
fresh_front [] p f = none
fresh_front {n = n} {m = m} (a ∷ o) p (next l z r) = next l z (fresh_front {m = m + 2 ^ a} o p r)

pub fresh_back : {n m : ℕ} (o p : List ℕ) → Fresh n m (o ++ p) → Fresh n (m + weight o) p
unfolding weight
fresh_back {n} {m} [] p f = rw add-zero f
fresh_back {n} {m} (a ∷ o) p (next l z r) = rw (← add_assoc) (fresh_back {m = m + 2 ^ a} o p r)

pub fresh_last : {n m : ℕ} (o : List ℕ) (a : ℕ) → Fresh n m o → a < n → bit a (m + weight o) ≡ 0 → Fresh n m (o ++ a ∷ [])
unfolding weight
fresh_last {n} {m} [] a f l z = next l (ap (bit a) (sym (add-zero m)) ∙ z) none
fresh_last {n} {m} (b ∷ o) a (next k y r) l z = next k y (fresh_last {m = m + 2 ^ b} o a r l (ap (bit a) (add_assoc m (2 ^ b) (weight o)) ∙ z))

-- two neighbours exchanged
exchange_head : {n m a b : ℕ} {p : List ℕ} → Fresh n m (a ∷ b ∷ p) → Fresh n m (b ∷ a ∷ p)
exchange_head {n} {m} {a} {b} {p} (next l z (next k y r)) =
    let other : ¬ (b ≡ a) = λ e. omega (arith, bit_add_same a m z, ap (λ (x : ℕ). bit x (m + 2 ^ a)) e) in
    let back : ¬ (a ≡ b) = λ e. other (sym e) in
    let new : bit b m ≡ 0 = sym (bit_add_other b a m other z) ∙ y in
    let sums : m + 2 ^ a + 2 ^ b ≡ m + 2 ^ b + 2 ^ a = omega arith in
    next k new (next l (bit_add_other a b m back new ∙ z) (subst (λ (x : ℕ). Fresh n x p) sums r))

pub fresh_exchange : {n m : ℕ} (o : List ℕ) (a b : ℕ) (p : List ℕ) → Fresh n m (o ++ a ∷ b ∷ p) → Fresh n m (o ++ b ∷ a ∷ p)
fresh_exchange [] a b p f = exchange_head f
fresh_exchange {n = n} {m = m} (x ∷ o) a b p (next l z r) = next l z (fresh_exchange {m = m + 2 ^ x} o a b p r)

-- an axis that is new behind a list is new in front of it
pub fresh_first : {n m : ℕ} (a : ℕ) (o : List ℕ) → Fresh n m o → a < n → bit a (m + weight o) ≡ 0 → Fresh n m (a ∷ o)
unfolding weight
fresh_first {n} {m} a [] f l z = next l (ap (bit a) (sym (add-zero m)) ∙ z) none
fresh_first {n} {m} a (b ∷ o) (next k y r) l z =
    exchange_head (next k y (fresh_first {m = m + 2 ^ b} a o r l (ap (bit a) (add_assoc m (2 ^ b) (weight o)) ∙ z)))

-- ---- the sum of the powers

pub weight_append : (o p : List ℕ) → weight (o ++ p) ≡ weight o + weight p
unfolding weight
weight_append [] p = omega arith
weight_append (a ∷ o) p = ap (λ (x : ℕ). 2 ^ a + x) (weight_append o p) ∙ sym (add_assoc (2 ^ a) (weight o) (weight p))

pub fresh_ones : {n m : ℕ} {o : List ℕ} → Fresh n m o → ones (m + weight o) ≡ ones m + length o
unfolding weight
fresh_ones {n} {m} none = ap ones (add-zero m) ∙ sym (add-zero (ones m))
fresh_ones {n} {m} (next {a = a} {o = o} l z r) =
    ap ones (sym (add_assoc m (2 ^ a) (weight o))) ∙ fresh_ones r ∙ omega (arith, ones_add a m z)

pub fresh_bound : {n m : ℕ} {o : List ℕ} → m < 2 ^ n → Fresh n m o → m + weight o < 2 ^ n
unfolding weight
fresh_bound {n} {m} u none = omega arith
fresh_bound {n} {m} u (next {a = a} {o = o} l z r) = omega (arith, fresh_bound (add_under n a m l u z) r)

-- the powers of n different axes under n fill n bits
pub fresh_full : (n : ℕ) (o : List ℕ) → Fresh n 0 o → length o ≡ n → suc (weight o) ≡ 2 ^ n
fresh_full n o f e =
    all_ones n (weight o) (omega (arith, fresh_bound (pow_pos n) f))
    (ap ones (sym (zero-add (weight o))) ∙ fresh_ones f ∙ omega (arith, ones_zero))
