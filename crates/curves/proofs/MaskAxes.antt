-- Masks by their number of ones: a mask with one is a power of two, a mask with two is a sum of two powers, and `axes` reads the
-- exponents back; a mask below 2 ^ n with n ones is 2 ^ n − 1, and the ones that a mask lacks are those of its complement.
use Prim.Native.Nat.{ℕ, suc, zero, ◌+◌, ◌-◌, ◌/◌, ◌%◌, ◌^◌, ◌<◌}
use mathlib.Core.Path.{◌≡◌, refl, sym, ap, ap₂, ◌∙◌}
use mathlib.Core.List.{[], ◌∷◌}
use native.Mathlib.Nat.{two-pow-succ, not-suc-le-zero, add-zero}
use native.Mathlib.Omega.{arith}
use lib.Count.{ones, ones_step}
use borrow.Author.Tests.{eq-eqb, ne_eqb}
use Rattle.curves.specs.Grid.{axes, axes_from}
use Rattle.curves.proofs.MaskBits.{bit, ones_zero}

-- ---- the axes, bit by bit

axes_odd : (d k m h : ℕ) → m % 2 ≡ 1 → m / 2 ≡ h → axes_from (suc d) k m ≡ k ∷ axes_from d (suc k) h
unfolding axes_from
axes_odd d k m h o e = rw (eq-eqb (m % 2) 1 o, e)

axes_even : (d k m h : ℕ) → m % 2 ≡ 0 → m / 2 ≡ h → axes_from (suc d) k m ≡ axes_from d (suc k) h
unfolding axes_from
axes_even d k m h o e = rw (ne_eqb (m % 2) 1 (λ q. omega arith), e)

axes_zero : (d k : ℕ) → axes_from d k 0 ≡ []
unfolding axes_from
axes_zero zero k = refl
axes_zero (suc d) k = axes_zero d (suc k)

axes_power_from : (d k a : ℕ) → a < d → axes_from d k (2 ^ a) ≡ (k + a) ∷ []
axes_power_from zero k a l = absurd (not-suc-le-zero l)
axes_power_from (suc d) k zero l = axes_odd d k 1 0 refl refl ∙ ap₂ ◌∷◌ (sym (add-zero k)) (axes_zero d (suc k))
axes_power_from (suc d) k (suc a) l =
    axes_even d k (2 ^ suc a) (2 ^ a) (omega (arith, two-pow-succ a)) (omega (arith, two-pow-succ a))
    ∙ axes_power_from d (suc k) a (omega arith)
    ∙ ap (λ (x : ℕ). x ∷ []) (omega arith)

axes_powers_from : (d k a b : ℕ) → a < b → b < d → axes_from d k (2 ^ a + 2 ^ b) ≡ (k + a) ∷ (k + b) ∷ []
axes_powers_from zero k a b l u = absurd (not-suc-le-zero u)
axes_powers_from (suc d) k a zero l u = absurd (not-suc-le-zero l)
axes_powers_from (suc d) k zero (suc b) l u =
    axes_odd d k (1 + 2 ^ suc b) (2 ^ b) (omega (arith, two-pow-succ b)) (omega (arith, two-pow-succ b))
    ∙ ap₂ ◌∷◌ (sym (add-zero k)) (axes_power_from d (suc k) b (omega arith) ∙ ap (λ (x : ℕ). x ∷ []) (omega arith))
axes_powers_from (suc d) k (suc a) (suc b) l u =
    axes_even d k (2 ^ suc a + 2 ^ suc b) (2 ^ a + 2 ^ b) (omega (arith, two-pow-succ a, two-pow-succ b))
    (omega (arith, two-pow-succ a, two-pow-succ b))
    ∙ axes_powers_from d (suc k) a b (omega arith) (omega arith)
    ∙ ap₂ (λ (x y : ℕ). x ∷ y ∷ []) (omega arith) (omega arith)

pub axes_power : (n a : ℕ) → a < n → axes n (2 ^ a) ≡ a ∷ []
unfolding axes
axes_power n a l = axes_power_from n 0 a l ∙ ap (λ (x : ℕ). x ∷ []) (omega arith)

pub axes_powers : (n a b : ℕ) → a < b → b < n → axes n (2 ^ a + 2 ^ b) ≡ a ∷ b ∷ []
unfolding axes
axes_powers n a b l u = axes_powers_from n 0 a b l u ∙ ap₂ (λ (x y : ℕ). x ∷ y ∷ []) (omega arith) (omega arith)

-- ---- masks with none, one and two ones

pub no_ones : (n m : ℕ) → m < 2 ^ n → ones m ≡ 0 → m ≡ 0
no_ones zero m u e = omega arith
no_ones (suc n) m u e =
    let half : m / 2 ≡ 0 = no_ones n (m / 2) (omega (arith, two-pow-succ n)) (omega (arith, ones_step m)) in
    omega (arith, ones_step m)

-- a mask with one axis
pub record Power (n m : ℕ) : Type 0 where
  pub axis : ℕ
  pub inside : axis < n
  pub value : m ≡ 2 ^ axis

-- a mask with two axes
pub record Powers (n m : ℕ) : Type 0 where
  pub lower : ℕ
  pub upper : ℕ
  pub ordered : lower < upper
  pub inside : upper < n
  pub value : m ≡ 2 ^ lower + 2 ^ upper

-- a number is even or odd
pub data Parity (m : ℕ) : Type 0 where
  even : m % 2 ≡ 0 → Parity m
  odd : m % 2 ≡ 1 → Parity m

pub parity : (m : ℕ) → Parity m
parity m = go (m % 2) refl
  where
    go : (r : ℕ) → m % 2 ≡ r → Parity m
    go zero e = even e
    go (suc zero) e = odd e
    go (suc (suc r)) e = absurd (omega arith)

-- what holds of a mask with k + 1 ones: from its half if it is even, from its half with k ones if it is odd
module _ (Q : ℕ → ℕ → Type 0) (k : ℕ)
    (double : (n m : ℕ) → m % 2 ≡ 0 → Q n (m / 2) → Q (suc n) m)
    (begin : (n m : ℕ) → m % 2 ≡ 1 → m / 2 < 2 ^ n → ones (m / 2) ≡ k → Q (suc n) m) where
  by_halves : (n m : ℕ) → m < 2 ^ n → ones m ≡ suc k → Q n m
  by_halves zero m u e = absurd (omega (arith, ap ones m0, ones_zero))
    where
      m0 : m ≡ 0
      m0 = omega arith
  by_halves (suc n) m u e = go (λ h. by_halves n (m / 2) (omega (arith, two-pow-succ n)) h) (parity m)
    where
      go : (ones (m / 2) ≡ suc k → Q n (m / 2)) → Parity m → Q (suc n) m
      go f (even p) = double n m p (f (omega (arith, ones_step m)))
      go f (odd p) = begin n m p (omega (arith, two-pow-succ n)) (omega (arith, ones_step m))

pub one_axis : (n m : ℕ) → m < 2 ^ n → ones m ≡ 1 → Power n m
one_axis = by_halves Power 0 double begin
  where
    double : (n m : ℕ) → m % 2 ≡ 0 → Power n (m / 2) → Power (suc n) m
    double n m p r = record { axis = suc r.axis; inside = omega arith; value = omega (arith, two-pow-succ r.axis) }

    begin : (n m : ℕ) → m % 2 ≡ 1 → m / 2 < 2 ^ n → ones (m / 2) ≡ 0 → Power (suc n) m
    begin n m p u e =
        let half : m / 2 ≡ 0 = no_ones n (m / 2) u e in
        record { axis = 0; inside = omega arith; value = omega arith }

pub two_axes : (n m : ℕ) → m < 2 ^ n → ones m ≡ 2 → Powers n m
two_axes = by_halves Powers 1 double begin
  where
    double : (n m : ℕ) → m % 2 ≡ 0 → Powers n (m / 2) → Powers (suc n) m
    double n m p r =
        record {
          lower = suc r.lower;
          upper = suc r.upper;
          ordered = omega arith;
          inside = omega arith;
          value = omega (arith, two-pow-succ r.lower, two-pow-succ r.upper);
        }

    begin : (n m : ℕ) → m % 2 ≡ 1 → m / 2 < 2 ^ n → ones (m / 2) ≡ 1 → Powers (suc n) m
    begin n m p u e =
        let r : Power n (m / 2) = one_axis n (m / 2) u e in
        record {
          lower = 0;
          upper = suc r.axis;
          ordered = omega arith;
          inside = omega arith;
          value = omega (arith, two-pow-succ r.axis);
        }

-- ---- full masks and complements

-- the ones of a mask and of its complement in n bits are n together
pub ones_complement : (n m : ℕ) → m < 2 ^ n → ones (2 ^ n - 1 - m) + ones m ≡ n
ones_complement zero m u = omega (arith, ap ones m0, ap ones c0, ones_zero)
  where
    m0 : m ≡ 0
    m0 = omega arith

    c0 : 2 ^ 0 - 1 - m ≡ 0
    c0 = omega arith
ones_complement (suc n) m u =
    let half : (2 ^ suc n - 1 - m) / 2 ≡ 2 ^ n - 1 - m / 2 = omega (arith, two-pow-succ n) in
    let low : (2 ^ suc n - 1 - m) % 2 + m % 2 ≡ 1 = omega (arith, two-pow-succ n) in
    let rest : ones (2 ^ n - 1 - m / 2) + ones (m / 2) ≡ n = ones_complement n (m / 2) (omega (arith, two-pow-succ n)) in
    omega (arith, ones_step (2 ^ suc n - 1 - m), ones_step m, ap ones half)

-- a mask of n bits with n ones has them all
pub all_ones : (n m : ℕ) → m < 2 ^ n → ones m ≡ n → suc m ≡ 2 ^ n
all_ones n m u e =
    let none : 2 ^ n - 1 - m ≡ 0 = no_ones n (2 ^ n - 1 - m) (omega arith) (omega (arith, ones_complement n m u)) in
    omega arith

-- a power that fills a mask up was not in it
pub filled_bit : (n a m : ℕ) → a < n → suc (m + 2 ^ a) ≡ 2 ^ n → bit a m ≡ 0
unfolding bit
filled_bit zero a m l e = absurd (not-suc-le-zero l)
filled_bit (suc n) zero m l e = omega (arith, two-pow-succ n)
filled_bit (suc n) (suc a) m l e =
    filled_bit n a (m / 2) (omega arith) (omega (arith, two-pow-succ n, two-pow-succ a))
