-- Bits of masks: what becomes of the bits, the number of ones, the bound and `holds` when a power 2 ^ a is added whose bit was 0.
use Prim.Native.Nat.{ℕ, suc, zero, ◌+◌, ◌-◌, ◌/◌, ◌%◌, ◌^◌, ◌≤◌, ◌<◌}
use mathlib.Core.Path.{◌≡◌, refl, sym, ap, ◌∙◌}
use mathlib.Core.Bool.{true}
use native.Mathlib.Nat.{two-pow-succ, not-suc-le-zero}
use native.Mathlib.Omega.{arith}
use lib.Dec.{leb}
use lib.Count.{ones, ones_step}
use borrow.Author.Tests.{leb-true, le-leb}
use Rattle.exact.proofs.AndTests.{and_left, and_right, and-true}
use Rattle.curves.specs.Grid.{holds}

-- ---- bits

-- bit a of a number
unfoldable pub bit : ℕ → ℕ → ℕ
bit zero m = m % 2
bit (suc a) m = bit a (m / 2)

pub bit_zero : (a : ℕ) → bit a 0 ≡ 0
unfolding bit
bit_zero zero = refl
bit_zero (suc a) = bit_zero a

-- half of a number with a higher power added
pub half_add : (m a : ℕ) → (m + 2 ^ suc a) / 2 ≡ m / 2 + 2 ^ a
half_add m a = omega (arith, two-pow-succ a)

pub parity_add : (m a : ℕ) → (m + 2 ^ suc a) % 2 ≡ m % 2
parity_add m a = omega (arith, two-pow-succ a)

-- half of an even number with 1 added
pub half_even : (m : ℕ) → m % 2 ≡ 0 → (m + 1) / 2 ≡ m / 2
half_even m h = omega arith

pub bit_add_same : (a m : ℕ) → bit a m ≡ 0 → bit a (m + 2 ^ a) ≡ 1
unfolding bit
bit_add_same zero m h = omega arith
bit_add_same (suc a) m h = ap (bit a) (half_add m a) ∙ bit_add_same a (m / 2) h

pub bit_add_other : (a b m : ℕ) → ¬ (a ≡ b) → bit b m ≡ 0 → bit a (m + 2 ^ b) ≡ bit a m
unfolding bit
bit_add_other zero zero m d h = absurd (d refl)
bit_add_other zero (suc b) m d h = parity_add m b
bit_add_other (suc a) zero m d h = ap (bit a) (half_even m h)
bit_add_other (suc a) (suc b) m d h = ap (bit a) (half_add m b) ∙ bit_add_other a b (m / 2) (λ e. d (ap suc e)) h

-- ---- ones and bounds

pub ones_zero : ones 0 ≡ 0
unfolding ones
ones_zero = refl

pub ones_add : (a m : ℕ) → bit a m ≡ 0 → ones (m + 2 ^ a) ≡ suc (ones m)
unfolding bit
ones_add zero m h = omega (arith, ones_step (m + 1), ones_step m, ap ones (half_even m h))
ones_add (suc a) m h =
    omega (arith, ones_step (m + 2 ^ suc a), ones_step m, ap ones (half_add m a), parity_add m a, ones_add a (m / 2) h)

pub add_under : (n a m : ℕ) → a < n → m < 2 ^ n → bit a m ≡ 0 → m + 2 ^ a < 2 ^ n
unfolding bit
add_under zero a m l u h = absurd (not-suc-le-zero l)
add_under (suc n) zero m l u h = omega (arith, two-pow-succ n)
add_under (suc n) (suc a) m l u h =
    omega (arith, two-pow-succ n, two-pow-succ a, add_under n a (m / 2) (omega arith) (omega (arith, two-pow-succ n)) h)

-- ---- holds

pub holds_make : (n m l : ℕ) → l % 2 ≤ m % 2 → holds n (m / 2) (l / 2) ≡ true → holds (suc n) m l ≡ true
unfolding holds
holds_make n m l p q = and-true (le-leb (l % 2) (m % 2) p) q

pub holds_low : (n m l : ℕ) → holds (suc n) m l ≡ true → l % 2 ≤ m % 2
unfolding holds
holds_low n m l h = leb-true (l % 2) (m % 2) (and_left (leb (l % 2) (m % 2)) (holds n (m / 2) (l / 2)) h)

pub holds_rest : (n m l : ℕ) → holds (suc n) m l ≡ true → holds n (m / 2) (l / 2) ≡ true
unfolding holds
holds_rest n m l h = and_right (leb (l % 2) (m % 2)) (holds n (m / 2) (l / 2)) h

pub holds_none : (m l : ℕ) → holds 0 m l ≡ true
unfolding holds
holds_none m l = refl

pub holds_refl : (n m : ℕ) → holds n m m ≡ true
holds_refl zero m = holds_none m m
holds_refl (suc n) m = holds_make n m m (omega arith) (holds_refl n (m / 2))

pub holds_trans : (n x y z : ℕ) → holds n x y ≡ true → holds n y z ≡ true → holds n x z ≡ true
holds_trans zero x y z p q = holds_none x z
holds_trans (suc n) x y z p q =
    holds_make n x z (omega (arith, holds_low n x y p, holds_low n y z q))
    (holds_trans n (x / 2) (y / 2) (z / 2) (holds_rest n x y p) (holds_rest n y z q))

pub holds_add : (n a m : ℕ) → bit a m ≡ 0 → holds n (m + 2 ^ a) m ≡ true
unfolding bit
holds_add zero a m h = holds_none (m + 2 ^ a) m
holds_add (suc n) zero m h =
    holds_make n (m + 1) m (omega arith) (ap (λ (x : ℕ). holds n x (m / 2)) (half_even m h) ∙ holds_refl n (m / 2))
holds_add (suc n) (suc a) m h =
    holds_make n (m + 2 ^ suc a) m (omega (arith, parity_add m a))
    (ap (λ (x : ℕ). holds n x (m / 2)) (half_add m a) ∙ holds_add n a (m / 2) h)

-- a power that leads to a mask that holds the old one was not in it
pub holds_bit : (n a m : ℕ) → a < n → holds n (m + 2 ^ a) m ≡ true → bit a m ≡ 0
unfolding bit
holds_bit zero a m l h = absurd (not-suc-le-zero l)
holds_bit (suc n) zero m l h = omega (arith, holds_low n (m + 1) m h)
holds_bit (suc n) (suc a) m l h =
    holds_bit n a (m / 2) (omega arith)
    (ap (λ (x : ℕ). holds n x (m / 2)) (sym (half_add m a)) ∙ holds_rest n (m + 2 ^ suc a) m h)

-- the same for two powers at once
pub holds_bits : (n a b m : ℕ) → a < b → b < n → holds n (m + (2 ^ a + 2 ^ b)) m ≡ true → (bit a m ≡ 0) × (bit b m ≡ 0)
unfolding bit
holds_bits zero a b m l u h = absurd (not-suc-le-zero u)
holds_bits (suc n) a zero m l u h = absurd (not-suc-le-zero l)
holds_bits (suc n) zero (suc b) m l u h =
    let even : m % 2 ≡ 0 = omega (arith, holds_low n (m + (1 + 2 ^ suc b)) m h, two-pow-succ b) in
    let half : (m + (1 + 2 ^ suc b)) / 2 ≡ m / 2 + 2 ^ b = omega (arith, two-pow-succ b) in (
      even,
      holds_bit n b (m / 2) (omega arith)
          (ap (λ (x : ℕ). holds n x (m / 2)) (sym half) ∙ holds_rest n (m + (1 + 2 ^ suc b)) m h),
    )
holds_bits (suc n) (suc a) (suc b) m l u h =
    let half : (m + (2 ^ suc a + 2 ^ suc b)) / 2 ≡ m / 2 + (2 ^ a + 2 ^ b) = omega (arith, two-pow-succ a, two-pow-succ b) in
    holds_bits n a b (m / 2) (omega arith) (omega arith)
    (ap (λ (x : ℕ). holds n x (m / 2)) (sym half) ∙ holds_rest n (m + (2 ^ suc a + 2 ^ suc b)) m h)

-- of a mask that holds another: no less, and the ones add up
pub holds_le : (n m l : ℕ) → l < 2 ^ n → holds n m l ≡ true → l ≤ m
holds_le zero m l u h = omega arith
holds_le (suc n) m l u h =
    omega (arith, holds_low n m l h, holds_le n (m / 2) (l / 2) (omega (arith, two-pow-succ n)) (holds_rest n m l h))

pub holds_ones : (n m l : ℕ) → m < 2 ^ n → l < 2 ^ n → holds n m l ≡ true → ones m ≡ ones l + ones (m - l)
holds_ones zero m l v u h = omega (arith, ones_zero, ap ones m0, ap ones l0, ap ones d0)
  where
    m0 : m ≡ 0
    m0 = omega arith

    l0 : l ≡ 0
    l0 = omega arith

    d0 : m - l ≡ 0
    d0 = omega arith
holds_ones (suc n) m l v u h =
    let low : l % 2 ≤ m % 2 = holds_low n m l h in
    let under : l / 2 ≤ m / 2 = holds_le n (m / 2) (l / 2) (omega (arith, two-pow-succ n)) (holds_rest n m l h) in
    let half : (m - l) / 2 ≡ m / 2 - l / 2 = omega arith in
    let parity : (m - l) % 2 + l % 2 ≡ m % 2 = omega arith in
    let below : ones (m / 2) ≡ ones (l / 2) + ones (m / 2 - l / 2)
    = holds_ones n (m / 2) (l / 2) (omega (arith, two-pow-succ n)) (omega (arith, two-pow-succ n)) (holds_rest n m l h) in
    omega (arith, ones_step m, ones_step l, ones_step (m - l), ap ones half)
