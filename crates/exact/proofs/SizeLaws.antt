-- Bounds on absolute values go through the operations: a sum has at most the sum of the bounds, a product at most their product.
-- A number whose bound is below half of a width's power fits that width as a signed number.
use mathlib.Core.Path.{◌≡◌, refl, sym, ap, ◌∙◌}
use Prim.Native.Nat.{ℕ, suc, zero, ◌+◌, ◌*◌, ◌^◌, ◌-◌, ◌≤◌, ◌<◌}
use native.Mathlib.Omega.{arith}
use native.Mathlib.Nat.{le_trans, le_refl, mul-le-mul, pow-zero, pow-succ'}
use lib.IntN.{ℤ, pos, negsuc, neg_ℤ, nat_abs}
use lib.Dec.{lit<}
use mir.Syntax.{Width, w64}
use mir.Val.{SFits, hbits, to_z, of_z}
use mir.ValLaws.{to_z-of_z}
use Rattle.exact.specs.Int.{◌⊕◌, ◌⊖◌, ◌⊗◌, neg, power, 0ℤ}
use Rattle.exact.specs.Size.{Size}
use Rattle.exact.proofs.Linear.{diff, up, down, split, diff_add, diff_eq, pos_diff, negsuc_diff}
use Rattle.exact.proofs.Ring.{neg_is, sub_eq}

-- ---- absolute values
nat_abs_parts : (z : ℤ) → nat_abs z ≡ up z + down z
unfolding up down
nat_abs_parts (pos n) = omega arith
nat_abs_parts (negsuc n) = omega arith

nat_abs_of_diff : (z : ℤ) (a b : ℕ) → z ≡ diff a b → nat_abs z ≤ a + b
nat_abs_of_diff (pos n) a b h = omega (arith, (diff_eq n 0 a b).0 (sym (pos_diff n) ∙ h))
nat_abs_of_diff (negsuc n) a b h = omega (arith, (diff_eq 0 (suc n) a b).0 (sym (negsuc_diff n) ∙ h))

pub nat_abs_add : (a b : ℤ) → nat_abs (a ⊕ b) ≤ nat_abs a + nat_abs b
nat_abs_add a b =
    let e : a ⊕ b ≡ diff (up a + up b) (down a + down b) = ap (λ x. x ⊕ b) (split a) ∙ ap (λ x. diff (up a) (down a) ⊕ x) (split b) ∙ diff_add (up a) (down a) (up b) (down b) in
    omega (arith, nat_abs_of_diff (a ⊕ b) (up a + up b) (down a + down b) e, nat_abs_parts a, nat_abs_parts b)

nat_abs_negℤ : (z : ℤ) → nat_abs (neg_ℤ z) ≡ nat_abs z
nat_abs_negℤ (pos zero) = refl
nat_abs_negℤ (pos (suc n)) = refl
nat_abs_negℤ (negsuc n) = refl

pub nat_abs_neg : (a : ℤ) → nat_abs (neg a) ≡ nat_abs a
nat_abs_neg a = ap nat_abs (neg_is a) ∙ nat_abs_negℤ a

-- only 0 has size 0
pub nat_abs_zero : (z : ℤ) → nat_abs z ≡ 0 → z ≡ 0ℤ
nat_abs_zero (pos n) h = ap pos h
nat_abs_zero (negsuc n) h = absurd (omega arith)

pub nat_abs_mul : (a b : ℤ) → nat_abs (a ⊗ b) ≡ nat_abs a * nat_abs b
unfolding ◌⊗◌
nat_abs_mul (pos a) (pos b) = refl
nat_abs_mul (pos a) (negsuc b) = nat_abs_negℤ (pos (a * suc b))
nat_abs_mul (negsuc a) (pos b) = nat_abs_negℤ (pos (suc a * b))
nat_abs_mul (negsuc a) (negsuc b) = refl

-- ---- the laws
pub size_weaken : {m k : ℕ} {a : ℤ} → Size m a → m ≤ k → Size k a
size_weaken s h = record { size = le_trans s.size h }

pub size_pos : (n : ℕ) → Size n (pos n)
size_pos n = record { size = le_refl n }

pub size_add : {m k : ℕ} {a b : ℤ} → Size m a → Size k b → Size (m + k) (a ⊕ b)
size_add {a} {b} s t = record { size = omega (arith, nat_abs_add a b, s.size, t.size) }

pub size_neg : {m : ℕ} {a : ℤ} → Size m a → Size m (neg a)
size_neg {a} s = record { size = rw nat_abs_neg s.size }

pub size_sub : {m k : ℕ} {a b : ℤ} → Size m a → Size k b → Size (m + k) (a ⊖ b)
size_sub {a} {b} s t = rw sub_eq (size_add s (size_neg t))

pub size_mul : {m k : ℕ} {a b : ℤ} → Size m a → Size k b → Size (m * k) (a ⊗ b)
size_mul {a} {b} s t = record { size = rw nat_abs_mul (mul-le-mul s.size t.size) }

pub size_power : {m : ℕ} {a : ℤ} → Size m a → (k : ℕ) → Size (m ^ k) (power a k)
unfolding power
size_power {m} s zero = rw pow-zero (size_pos 1)
size_power {m} s (suc k) = rw pow-succ' (size_mul s (size_power s k))

-- ---- fits a width
pub size_fits : {m : ℕ} {z : ℤ} (w : Width) → m < 2 ^ hbits w → Size m z → SFits w z
size_fits {z = pos n} w h s = record { sfits = omega (arith, h, s.size) }
size_fits {z = negsuc n} w h s = record { sfits = omega (arith, h, s.size) }

pub size_fits_64 : {z : ℤ} → Size (2 ^ 63 - 1) z → SFits w64 z
size_fits_64 s = size_fits w64 (lit< tt) s

-- so its 64 bits, read as signed, are the number
pub size_bits_64 : {z : ℤ} → Size (2 ^ 63 - 1) z → to_z w64 (of_z w64 z) ≡ z
size_bits_64 {z} s = to_z-of_z w64 z (size_fits_64 s)
