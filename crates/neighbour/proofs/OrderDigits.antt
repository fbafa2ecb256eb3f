-- The digits of a neighbour's order, case by case (`beyond_first` to `beyond_between`); no shift loses a bit, and no difference falls below 0.
use Prim.Native.Nat.{ℕ, ◌+◌, ◌-◌, ◌*◌, ◌/◌, ◌%◌, ◌^◌, ◌≤◌, ◌<◌}
use mathlib.Core.Path.{◌≡◌, ap}
use native.Mathlib.Omega.{arith}
use native.Mathlib.Nat.{mul-le-mul_left, mul-le-mul_right, mod-le, div-mul-le_self}
use lib.Pow.{pow_mono, pow-add, shl_exact}
use borrow.Author.Tests.{eq-eqb, ne_eqb}
use Rattle.table.specs.Table.{last_first, exchanged, order_beyond}

-- ---- the three cases

module _ (n w e : ℕ) where
  pub beyond_first : e ≡ 0 → order_beyond n w e ≡ w % 4096 * 16 + w / 4096 * 2 ^ (16 - 4 * n)
  unfolding order_beyond
  beyond_first z = rw (eq-eqb e 0 z)

  pub beyond_last :
      (e ≡ 0 → ⊥) → e ≡ n
      → order_beyond n w e ≡ (w - w / 2 ^ (16 - 4 * n) % 16 * 2 ^ (16 - 4 * n)) / 16 + w / 2 ^ (16 - 4 * n) % 16 * 4096
  unfolding order_beyond last_first
  beyond_last k l = rw (ne_eqb e 0 k, eq-eqb e n l)

  pub beyond_between :
      (e ≡ 0 → ⊥) → (e ≡ n → ⊥)
      → order_beyond n w e
      ≡ w + w / 2 ^ (12 - 4 * e) % 16 * 15 * 2 ^ (12 - 4 * e) - w / 2 ^ (12 - 4 * e + 4) % 16 * 15 * 2 ^ (12 - 4 * e)
  unfolding order_beyond exchanged
  beyond_between k l = rw (ne_eqb e 0 k, ne_eqb e n l)

-- ---- shifts and differences

-- a number of at most two digits moved by at most three places
pub record Shifted (d s : ℕ) : Type 0 where
  pub is : d * 2 ^ s % 18446744073709551616 ≡ d * 2 ^ s
  pub under : d * 2 ^ s ≤ 1048576

pub shifted : (d s : ℕ) → d < 256 → s ≤ 12 → Shifted d s
shifted d s few near = record { is = shl_exact 8 s 64 few (omega arith); under = omega (arith, mul-le-mul_left d (pow_mono near)) }

-- a digit at its place is no more than the number
pub digit_part : (w s : ℕ) → w / 2 ^ s % 16 * 2 ^ s ≤ w
digit_part w s = omega (arith, mul-le-mul_right (2 ^ s) (mod-le (w / 2 ^ s) 16), div-mul-le_self w (2 ^ s))

-- and so is what it loses when it moves to the next place
pub moved_part : (w s : ℕ) → w / 2 ^ (s + 4) % 16 * 15 * 2 ^ s ≤ w
moved_part w s = omega (arith, digit_part w (s + 4), ap (λ p. w / 2 ^ (s + 4) % 16 * p) (pow-add 2 s 4))
