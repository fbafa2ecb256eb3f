-- What the machine holds in 64 bits for a signed number. In a need, a signed local is written as its bits read back,
-- `to_z w64 (of_z w64 z)`, and an operation on two of them as that of `lib.IntN`, read back again. `Is m z x` (specs/Size) says that such a term x is
-- the number z, of size at most m; the laws follow the code's expression and keep the size, so that each operation fits.
use Prim.Native.Nat.{ℕ, ◌+◌, ◌*◌, ◌^◌, ◌-◌, ◌≤◌}
use mathlib.Core.Path.{◌≡◌, sym, ap₂, ◌∙◌, subst}
use lib.IntN.{ℤ, ◌+ℤ◌, ◌-ℤ◌, ◌*ℤ◌}
use mir.Syntax.{w64}
use mir.Val.{SFits, to_z, of_z}
use Rattle.exact.specs.Int.{◌⊕◌, ◌⊖◌, ◌⊗◌}
use Rattle.exact.specs.Size.{Size, Is}
use Rattle.exact.proofs.Ring.{⊕_is, ⊖_is, ⊗_is}
use Rattle.exact.proofs.SizeLaws.{size_weaken, size_add, size_sub, size_mul, size_fits_64, size_bits_64}

-- a parameter, or any other number that is read back from its bits
pub holds : {m : ℕ} {z : ℤ} → Size m z → m ≤ 2 ^ 63 - 1 → Is m z (to_z w64 (of_z w64 z))
holds s l = record { is = size_bits_64 (size_weaken s l); size = s }

-- the result of a call, read back from its bits
pub holds_call : {m : ℕ} {z r : ℤ} → Is m z r → m ≤ 2 ^ 63 - 1 → Is m z (to_z w64 (of_z w64 r))
holds_call {m} {z} h l = subst (λ t. Is m z (to_z w64 (of_z w64 t))) (sym h.is) (holds h.size l)

-- its size
pub is_size : {m : ℕ} {z r : ℤ} → Is m z r → Size m r
is_size {m} h = subst (Size m) (sym h.is) h.size

-- a number's bits, read back
abbrev pub back : ℤ → ℤ
back z = to_z w64 (of_z w64 z)

pub back_is : {m : ℕ} {z : ℤ} → Size m z → m ≤ 2 ^ 63 - 1 → back z ≡ z
back_is s l = size_bits_64 (size_weaken s l)

pub back_size : {m : ℕ} {z : ℤ} → Size m z → m ≤ 2 ^ 63 - 1 → Size m (back z)
back_size {m} {z} s l = subst (Size m) (sym (back_is s l)) s

-- a term that is a number of size at most m fits, and its bits are the number
fits_of : {m : ℕ} (y z : ℤ) → y ≡ z → Size m z → m ≤ 2 ^ 63 - 1 → SFits w64 y
fits_of y z e s l = subst (SFits w64) (sym e) (size_fits_64 (size_weaken s l))

bits_of : {m : ℕ} (y z : ℤ) → y ≡ z → Size m z → m ≤ 2 ^ 63 - 1 → Is m z (to_z w64 (of_z w64 y))
bits_of {m} y z e s l = subst (λ t. Is m z (to_z w64 (of_z w64 t))) (sym e) (holds s l)

module _ {m k : ℕ} {x y a b : ℤ} (p : Is m a x) (q : Is k b y) where
  add_is : x +ℤ y ≡ a ⊕ b
  add_is = ap₂ (λ u v. u +ℤ v) p.is q.is ∙ sym (⊕_is a b)

  sub_is : x -ℤ y ≡ a ⊖ b
  sub_is = ap₂ (λ u v. u -ℤ v) p.is q.is ∙ sym (⊖_is a b)

  mul_is : x *ℤ y ≡ a ⊗ b
  mul_is = ap₂ (λ u v. u *ℤ v) p.is q.is ∙ sym (⊗_is a b)

  pub fits_add : m + k ≤ 2 ^ 63 - 1 → SFits w64 (x +ℤ y)
  fits_add = fits_of (x +ℤ y) (a ⊕ b) add_is (size_add p.size q.size)

  pub fits_sub : m + k ≤ 2 ^ 63 - 1 → SFits w64 (x -ℤ y)
  fits_sub = fits_of (x -ℤ y) (a ⊖ b) sub_is (size_sub p.size q.size)

  pub fits_mul : m * k ≤ 2 ^ 63 - 1 → SFits w64 (x *ℤ y)
  fits_mul = fits_of (x *ℤ y) (a ⊗ b) mul_is (size_mul p.size q.size)

  pub holds_add : m + k ≤ 2 ^ 63 - 1 → Is (m + k) (a ⊕ b) (to_z w64 (of_z w64 (x +ℤ y)))
  holds_add = bits_of (x +ℤ y) (a ⊕ b) add_is (size_add p.size q.size)

  pub holds_sub : m + k ≤ 2 ^ 63 - 1 → Is (m + k) (a ⊖ b) (to_z w64 (of_z w64 (x -ℤ y)))
  holds_sub = bits_of (x -ℤ y) (a ⊖ b) sub_is (size_sub p.size q.size)

  pub holds_mul : m * k ≤ 2 ^ 63 - 1 → Is (m * k) (a ⊗ b) (to_z w64 (of_z w64 (x *ℤ y)))
  holds_mul = bits_of (x *ℤ y) (a ⊗ b) mul_is (size_mul p.size q.size)
