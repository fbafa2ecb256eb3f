-- The operations on whole numbers that every definition of this repository uses. They are those of `lib.IntN`, but shut:
-- a call of one stays a call until a proof says `unfolding`, so that laws can be found by their shape.
-- Nothing is assumed.
use Rattle.std.specs.Prelude.{ℕ, suc, zero, ℤ, pos, neg_ℤ, ◌+ℤ◌, ◌*ℤ◌}

infixl 65 ◌⊕◌ ◌⊖◌
infixl 70 ◌⊗◌
-- sum
unfoldable pub ◌⊕◌ : ℤ → ℤ → ℤ
a ⊕ b = a +ℤ b

-- opposite
unfoldable pub neg : ℤ → ℤ
neg a = neg_ℤ a

-- difference
unfoldable pub ◌⊖◌ : ℤ → ℤ → ℤ
a ⊖ b = a ⊕ neg b

-- product
unfoldable pub ◌⊗◌ : ℤ → ℤ → ℤ
a ⊗ b = a *ℤ b

-- 0 and 1
abbrev pub 0ℤ : ℤ
0ℤ = pos 0

abbrev pub 1ℤ : ℤ
1ℤ = pos 1

-- power; the power 0 of any number, 0 too, is 1
unfoldable pub power : ℤ → ℕ → ℤ
power a zero = 1ℤ
power a (suc k) = a ⊗ power a k
