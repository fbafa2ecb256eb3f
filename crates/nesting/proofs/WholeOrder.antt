-- The order of whole numbers: two laws.
use native.Mathlib.Omega.{arith}
use mathlib.Core.Path.{sym, ◌∙◌}
use mathlib.Core.Bool.{true≢false}
use lib.IntN.{ℤ}
use lib.Signed.{◌≤ℤ◌, ◌<ℤ◌}
use Rattle.exact.proofs.Linear.{split, linear}
use Rattle.seamlist.proofs.FacetOrder.{less_le, less_not_le}

-- a chain of two
pub le_trans : (x y z : ℤ) → x ≤ℤ y → y ≤ℤ z → x ≤ℤ z
le_trans x y z = rw (split x, split y, split z) (simp linear (omega arith))

-- of two numbers not each is less than the other
pub not_less_both : (x y : ℤ) → x <ℤ y → y <ℤ x → ⊥
not_less_both x y h k = true≢false (sym (less_le x y h) ∙ less_not_le y x k)
