-- The alternating sign: `alternate p` keeps 0 and opposites, and undoes itself.
use Prim.Native.Nat.{ℕ, suc, zero}
use mathlib.Core.Path.{◌≡◌, refl, ap, ◌∙◌}
use lib.IntN.{ℤ}
use Rattle.exact.specs.Int.{neg, 0ℤ}
use Rattle.exact.specs.Minors.{alternate}
use Rattle.exact.proofs.Ring.{neg_zero, neg_neg}

pub alternate_zero : (p : ℕ) → alternate p 0ℤ ≡ 0ℤ
unfolding alternate
alternate_zero zero = refl
alternate_zero (suc p) = ap neg (alternate_zero p) ∙ neg_zero

pub alternate_neg : (p : ℕ) (x : ℤ) → alternate p (neg x) ≡ neg (alternate p x)
unfolding alternate
alternate_neg zero x = refl
alternate_neg (suc p) x = ap neg (alternate_neg p x)

pub alternate_twice : (p : ℕ) (x : ℤ) → alternate p (alternate p x) ≡ x
unfolding alternate
alternate_twice zero x = refl
alternate_twice (suc p) x =
    ap neg (alternate_neg p (alternate p x)) ∙ neg_neg (alternate p (alternate p x)) ∙ alternate_twice p x
