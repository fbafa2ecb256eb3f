-- A coefficient within its limit in 64 bits: read back it is the same number, and the code compares it with 0 by its bits.
use Prim.Native.Nat.{◌^◌, ◌-◌, ◌≤◌}
use mathlib.Core.Path.{◌≡◌, refl, sym, ap, subst, ◌∙◌}
use mathlib.Core.Bool.{Bool, true, false}
use lib.IntN.{ℤ, nat_abs}
use lib.Dec.{lit≤}
use borrow.Author.Tests.{eqb-true}
use mir.Syntax.{w64}
use mir.Val.{to_z, of_z}
use Rattle.exact.specs.Size.{Size}
use Rattle.exact.proofs.SizeLaws.{nat_abs_zero}
use Rattle.exact.proofs.Bits.{back, back_is, back_size}
use Rattle.paper.specs.Limits.{coefficient_limit}
use Rattle.formula.specs.Polynomial.{is_zero}

limit_word : coefficient_limit ≤ 2 ^ 63 - 1
unfolding coefficient_limit
limit_word = lit≤ tt

pub coefficient_back : {x : ℤ} → Size coefficient_limit x → back x ≡ x
coefficient_back s = back_is s limit_word

pub coefficient_held : {x : ℤ} → Size coefficient_limit x → Size coefficient_limit (back x)
coefficient_held s = back_size s limit_word

pub bits_zero : {x : ℤ} → Size coefficient_limit x → of_z w64 x ≡ 0 → is_zero x ≡ true
unfolding is_zero
bits_zero s h = subst (λ (y : ℤ). is_zero y ≡ true) (sym (ap (to_z w64) h) ∙ coefficient_back s) refl

pub bits_nonzero : (x : ℤ) → (of_z w64 x ≡ 0 → ⊥) → is_zero x ≡ false
unfolding is_zero
bits_nonzero x h = go (is_zero x) refl
  where
    go : (b : Bool) → is_zero x ≡ b → b ≡ false
    go false e = refl
    go true e = absurd (h (ap (of_z w64) (nat_abs_zero x (eqb-true (nat_abs x) 0 e))))
