-- The sign of a number, as it compares with 0: what a comparison and the tests by > and < say of it.
use Prim.Native.Nat.{ℕ, suc, zero, ◌^◌, ◌-◌, ◌≤◌}
use mathlib.Core.Path.{◌≡◌, refl, sym, ap, ap₂, subst, ◌∙◌}
use mathlib.Core.Bool.{Bool, true, false, not, cond}
use native.Mathlib.Omega.{arith}
use borrow.Author.Tests.{ltb-true, ltb-false}
use lib.IntN.{ℤ, pos, negsuc}
use lib.Dec.{eqb}
use lib.Signed.{lt_z}
use mir.Syntax.{w64}
use mir.Val.{SFits}
use mir.ValLaws.{to_z-of_z}
use Rattle.std.specs.Ordering.{int_cmp, ordering_index}
use Rattle.std.specs.declared.cmp.Ordering.{Ordering}
use Rattle.std.specs.declared.cmp.Ordering.TheVariants.{Less, Equal, Greater}
use Rattle.exact.specs.Sign.{Sign, negative, nought, positive, sign, same_sign}
use Rattle.exact.specs.Size.{Is}
use Rattle.exact.proofs.Bits.{back, holds_call}
use Rattle.facets.specs.Signs.{sign_as}

-- ---- the tests by > and <

above : (y : ℤ) → lt_z (pos 0) y ≡ true → sign y ≡ positive
unfolding sign
above (pos zero) h = cc
above (pos (suc n)) h = refl
above (negsuc n) h = cc

below : (y : ℤ) → lt_z y (pos 0) ≡ true → sign y ≡ negative
unfolding sign
below (pos zero) h = absurd (omega (arith, ltb-true 0 0 h))
below (pos (suc n)) h = absurd (omega (arith, ltb-true (suc n) 0 h))
below (negsuc n) h = refl

neither : (y : ℤ) → lt_z (pos 0) y ≡ false → lt_z y (pos 0) ≡ false → sign y ≡ nought
unfolding sign
neither (pos zero) h k = refl
neither (pos (suc n)) h k = absurd (omega (arith, ltb-false 0 (suc n) h))
neither (negsuc n) h k = cc

-- of a number that is read back from its bits
module _ (x : ℤ) (fits : SFits w64 x) where
  same : back x ≡ x
  same = to_z-of_z w64 x fits

  pub tested_positive : lt_z (pos 0) (back x) ≡ true → sign x ≡ positive
  tested_positive h = above x (subst (λ y. lt_z (pos 0) y ≡ true) same h)

  pub tested_negative : lt_z (back x) (pos 0) ≡ true → sign x ≡ negative
  tested_negative h = below x (subst (λ y. lt_z y (pos 0) ≡ true) same h)

  pub tested_nought : lt_z (pos 0) (back x) ≡ false → lt_z (back x) (pos 0) ≡ false → sign x ≡ nought
  tested_nought h k = neither x (subst (λ y. lt_z (pos 0) y ≡ false) same h) (subst (λ y. lt_z y (pos 0) ≡ false) same k)

  -- ---- the comparison

  order : (a b : Bool) → lt_z (back x) (pos 0) ≡ a → lt_z (pos 0) (back x) ≡ b → sign_as (cond a Less (cond b Greater Equal)) ≡ sign x
  unfolding sign_as
  order true b h k = sym (tested_negative h)
  order false true h k = sym (tested_positive k)
  order false false h k = sym (tested_nought k h)

  pub compared_with_zero : {r : Ordering} → r ≡ int_cmp (back x) (pos 0) → sign_as r ≡ sign x
  compared_with_zero e = ap sign_as e ∙ order (lt_z (back x) (pos 0)) (lt_z (pos 0) (back x)) refl refl

-- ---- equal orders are equal signs

same_order : (r s : Ordering) → eqb (ordering_index r) (ordering_index s) ≡ same_sign (sign_as r) (sign_as s)
unfolding sign_as same_sign
same_order Less Less = refl
same_order Less Equal = refl
same_order Less Greater = refl
same_order Equal Less = refl
same_order Equal Equal = refl
same_order Equal Greater = refl
same_order Greater Less = refl
same_order Greater Equal = refl
same_order Greater Greater = refl

not_not : (b : Bool) → not (not b) ≡ b
not_not true = refl
not_not false = refl

pub order_tested :
    {b : Bool} (r s : Ordering) {x y : Sign} → b ≡ eqb (ordering_index r) (ordering_index s) → sign_as r ≡ x → sign_as s ≡ y → b ≡ same_sign x y
order_tested r s e f g = e ∙ same_order r s ∙ ap₂ same_sign f g

pub order_differs :
    {b : Bool} (r s : Ordering) {x y : Sign} → b ≡ not (eqb (ordering_index r) (ordering_index s)) → sign_as r ≡ x → sign_as s ≡ y
    → same_sign x y ≡ not b
order_differs r s e f g =
    sym (same_order r s ∙ ap₂ same_sign f g) ∙ sym (not_not (eqb (ordering_index r) (ordering_index s))) ∙ ap not (sym e)

-- the sign of a number of the definitions, from that of the code's number, read back from its bits
pub sign_is : (r : Ordering) {m : ℕ} {x z : ℤ} → sign_as r ≡ sign (back z) → Is m x z → m ≤ 2 ^ 63 - 1 → sign_as r ≡ sign x
sign_is r e h l = e ∙ ap sign (holds_call h l).is

pub nought_order : sign_as Equal ≡ nought
unfolding sign_as
nought_order = refl
