-- The text of a signed number of 64 bits, by its sign: a minus stands in front of the absolute value of a number under 0.
use mathlib.Core.Path.{◌≡◌, refl, ap, ◌∙◌}
use mathlib.Core.Bool.{true, false, true≢false}
use mathlib.Core.List.{◌∷◌}
use Prim.Native.Nat.{ℕ}
use native.Mathlib.Omega.{arith}
use lib.IntN.{ℤ, pos, negsuc, nat_abs}
use lib.Signed.{lt_z}
use mir.Syntax.{w64}
use mir.Val.{SFits, to_z, of_z}
use borrow.Author.Tests.{ltb-true}
use Rattle.paper.specs.Listing.{decimal, signed_decimal}
use Rattle.bits.proofs.SignedBits.{bits_are}

signed_under : (z : ℤ) → lt_z z (pos 0) ≡ true → 45 ∷ decimal (nat_abs z) ≡ signed_decimal z
unfolding signed_decimal
signed_under (pos n) h = absurd (omega (arith, ltb-true n 0 h))
signed_under (negsuc n) h = refl

signed_from : (z : ℤ) → lt_z z (pos 0) ≡ false → decimal (nat_abs z) ≡ signed_decimal z
unfolding signed_decimal
signed_from (pos n) h = refl
signed_from (negsuc n) h = absurd (true≢false h)

-- the same of the bits
module _ (z : ℤ) (f : SFits w64 z) {a : ℕ} where
  pub text_under : lt_z (to_z w64 (of_z w64 z)) (pos 0) ≡ true → a ≡ nat_abs (to_z w64 (of_z w64 z)) → 45 ∷ decimal a ≡ signed_decimal z
  text_under h e = ap (λ (k : ℕ). 45 ∷ decimal k) e ∙ signed_under (to_z w64 (of_z w64 z)) h ∙ ap signed_decimal (bits_are f)

  pub text_from : lt_z (to_z w64 (of_z w64 z)) (pos 0) ≡ false → a ≡ nat_abs (to_z w64 (of_z w64 z)) → decimal a ≡ signed_decimal z
  text_from h e = ap decimal e ∙ signed_from (to_z w64 (of_z w64 z)) h ∙ ap signed_decimal (bits_are f)
