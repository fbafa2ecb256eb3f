-- The 32 bits of a coefficient, in four bytes.
use Prim.Native.Nat.{ℕ, ◌/◌, ◌%◌, ◌<◌}
use native.Mathlib.Omega.{arith}
use mathlib.Core.Path.{◌≡◌, refl, ap, ◌∙◌}
use mathlib.Core.List.{List, [], ◌∷◌}
use lib.Dec.{lit<}
use lib.IntN.{ℤ, pos, negsuc}
use mir.Syntax.{w32}
use mir.Val.{SFits, of_z, to_z}
use Rattle.std.proofs.Math.Facts.{to_z-of_z}
use Rattle.exact.specs.Size.{Size}
use Rattle.exact.proofs.SizeLaws.{size_fits}
use Rattle.exact.proofs.Bits.{back}
use Rattle.paper.specs.Limits.{coefficient_limit}
use Rattle.formula.specs.Read.{double_word_of, double_word_bytes}
use Rattle.rows.proofs.CoefficientBits.{coefficient_back, coefficient_held}

fits_word : {x : ℤ} → Size coefficient_limit x → SFits w32 x
unfolding coefficient_limit
fits_word s = size_fits w32 (lit< tt) s

-- the cast to 32 bits loses nothing
pub word_fits : {x : ℤ} → Size coefficient_limit x → SFits w32 (back x)
word_fits s = fits_word (coefficient_held s)

bits_word : (x : ℤ) → Size coefficient_limit x → of_z w32 x ≡ double_word_of x
unfolding double_word_of coefficient_limit
bits_word (pos a) s = omega (arith, s.size)
bits_word (negsuc a) s = omega (arith, s.size)

word_small : (x : ℤ) → Size coefficient_limit x → double_word_of x < 4294967296
unfolding double_word_of coefficient_limit
word_small (pos a) s = omega arith
word_small (negsuc a) s = omega arith

-- read back from 64 bits and from 32
word_is : (x : ℤ) → Size coefficient_limit x → of_z w32 (to_z w32 (of_z w32 (back x))) ≡ double_word_of x
word_is x s = ap (λ y. of_z w32 (to_z w32 (of_z w32 y))) (coefficient_back s) ∙ ap (of_z w32) (to_z-of_z (fits_word s)) ∙ bits_word x s

unfoldable pub four_bytes : ℕ → List ℕ
four_bytes w = w % 256 ∷ w / 256 % 256 ∷ w / 65536 % 256 ∷ w / 16777216 % 256 ∷ []

-- the highest byte needs no remainder
highest : (w : ℕ) → w < 4294967296 → w / 16777216 % 256 ≡ w / 16777216
highest w l = omega arith

pub word_bytes : (x : ℤ) {bytes : List ℕ} → Size coefficient_limit x → bytes ≡ four_bytes (of_z w32 (to_z w32 (of_z w32 (back x))))
    → bytes ≡ double_word_bytes x
unfolding four_bytes double_word_bytes
word_bytes x s e =
    e ∙ ap four_bytes (word_is x s) ∙ rw (highest (double_word_of x) (word_small x s)) refl
