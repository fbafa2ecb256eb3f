-- Tokens and their bytes.
use Prim.Native.Nat.{ℕ, suc}
use mathlib.Core.Path.{◌≡◌}
use mathlib.Core.Bool.{false}
use native.Mathlib.Omega.{arith}
use lib.Dec.{eqb}
use borrow.Author.Tests.{eqb-false}
use Rattle.formula.specs.Reader.{Token, digit, variable, opening, closing, star, plus_sign, minus_sign, caret, foreign, token}
use Rattle.formula.proofs.Tokens.{Means, a_digit, a_letter, an_opening, a_closing, a_star, a_plus, a_minus, a_caret, a_foreign, means}

-- the byte of a token that has one of its own, else 0
unfoldable pub code_of : Token → ℕ
code_of (digit d) = 0
code_of (variable a) = 0
code_of opening = 40
code_of closing = 41
code_of star = 42
code_of plus_sign = 43
code_of minus_sign = 45
code_of caret = 94
code_of foreign = 0

-- a token with a byte of its own comes from that byte
own_byte : {n b : ℕ} {t : Token} (k : ℕ) → Means n b t → code_of t ≡ suc k → b ≡ suc k
unfolding code_of
own_byte k (a_digit d h) e = absurd (omega (arith, e))
own_byte k (a_letter b h) e = absurd (omega (arith, e))
own_byte k an_opening e = e
own_byte k a_closing e = e
own_byte k a_star e = e
own_byte k a_plus e = e
own_byte k a_minus e = e
own_byte k a_caret e = e
own_byte k a_foreign e = absurd (omega (arith, e))

-- and so not from another one
pub not_byte : (n b k : ℕ) → eqb b (suc k) ≡ false → code_of (token n b) ≡ suc k → ⊥
not_byte n b k h e = omega (arith, eqb-false b (suc k) h, own_byte k (means n b) e)
