-- What a byte is: the bytes of each token, and the token of each byte.
use Prim.Native.Nat.{ℕ, ◌+◌, ◌-◌, ◌<◌}
use mathlib.Core.Path.{◌≡◌, refl, sym, ap, subst}
use mathlib.Core.Bool.{Bool, true, false, cond, ◌&&◌, false≢true}
use native.Mathlib.Omega.{arith}
use lib.Dec.{eqb, leb}
use borrow.Author.Tests.{eqb-true, leb-true, le-leb, ne_eqb}
use Rattle.exact.proofs.AndTests.{and_left, and_right, and-false}
use Rattle.formula.specs.Grammar.{axis_of, is_letter}
use Rattle.formula.specs.Reader.{Token, digit, variable, opening, closing, star, plus_sign, minus_sign, caret, foreign, token}

-- ---- the token of a byte that the grammar names

pub token_digit : (n d : ℕ) → d < 10 → token n (48 + d) ≡ digit d
unfolding token
token_digit n d h =
    let same : 48 + d - 48 ≡ d = omega arith in
    rw (le-leb 48 (48 + d) (omega arith), le-leb (48 + d) 57 (omega arith)) (ap digit same)

-- no letter is a digit
letter_high : (n b : ℕ) → is_letter n b ≡ true → leb b 57 ≡ false
unfolding is_letter
letter_high n b h = go (leb b 57) refl
  where
    go : (x : Bool) → leb b 57 ≡ x → leb b 57 ≡ false
    go false e = e
    go true e =
        let low = leb-true b 57 e in
        let other : (k : ℕ) → 57 < k → eqb b k ≡ false = λ k l. ne_eqb b k (omega arith) in
        absurd (false≢true (rw (other 120 (omega arith), other 121 (omega arith), other 122 (omega arith), other 119 (omega arith)) at h))

pub token_letter : (n b : ℕ) → is_letter n b ≡ true → token n b ≡ variable (axis_of b)
unfolding token
token_letter n b h = rw (and-false (leb 48 b) (letter_high n b h), h)

-- ---- and the other way round

pub data Means (n : ℕ) : ℕ → Token → Type 0 where
  a_digit : (d : ℕ) → d < 10 → Means n (48 + d) (digit d)
  a_letter : (b : ℕ) → is_letter n b ≡ true → Means n b (variable (axis_of b))
  an_opening : Means n 40 opening
  a_closing : Means n 41 closing
  a_star : Means n 42 star
  a_plus : Means n 43 plus_sign
  a_minus : Means n 45 minus_sign
  a_caret : Means n 94 caret
  a_foreign : {b : ℕ} → Means n b foreign

pub means : (n b : ℕ) → Means n b (token n b)
unfolding token
means n b =
    choose (leb 48 b && leb b 57) digits (choose (is_letter n b) (a_letter b)
    (choose (eqb b 40) (byte an_opening) (choose (eqb b 41) (byte a_closing) (choose (eqb b 42) (byte a_star)
    (choose (eqb b 43) (byte a_plus) (choose (eqb b 45) (byte a_minus) (choose (eqb b 94) (byte a_caret) a_foreign)))))))
  where
    choose : {x y : Token} (t : Bool) → (t ≡ true → Means n b x) → Means n b y → Means n b (cond t x y)
    choose true f m = f refl
    choose false f m = m

    byte : {k : ℕ} {x : Token} → Means n k x → eqb b k ≡ true → Means n b x
    byte {k} {x} m h = subst (λ c. Means n c x) (sym (eqb-true b k h)) m

    digits : (leb 48 b && leb b 57) ≡ true → Means n b (digit (b - 48))
    digits h =
        let low = leb-true 48 b (and_left (leb 48 b) (leb b 57) h) in
        let high = leb-true b 57 (and_right (leb 48 b) (leb b 57) h) in
        let same : 48 + (b - 48) ≡ b = omega arith in
        subst (λ c. Means n c (digit (b - 48))) same (a_digit (b - 48) (omega arith))
