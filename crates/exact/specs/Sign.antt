-- The sign of a whole number, and the sign of the first number of a list that is not 0 (the lexicographic sign).
use Rattle.std.specs.Prelude.{suc, zero, Bool, true, false, List, [], ◌∷◌, ℤ, pos, negsuc}

pub data Sign : Type 0 where
  negative nought positive : Sign

unfoldable pub sign : ℤ → Sign
sign (pos zero) = nought
sign (pos (suc n)) = positive
sign (negsuc n) = negative

-- the first sign that is not nought, of two
unfoldable pub or_else : Sign → Sign → Sign
or_else negative t = negative
or_else nought t = t
or_else positive t = positive

-- the sign of the first number that is not 0; nought if there is none
unfoldable pub lex_sign : List ℤ → Sign
lex_sign [] = nought
lex_sign (x ∷ xs) = or_else (sign x) (lex_sign xs)

-- a test of equality of signs
unfoldable pub same_sign : Sign → Sign → Bool
same_sign negative negative = true
same_sign negative nought = false
same_sign negative positive = false
same_sign nought negative = false
same_sign nought nought = true
same_sign nought positive = false
same_sign positive negative = false
same_sign positive nought = false
same_sign positive positive = true
