-- The letters of a reading: under the dimension, and never more than four.
use Prim.Native.Nat.{ℕ, ◌<◌}
use mathlib.Core.Path.{◌≡◌, refl}
use mathlib.Core.Bool.{Bool, true, false, cond, ◌&&◌, ◌||◌}
use mathlib.Core.List.{List}
use lib.Dec.{eqb, ltb, lit<}
use Rattle.exact.proofs.AndTests.{and_right, and-true}
use Rattle.formula.specs.Grammar.{Formula, number, letter, parens, raised, times, plus, minus, negative, axis_of, is_letter, Kind, Text, of_number, of_letter, of_parens, of_atom, of_raised, of_power, of_times, of_product, of_negative, of_plus, of_minus}

-- every letter's axis is under n
unfoldable pub letters_under : ℕ → Formula → Bool
letters_under n (number v) = true
letters_under n (letter a) = ltb a n
letters_under n (parens f) = letters_under n f
letters_under n (raised f k) = letters_under n f
letters_under n (times f g) = letters_under n f && letters_under n g
letters_under n (plus f g) = letters_under n f && letters_under n g
letters_under n (minus f g) = letters_under n f && letters_under n g
letters_under n (negative f) = letters_under n f

-- there are four letters
pub axis_under_four : (b : ℕ) → axis_of b < 4
unfolding axis_of
axis_under_four b = go (eqb b 120) (eqb b 121) (eqb b 122)
  where
    go : (x y z : Bool) → cond x 0 (cond y 1 (cond z 2 3)) < 4
    go true y z = lit< tt
    go false true z = lit< tt
    go false false true = lit< tt
    go false false false = lit< tt

letter_under : (n b : ℕ) → is_letter n b ≡ true → ltb (axis_of b) n ≡ true
unfolding is_letter
letter_under n b h = and_right (eqb b 120 || (eqb b 121 || (eqb b 122 || eqb b 119))) (ltb (axis_of b) n) h

-- what holds of the axis of every letter that the text may have holds of its reading
under :
    {n : ℕ} {k : Kind} {f : Formula} {s : List ℕ} (m : ℕ) → ((b : ℕ) → is_letter n b ≡ true → ltb (axis_of b) m ≡ true) → Text n k f s
    → letters_under m f ≡ true
unfolding letters_under
under m l (of_number d h) = refl
under m l (of_letter b h) = l b h
under m l (of_parens t) = under m l t
under m l (of_atom t) = under m l t
under m l (of_raised t d h) = under m l t
under m l (of_power t) = under m l t
under m l (of_times t w) = and-true (under m l t) (under m l w)
under m l (of_product t) = under m l t
under m l (of_negative t) = under m l t
under m l (of_plus t w) = and-true (under m l t) (under m l w)
under m l (of_minus t w) = and-true (under m l t) (under m l w)

pub letters_under_lem : {n : ℕ} {k : Kind} {f : Formula} {s : List ℕ} → Text n k f s → letters_under n f ≡ true
letters_under_lem {n} t = under n (letter_under n) t
