-- A reader of the language, one step a byte. That it reads exactly the texts of Grammar.antt, with their readings, is proved (`formula_read`,
-- `read_formula`).
use Rattle.std.specs.Prelude.{ℕ, suc, ◌+◌, ◌*◌, ◌-◌, Bool, true, false, cond, ◌&&◌, List, [], ◌∷◌, length, eqb, leb, ltb}
use Rattle.formula.specs.Grammar.{Formula, number, letter, parens, raised, times, plus, minus, negative, axis_of, is_letter}

-- what a byte is in dimension n; a digit has its value, a letter its axis
pub data Token : Type 0 where
  digit : ℕ → Token
  variable : ℕ → Token
  opening : Token
  closing : Token
  star : Token
  plus_sign : Token
  minus_sign : Token
  caret : Token
  foreign : Token

unfoldable pub token : ℕ → ℕ → Token
token n b =
    cond (leb 48 b && leb b 57) (digit (b - 48))
    (cond (is_letter n b) (variable (axis_of b))
    (cond (eqb b 40) opening
    (cond (eqb b 41) closing
    (cond (eqb b 42) star
    (cond (eqb b 43) plus_sign
    (cond (eqb b 45) minus_sign
    (cond (eqb b 94) caret foreign)))))))

-- the sum so far, before its next product: nothing, an optional minus, or a sum and the sign behind it
pub data Left : Type 0 where
  none : Left
  negated : Left
  added : Formula → Left
  taken : Formula → Left

unfoldable pub sum_with : Left → Formula → Formula
sum_with none p = p
sum_with negated p = negative p
sum_with (added s) p = plus s p
sum_with (taken s) p = minus s p

-- the product so far, before its next power
pub data Factor : Type 0 where
  one : Factor
  by : Formula → Factor

unfoldable pub product_with : Factor → Formula → Formula
product_with one f = f
product_with (by p) f = times p f

-- what waits outside an open parenthesis
pub record Level : Type 0 where
  pub left : Left
  pub factor : Factor

-- between two bytes, with the levels of the open parentheses: before an atom (before a sum, where a minus may stand, or not), behind some digits of a
-- number, behind an atom, behind ^, behind a power, behind a sum; or the text is outside
pub data State : Type 0 where
  expect : Bool → Left → Factor → List Level → State
  in_number : ℕ → ℕ → Left → Factor → List Level → State
  after_atom : Formula → Left → Factor → List Level → State
  after_caret : Formula → Left → Factor → List Level → State
  in_product : Formula → Left → List Level → State
  in_sum : Formula → List Level → State
  failed : State

-- a parenthesis closes
unfoldable pub closed : Formula → List Level → State
closed s [] = failed
closed s (l ∷ ls) = after_atom (parens s) l.left l.factor ls

unfoldable pub step_sum : Formula → List Level → Token → State
step_sum s ls plus_sign = expect false (added s) one ls
step_sum s ls minus_sign = expect false (taken s) one ls
step_sum s ls closing = closed s ls
step_sum s ls (digit d) = failed
step_sum s ls (variable a) = failed
step_sum s ls opening = failed
step_sum s ls star = failed
step_sum s ls caret = failed
step_sum s ls foreign = failed

unfoldable pub step_product : Formula → Left → List Level → Token → State
step_product p l ls star = expect false l (by p) ls
step_product p l ls (digit d) = step_sum (sum_with l p) ls (digit d)
step_product p l ls (variable a) = step_sum (sum_with l p) ls (variable a)
step_product p l ls opening = step_sum (sum_with l p) ls opening
step_product p l ls closing = step_sum (sum_with l p) ls closing
step_product p l ls plus_sign = step_sum (sum_with l p) ls plus_sign
step_product p l ls minus_sign = step_sum (sum_with l p) ls minus_sign
step_product p l ls caret = step_sum (sum_with l p) ls caret
step_product p l ls foreign = step_sum (sum_with l p) ls foreign

unfoldable pub step_atom : Formula → Left → Factor → List Level → Token → State
step_atom f l b ls caret = after_caret f l b ls
step_atom f l b ls (digit d) = step_product (product_with b f) l ls (digit d)
step_atom f l b ls (variable a) = step_product (product_with b f) l ls (variable a)
step_atom f l b ls opening = step_product (product_with b f) l ls opening
step_atom f l b ls closing = step_product (product_with b f) l ls closing
step_atom f l b ls star = step_product (product_with b f) l ls star
step_atom f l b ls plus_sign = step_product (product_with b f) l ls plus_sign
step_atom f l b ls minus_sign = step_product (product_with b f) l ls minus_sign
step_atom f l b ls foreign = step_product (product_with b f) l ls foreign

unfoldable pub step_number : ℕ → ℕ → Left → Factor → List Level → Token → State
step_number k v l b ls (digit d) = cond (ltb k 7) (in_number (suc k) (10 * v + d) l b ls) failed
step_number k v l b ls (variable a) = step_atom (number v) l b ls (variable a)
step_number k v l b ls opening = step_atom (number v) l b ls opening
step_number k v l b ls closing = step_atom (number v) l b ls closing
step_number k v l b ls star = step_atom (number v) l b ls star
step_number k v l b ls plus_sign = step_atom (number v) l b ls plus_sign
step_number k v l b ls minus_sign = step_atom (number v) l b ls minus_sign
step_number k v l b ls caret = step_atom (number v) l b ls caret
step_number k v l b ls foreign = step_atom (number v) l b ls foreign

unfoldable pub step_caret : Formula → Left → Factor → List Level → Token → State
step_caret f l b ls (digit d) = cond (leb d 4) (in_product (product_with b (raised f d)) l ls) failed
step_caret f l b ls (variable a) = failed
step_caret f l b ls opening = failed
step_caret f l b ls closing = failed
step_caret f l b ls star = failed
step_caret f l b ls plus_sign = failed
step_caret f l b ls minus_sign = failed
step_caret f l b ls caret = failed
step_caret f l b ls foreign = failed

-- parentheses nest no deeper than the limit
unfoldable pub step_expect : ℕ → Bool → Left → Factor → List Level → Token → State
step_expect limit m l b ls (digit d) = in_number 1 d l b ls
step_expect limit m l b ls (variable a) = after_atom (letter a) l b ls
step_expect limit m l b ls opening =
    cond (ltb (length ls) limit) (expect true none one (record { left = l; factor = b } ∷ ls)) failed
step_expect limit m l b ls minus_sign = cond m (expect false negated b ls) failed
step_expect limit m l b ls closing = failed
step_expect limit m l b ls star = failed
step_expect limit m l b ls plus_sign = failed
step_expect limit m l b ls caret = failed
step_expect limit m l b ls foreign = failed

unfoldable pub step : ℕ → State → Token → State
step limit (expect m l b ls) t = step_expect limit m l b ls t
step limit (in_number k v l b ls) t = step_number k v l b ls t
step limit (after_atom f l b ls) t = step_atom f l b ls t
step limit (after_caret f l b ls) t = step_caret f l b ls t
step limit (in_product p l ls) t = step_product p l ls t
step limit (in_sum s ls) t = step_sum s ls t
step limit failed t = failed

pub data Reading : Type 0 where
  outside : Reading
  reads : Formula → Reading

-- the text may end behind a sum, if no parenthesis is open
unfoldable pub ends : Formula → List Level → Reading
ends s [] = reads s
ends s (l ∷ ls) = outside

unfoldable pub finish : State → Reading
finish (expect m l b ls) = outside
finish (in_number k v l b ls) = ends (sum_with l (product_with b (number v))) ls
finish (after_atom f l b ls) = ends (sum_with l (product_with b f)) ls
finish (after_caret f l b ls) = outside
finish (in_product p l ls) = ends (sum_with l p) ls
finish (in_sum s ls) = ends s ls
finish failed = outside

unfoldable pub run : ℕ → ℕ → State → List ℕ → Reading
run limit n q [] = finish q
run limit n q (b ∷ s) = run limit n (step limit q (token n b)) s

-- the reading of a text in dimension n whose parentheses nest no deeper than the limit
unfoldable pub reading_of : ℕ → ℕ → List ℕ → Reading
reading_of limit n s = run limit n (expect true none one []) s
