-- The language of formulas: document 02, request 2.1, with the letter w of request 2.12. A text is the list of its bytes. What a text is, is said here
-- without a reader.
use Rattle.std.specs.Prelude.{ℕ, suc, ◌+◌, ◌*◌, ◌≤◌, ◌<◌, ◌≡◌, Bool, true, cond, ◌&&◌, ◌||◌, List, [], ◌∷◌, ◌++◌, eqb, leb, ltb}

-- a reading; a letter is its axis, counted from 0
pub data Formula : Type 0 where
  number : ℕ → Formula
  letter : ℕ → Formula
  parens : Formula → Formula
  raised : Formula → ℕ → Formula
  times : Formula → Formula → Formula
  plus : Formula → Formula → Formula
  minus : Formula → Formula → Formula
  negative : Formula → Formula

-- the larger of two numbers
unfoldable pub larger : ℕ → ℕ → ℕ
larger a b = cond (leb a b) b a

-- how deep parentheses nest
unfoldable pub nesting : Formula → ℕ
nesting (number v) = 0
nesting (letter a) = 0
nesting (parens f) = suc (nesting f)
nesting (raised f k) = nesting f
nesting (times f g) = larger (nesting f) (nesting g)
nesting (plus f g) = larger (nesting f) (nesting g)
nesting (minus f g) = larger (nesting f) (nesting g)
nesting (negative f) = nesting f

-- k digits with the value v
pub data Digits : ℕ → ℕ → List ℕ → Type 0 where
  one_digit : (d : ℕ) → d < 10 → Digits 1 d ((48 + d) ∷ [])
  more_digits : {k v : ℕ} {u : List ℕ} → Digits k v u → (d : ℕ) → d < 10 → Digits (suc k) (10 * v + d) (u ++ ((48 + d) ∷ []))

-- x, y, z and w for axes 1 to 4
unfoldable pub axis_of : ℕ → ℕ
axis_of b = cond (eqb b 120) 0 (cond (eqb b 121) 1 (cond (eqb b 122) 2 3))

-- a letter of dimension n
unfoldable pub is_letter : ℕ → ℕ → Bool
is_letter n b = (eqb b 120 || (eqb b 121 || (eqb b 122 || eqb b 119))) && ltb (axis_of b) n

pub data Kind : Type 0 where
  sum : Kind
  product : Kind
  power : Kind
  atom : Kind

-- The texts of each kind, with their readings: ( is 40, ) is 41, * is 42, + is 43, - is 45 and ^ is 94.
pub data Text (n : ℕ) : Kind → Formula → List ℕ → Type 0 where
  -- an atom is a number, a letter or a sum in parentheses; a number has 1 to 7 digits
  of_number : {k v : ℕ} {u : List ℕ} → Digits k v u → k ≤ 7 → Text n atom (number v) u
  of_letter : (b : ℕ) → is_letter n b ≡ true → Text n atom (letter (axis_of b)) (b ∷ [])
  of_parens : {f : Formula} {u : List ℕ} → Text n sum f u → Text n atom (parens f) (40 ∷ (u ++ (41 ∷ [])))
  -- a power is an atom with an optional exponent, one digit 0 to 4
  of_atom : {f : Formula} {u : List ℕ} → Text n atom f u → Text n power f u
  of_raised : {f : Formula} {u : List ℕ} → Text n atom f u → (d : ℕ) → d ≤ 4 → Text n power (raised f d) (u ++ (94 ∷ (48 + d) ∷ []))
  -- a product is powers joined by stars
  of_power : {f : Formula} {u : List ℕ} → Text n power f u → Text n product f u
  of_times : {f g : Formula} {u w : List ℕ} → Text n product f u → Text n power g w → Text n product (times f g) (u ++ (42 ∷ w))
  -- a sum is an optional minus and products joined by plus or minus; the optional minus takes the first product only
  of_product : {f : Formula} {u : List ℕ} → Text n product f u → Text n sum f u
  of_negative : {f : Formula} {u : List ℕ} → Text n product f u → Text n sum (negative f) (45 ∷ u)
  of_plus : {f g : Formula} {u w : List ℕ} → Text n sum f u → Text n product g w → Text n sum (plus f g) (u ++ (43 ∷ w))
  of_minus : {f g : Formula} {u w : List ℕ} → Text n sum f u → Text n product g w → Text n sum (minus f g) (u ++ (45 ∷ w))
