-- Whether a text is a formula, by one pass that holds no part of the formula: of the reader's state only where it stands and how many parentheses are
-- open decide. That the pass answers as the reader does is proved (`pass_reads`).
use Rattle.std.specs.Prelude.{ℕ, suc, ◌+◌, ◌-◌, Bool, cond, ◌&&◌, List, [], ◌∷◌, eqb, leb, ltb}
use Rattle.formula.specs.Reader.{Token, digit, variable, opening, closing, star, plus_sign, minus_sign, caret, foreign, token}

-- ---- modes: where the pass stands. Numbers, in an order in which the modes that a token may follow are a range

-- outside the language
unfoldable pub outside_mode : ℕ
outside_mode = 0

-- behind ^
unfoldable pub exponent_next : ℕ
exponent_next = 1

-- before an atom
unfoldable pub atom_next : ℕ
atom_next = 2

-- before a sum, where a minus may stand
unfoldable pub sum_next : ℕ
sum_next = 3

-- behind an exponent
unfoldable pub power_read : ℕ
power_read = 4

-- behind a letter or a closing parenthesis
unfoldable pub atom_read : ℕ
atom_read = 5

-- behind k digits
unfoldable pub digits_read : ℕ → ℕ
digits_read k = 6 + k

-- ---- a step

unfoldable pub only : Bool → ℕ → ℕ
only allowed m = cond allowed m outside_mode

unfoldable pub expects_atom : ℕ → Bool
expects_atom m = leb atom_next m && leb m sum_next

-- a digit is an exponent, the first one of a number or a further one, up to 7
unfoldable pub after_digit : ℕ → ℕ → ℕ
after_digit m d =
    cond (eqb m exponent_next && leb d 4) power_read
    (cond (expects_atom m) (digits_read 1) (only (leb (digits_read 0) m && ltb m (digits_read 7)) (suc m)))

-- the mode behind a token; parentheses nest no deeper than the limit
unfoldable pub next_mode : ℕ → ℕ → ℕ → Token → ℕ
next_mode limit depth m (digit d) = after_digit m d
next_mode limit depth m (variable a) = only (expects_atom m) atom_read
next_mode limit depth m opening = only (expects_atom m && ltb depth limit) sum_next
next_mode limit depth m closing = only (leb power_read m && ltb 0 depth) atom_read
next_mode limit depth m star = only (leb power_read m) atom_next
next_mode limit depth m plus_sign = only (leb power_read m) atom_next
next_mode limit depth m minus_sign = only (leb sum_next m) atom_next
next_mode limit depth m caret = only (leb atom_read m) exponent_next
next_mode limit depth m foreign = outside_mode

-- how many parentheses are open behind a token; where one more is too many, or there is none to close, the mode says so
unfoldable pub next_depth : ℕ → ℕ → Token → ℕ
next_depth limit depth opening = cond (ltb depth limit) (suc depth) depth
next_depth limit depth closing = depth - 1
next_depth limit depth (digit d) = depth
next_depth limit depth (variable a) = depth
next_depth limit depth star = depth
next_depth limit depth plus_sign = depth
next_depth limit depth minus_sign = depth
next_depth limit depth caret = depth
next_depth limit depth foreign = depth

-- ---- the pass

-- the text may end behind an atom or a power, if no parenthesis is open
unfoldable pub pass_from : ℕ → ℕ → ℕ → ℕ → List ℕ → Bool
pass_from limit n m depth [] = leb power_read m && eqb depth 0
pass_from limit n m depth (b ∷ s) = pass_from limit n (next_mode limit depth m (token n b)) (next_depth limit depth (token n b)) s

-- the text is a formula of dimension n whose parentheses nest no deeper than the limit
unfoldable pub formula_within : ℕ → ℕ → List ℕ → Bool
formula_within limit n s = pass_from limit n sum_next 0 s
