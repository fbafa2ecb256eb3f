-- A number of steps in millimetres: what the float is, and that dividing the cast number by 1024 gives it without rounding.
-- Two floats of one format with the same sign and the same value have the same bits, so they are the same. The quotient and the definition's
-- float are such a pair for every number of steps that 53 binary digits hold.
use mathlib.Core.Path.{◌≡◌, refl, sym, ap, ◌∙◌, subst}
use mathlib.Core.Bool.{Bool, true, false, not, cond}
use mathlib.Core.Logic.{◌⊎◌, inl, inr}
use Prim.Native.Nat.{ℕ, zero, suc, ◌+◌, ◌-◌, ◌*◌, ◌/◌, ◌^◌, ◌≤◌, ◌<◌}
use native.Mathlib.Nat.{eq_of_mul-eq-mul_right, eq-or-lt_of_le, mul-one, mul_assoc, zero-add, lt_of_lt_of_le, lt_of_le_of_lt}
use native.Mathlib.Omega.{arith}
use borrow.Author.Tests.{le-leb, lt-leb, leb-true, leb-false}
use lib.Dec.{T, leb, le→leb, lt→ltb, lit<, lit≤}
use lib.Pow.{pow_mono, shl_lt}
use lib.Count.{count_trailing_zeros}
use lib.IntN.{ℤ, pos, negsuc, nat_abs}
use lib.Signed.{non_neg}
use lib.Ieee.{Float, fin, Format, binary64, prec, low, top, hid, up, down, minus, size, unlike, odd, round, div, of_int, in_float, fits, of_bits, to_bits}
use lib.Ieee.Bits.{of_bits-to_bits}
use lib.Ieee.Back.{round_whole}
use lib.Ieee.Exact.{HasValue, odd_sign, round_exact}
use lib.Ieee.Fits.{down_pos, odd-fits, round-fits}
use lib.Ieee.Nearest.{div_same}
use lib.Ieee.Scale.{round_same}
use Rattle.paper.specs.Pen.{millimetre}

-- ---- a value of a format is written in one way

-- x / de and y / dg are the same fraction a / c
cross : (x y de dg a c l : ℕ) → 0 < c → x * c ≡ a * de → y * c ≡ a * dg → x * l * dg ≡ y * l * de
cross x y de dg a c l p v w =
    eq_of_mul-eq-mul_right c p (x * l * dg) (y * l * de)
    (left ∙ ap (λ t. t * (l * dg)) v ∙ middle ∙ ap (λ t. t * (l * de)) (sym w) ∙ right)
  where
    left : x * l * dg * c ≡ x * c * (l * dg)
    left = omega arith

    middle : a * de * (l * dg) ≡ a * dg * (l * de)
    middle = omega arith

    right : y * c * (l * de) ≡ y * l * de * c
    right = omega arith

-- the pattern of a sign and a number of the format's smallest values
abbrev pattern : Format → Bool → ℕ → ℕ
pattern f s n = cond s (top f) 0 + (size n - prec f) * hid f + n / 2 ^ (size n - prec f)

value_unique :
    (f : Format) (x y : Float) (s : Bool) (a c : ℕ) → 0 < c → T (fits f x) → T (fits f y) → HasValue x s a c → HasValue y s a c → x ≡ y
unfolding to_bits
value_unique f lib.Ieee.nan y s a c p hx hy v w = elim v [ ]
value_unique f (lib.Ieee.inf _) y s a c p hx hy v w = elim v [ ]
value_unique f (fin t m e) lib.Ieee.nan s a c p hx hy v w = elim w [ ]
value_unique f (fin t m e) (lib.Ieee.inf _) s a c p hx hy v w = elim w [ ]
value_unique f (fin t m e) (fin u n g) s a c p hx hy v w =
    sym (of_bits-to_bits f (fin t m e) hx) ∙ ap (of_bits f) same ∙ of_bits-to_bits f (fin u n g) hy
  where
    units : m * up e * 2 ^ low f / down e ≡ n * up g * 2 ^ low f / down g
    units =
        div_same (m * up e * 2 ^ low f) (down e) (n * up g * 2 ^ low f) (down g) (down_pos e) (down_pos g)
        (cross (m * up e) (n * up g) (down e) (down g) a c (2 ^ low f) p v.1 w.1)

    same : to_bits f (fin t m e) ≡ to_bits f (fin u n g)
    same = λ i. pattern f ((v.0 ∙ sym w.0) i) (units i)

-- ---- the definition's float

-- both exponents of a difference raised alike
minus_shift : (j a l : ℕ) → minus (j + a) (j + l) ≡ minus a l
minus_shift j a l = go (leb l a) refl
  where
    go : (b : Bool) → leb l a ≡ b → minus (j + a) (j + l) ≡ minus a l
    go true e =
        let h : l ≤ a = leb-true l a e in
        let d : j + a - (j + l) ≡ a - l = omega arith in
        simp (le-leb (j + l) (j + a) (omega arith), e, d)
    go false e =
        let h : a < l = leb-false l a e in
        let d : j + l - suc (j + a) ≡ l - suc a = omega arith in
        simp (lt-leb (j + l) (j + a) (omega arith), e, d)

odd_shift : (d : ℕ) (s : Bool) (q j l : ℕ) → odd d s q j (j + l) ≡ odd d s q 0 l
unfolding odd
odd_shift d s zero j l = refl
odd_shift d s (suc q) j l =
    let t = count_trailing_zeros d (suc q) in
    ap (fin s (suc q / 2 ^ t)) (minus_shift j t l ∙ ap (λ x. minus x l) (sym (zero-add t)))

-- it is one of the format's: a · 2 ^ 1064 times the smallest, which is 2 ^ − 1074
odd_fits_binary64 : (s : Bool) (a : ℕ) → a ≤ 2 ^ 53 → T (fits binary64 (odd 54 s a 0 10))
odd_fits_binary64 s a h =
    let digits : a < 2 ^ 54 = lt_of_le_of_lt h (lit< tt) in
    subst (λ x. T (fits binary64 x)) (odd_shift 54 s a 1064 10)
    (odd-fits binary64 54 s a 1064 digits h (lt_of_lt_of_le (shl_lt 54 1064 digits) (pow_mono {i = 1118} {j = 2098} (lit≤ tt))))

odd_value : (s : Bool) (a : ℕ) → HasValue (odd 54 s a 0 10) s a 1024
odd_value s a = subst (λ x. HasValue (odd 54 s a 0 10) s x 1024) (mul-one a) (odd_sign 54 s a 0 10)

-- ---- the quotient

-- a / 1024 is a value of the format
rounded_value : (s : Bool) (a : ℕ) → a ≤ 2 ^ 53 → HasValue (round binary64 s a 1024) s a 1024
rounded_value s a h = go (eq-or-lt_of_le h)
  where
    go : (a ≡ 2 ^ 53) ⊎ (a < 2 ^ 53) → HasValue (round binary64 s a 1024) s a 1024
    go (inl e) =
        subst (λ x. HasValue (round binary64 s x 1024) s x 1024) (sym e)
        (round_exact binary64 s (2 ^ 53) 1024 1 1117 (lit< tt) (lit< tt) (lit< tt) refl)
    go (inr l) =
        round_exact binary64 s a 1024 a 1064 (lit< tt) l
        (lt_of_lt_of_le (shl_lt 53 1064 l) (pow_mono {i = 1117} {j = 2098} (lit≤ tt)))
        (sym (mul_assoc a (2 ^ 1064) 1024))

unlike_false : (t : Bool) → unlike t false ≡ t
unlike_false true = refl
unlike_false false = refl

quotient : (s : Bool) (a : ℕ) → a ≤ 2 ^ 53 → (x : Float) → HasValue x s a 1 → div binary64 x (fin false 1 (pos 10)) ≡ odd 54 s a 0 10
unfolding div
quotient s a h lib.Ieee.nan v = elim v [ ]
quotient s a h (lib.Ieee.inf _) v = elim v [ ]
quotient s a h (fin t m e) v =
    ap (λ u. round binary64 u (m * up e * 1) (1 * 2 ^ 10 * down e)) (unlike_false t ∙ v.0)
    ∙ round_same binary64 s (m * up e * 1) (1 * 2 ^ 10 * down e) a 1024 positive (lit< tt) same
    ∙ value_unique binary64 (round binary64 s a 1024) (odd 54 s a 0 10) s a 1024 (lit< tt) (round-fits binary64 s a 1024)
    (odd_fits_binary64 s a h) (rounded_value s a h) (odd_value s a)
  where
    positive : 0 < 1 * 2 ^ 10 * down e
    positive = omega (arith, down_pos e)

    same : m * up e * 1 * 1024 ≡ a * (1 * 2 ^ 10 * down e)
    same = ap (λ x. x * 1024) v.1 ∙ (let r : a * down e * 1024 ≡ a * (1024 * down e) = omega arith in r)

-- ---- the theorems

-- the float is finite, has the sign of the number, and its size is exactly the number's over 1024
pub millimetre_value : (z : ℤ) → HasValue (millimetre z) (not (non_neg z)) (nat_abs z) 1024
unfolding millimetre
millimetre_value (pos a) = odd_value false a
millimetre_value (negsuc a) = odd_value true (suc a)

pub millimetre_zero : millimetre (pos 0) ≡ fin false 0 (pos 0)
unfolding millimetre odd
millimetre_zero = refl

-- a 64-bit float holds it
pub millimetre_fits : (z : ℤ) → nat_abs z ≤ 2 ^ 53 → T (fits binary64 (millimetre z))
unfolding millimetre
millimetre_fits (pos a) h = odd_fits_binary64 false a h
millimetre_fits (negsuc a) h = odd_fits_binary64 true (suc a) h

-- the number cast, then divided by 1024 = 1 · 2 ^ 10, with no rounding
pub cast_divided : (z : ℤ) → nat_abs z ≤ 2 ^ 53 → div binary64 (of_int binary64 z) (fin false 1 (pos 10)) ≡ millimetre z
unfolding millimetre of_int
cast_divided (pos a) h = quotient false a h (round binary64 false a 1) (round_whole binary64 false a h)
cast_divided (negsuc a) h = quotient true (suc a) h (round binary64 true (suc a) 1) (round_whole binary64 true (suc a) h)

-- what the cast asks: it loses nothing
pub cast_exact : (z : ℤ) → nat_abs z ≤ 2 ^ 53 → T (in_float binary64 z)
unfolding in_float
cast_exact (pos a) h = le→leb a (2 ^ 53) h
cast_exact (negsuc a) h = lt→ltb a (2 ^ 53) h
