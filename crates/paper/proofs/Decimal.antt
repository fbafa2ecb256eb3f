-- Numbers in base ten, as the listing prints them: the plain equations of `decimal`, which later proofs cite in place of its fuel;
-- how long a number can be; the numbers of a line one part after the other.
use Prim.Native.Nat.{ℕ, suc, zero, ◌+◌, ◌/◌, ◌%◌, ◌^◌, ◌≤◌, ◌<◌}
use mathlib.Core.Path.{◌≡◌, refl, sym, ap, subst, ◌∙◌}
use mathlib.Core.Bool.{Bool, true, false, cond}
use mathlib.Core.List.{List, [], ◌∷◌, ◌++◌, append_assoc}
use native.Mathlib.Omega.{arith}
use native.Mathlib.Nat.{mod-eq_of_lt, div-lt_iff_lt-mul, pow-suc}
use lib.IntN.{ℤ}
use lib.ListN.{length, length-append}
use lib.Dec.{ltb}
use borrow.Author.Tests.{lt-ltb, le-ltb}
use Rattle.paper.specs.Listing.{decimal_from, decimal, signed_decimal, blank_numbers}

-- ---- the digits in front of a text

pick_append : (t : Bool) (x : ℕ) {p : List ℕ} (q rest : List ℕ) → p ≡ q ++ rest → cond t (x ∷ rest) p ≡ cond t (x ∷ []) q ++ rest
pick_append true x q rest h = refl
pick_append false x q rest h = h

from_append : (d a : ℕ) (rest : List ℕ) → decimal_from d a rest ≡ decimal_from d a [] ++ rest
unfolding decimal_from
from_append zero a rest = refl
from_append (suc d) a rest =
    let x = 48 + a % 10 in
    pick_append (ltb a 10) (48 + a) (decimal_from d (a / 10) (x ∷ [])) rest
    (from_append d (a / 10) (x ∷ rest)
    ∙ sym (append_assoc (decimal_from d (a / 10) []) (x ∷ []) rest)
    ∙ ap (λ (l : List ℕ). l ++ rest) (sym (from_append d (a / 10) (x ∷ []))))

tenth_below : (d a : ℕ) → a < 10 ^ suc d → a / 10 < 10 ^ d
tenth_below d a h = (div-lt_iff_lt-mul {k = 10} (omega arith)).1 (subst (λ (m : ℕ). a < m) (pow-suc 10 d) h)

-- a place more changes nothing of a number that has room
from_more : (d a : ℕ) (rest : List ℕ) → a < 10 ^ suc d → decimal_from d a rest ≡ decimal_from (suc d) a rest
unfolding decimal_from
from_more zero a rest h = rw (lt-ltb a 10 h, mod-eq_of_lt h)
from_more (suc d) a rest h =
    ap (cond (ltb a 10) ((48 + a) ∷ rest))
    (from_more d (a / 10) ((48 + a % 10) ∷ rest) (tenth_below (suc d) a h))

-- ---- the equations

from_digit : (d a : ℕ) → a < 10 → decimal_from (suc d) a [] ≡ (48 + a) ∷ []
unfolding decimal_from
from_digit d a h = rw (lt-ltb a 10 h)

from_step : (d a : ℕ) → 10 ≤ a → decimal_from (suc d) a [] ≡ decimal_from d (a / 10) ((48 + a % 10) ∷ [])
unfolding decimal_from
from_step d a h = rw (le-ltb a 10 h)

from_digits : (d a : ℕ) → 10 ≤ a → a < 10 ^ suc (suc d)
    → decimal_from (suc d) a [] ≡ decimal_from (suc d) (a / 10) [] ++ ((48 + a % 10) ∷ [])
from_digits d a h l =
    from_step d a h
    ∙ from_append d (a / 10) ((48 + a % 10) ∷ [])
    ∙ ap (λ (t : List ℕ). t ++ ((48 + a % 10) ∷ [])) (from_more d (a / 10) [] (tenth_below (suc d) a l))

pub decimal_digit : (a : ℕ) → a < 10 → decimal a ≡ (48 + a) ∷ []
unfolding decimal
decimal_digit a h = from_digit 18 a h

pub decimal_digits : (a : ℕ) → 10 ≤ a → a < 10 ^ 20 → decimal a ≡ decimal (a / 10) ++ ((48 + a % 10) ∷ [])
unfolding decimal
decimal_digits a h l = from_digits 18 a h l

-- ---- how long a number can be

pick_short : (t : Bool) (u v : List ℕ) {m : ℕ} → length u ≤ m → length v ≤ m → length (cond t u v) ≤ m
pick_short true u v h k = h
pick_short false u v h k = k

from_short : (d a : ℕ) (rest : List ℕ) → length (decimal_from d a rest) ≤ suc d + length rest
unfolding decimal_from
from_short zero a rest = omega arith
from_short (suc d) a rest =
    pick_short (ltb a 10) ((48 + a) ∷ rest) (decimal_from d (a / 10) ((48 + a % 10) ∷ rest)) (omega arith)
    (omega (arith, from_short d (a / 10) ((48 + a % 10) ∷ rest)))

pub decimal_short : (a : ℕ) → length (decimal a) ≤ 20
unfolding decimal
decimal_short a = from_short 19 a []

-- all digits but the last are one fewer
pub decimal_tenth_short : (a : ℕ) → 10 ≤ a → a < 10 ^ 20 → length (decimal (a / 10)) + 1 ≤ 20
decimal_tenth_short a h l =
    rw (decimal_digits a h l, length-append) at (decimal_short a)

-- ---- the numbers of a line

pub blank_append : (u v : List ℤ) → blank_numbers (u ++ v) ≡ blank_numbers u ++ blank_numbers v
unfolding blank_numbers
blank_append [] v = refl
blank_append (x ∷ u) v =
    ap (λ (l : List ℕ). 32 ∷ l)
    (ap (λ (l : List ℕ). signed_decimal x ++ l) (blank_append u v)
    ∙ sym (append_assoc (signed_decimal x) (blank_numbers u) (blank_numbers v)))
