-- How deep parentheses nest: the larger of two numbers, and no text nests deeper than it is long.
use Prim.Native.Nat.{ℕ, ◌+◌, ◌-◌, ◌≤◌}
use mathlib.Core.Path.{◌≡◌, refl}
use mathlib.Core.Bool.{Bool, true, false}
use mathlib.Core.List.{List, [], ◌∷◌, ◌++◌}
use native.Mathlib.Omega.{arith}
use lib.Dec.{leb}
use lib.ListN.{length, length-append}
use borrow.Author.Tests.{leb-true, leb-false}
use Rattle.formula.specs.Grammar.{Formula, larger, nesting, Kind, Text, of_number, of_letter, of_parens, of_atom, of_raised, of_power, of_times, of_product, of_negative, of_plus, of_minus}

record Larger (a b c : ℕ) : Type 0 where
  left : a ≤ c
  right : b ≤ c
  least : (d : ℕ) → a ≤ d → b ≤ d → c ≤ d

larger_is : (a b : ℕ) → Larger a b (larger a b)
unfolding larger
larger_is a b = go (leb a b) refl
  where
    go : (x : Bool) → leb a b ≡ x → Larger a b (larger a b)
    go true e = let l = leb-true a b e in rw e (record { left = l; right = omega arith; least = λ d p q. q })
    go false e = let l = leb-false a b e in rw e (record { left = omega arith; right = omega arith; least = λ d p q. p })

pub larger_left : (a b d : ℕ) {m : ℕ} → larger a b + d ≤ m → a + d ≤ m
larger_left a b d h = let l = (larger_is a b).left in omega arith

pub larger_right : (a b d : ℕ) {m : ℕ} → larger a b + d ≤ m → b + d ≤ m
larger_right a b d h = let l = (larger_is a b).right in omega arith

pub larger_within : (a b d : ℕ) {m : ℕ} → a + d ≤ m → b + d ≤ m → larger a b + d ≤ m
larger_within a b d {m} h k = let l = (larger_is a b).least (m - d) (omega arith) (omega arith) in omega arith

-- two operands with a byte between them
joined : (f g : Formula) (u w : List ℕ) (c : ℕ) → nesting f ≤ length u → nesting g ≤ length w → larger (nesting f) (nesting g) ≤ length (u ++ (c ∷ w))
joined f g u w c h k =
    let l = larger_within (nesting f) (nesting g) 0 {m = length u + length w} (omega arith) (omega arith) in
    rw (length-append u (c ∷ w)) (omega arith)

pub nesting_short : {n : ℕ} {k : Kind} {f : Formula} {s : List ℕ} → Text n k f s → nesting f ≤ length s
unfolding nesting
nesting_short (of_number d h) = omega arith
nesting_short (of_letter b h) = omega arith
nesting_short (of_parens {f} {u} t) = let l = nesting_short t in omega (arith, length-append u (41 ∷ []))
nesting_short (of_atom t) = nesting_short t
nesting_short (of_raised {f} {u} t d h) = let l = nesting_short t in rw (length-append u (94 ∷ (48 + d) ∷ [])) (omega arith)
nesting_short (of_power t) = nesting_short t
nesting_short (of_times {f} {g} {u} {w} t x) = joined f g u w _ (nesting_short t) (nesting_short x)
nesting_short (of_product t) = nesting_short t
nesting_short (of_negative t) = let l = nesting_short t in omega arith
nesting_short (of_plus {f} {g} {u} {w} t x) = joined f g u w _ (nesting_short t) (nesting_short x)
nesting_short (of_minus {f} {g} {u} {w} t x) = joined f g u w _ (nesting_short t) (nesting_short x)
