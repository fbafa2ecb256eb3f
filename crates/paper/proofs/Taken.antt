-- How many members the first k of a list are.
use mathlib.Core.List.{List, [], ◌∷◌}
use Prim.Native.Nat.{ℕ, suc, zero, ◌≤◌}
use native.Mathlib.Omega.{arith}
use lib.ListN.{length, take}

-- no more than the list has
pub take_short : {A : Type 0} (k : ℕ) (l : List A) → length (take k l) ≤ length l
take_short zero l = omega arith
take_short (suc k) [] = omega arith
take_short (suc k) (x ∷ l) = let rest = take_short k l in omega (arith, rest)

-- no more than k
pub take_most : {A : Type 0} (k : ℕ) (l : List A) → length (take k l) ≤ k
take_most zero l = omega arith
take_most (suc k) [] = omega arith
take_most (suc k) (x ∷ l) = let rest = take_most k l in omega (arith, rest)
