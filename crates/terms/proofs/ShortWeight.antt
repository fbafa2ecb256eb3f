-- Terms within the limits have the same order by the weight that the code takes as by that of the definition: in both the first digit that differs
-- decides, since digits of at most 4 do not add up to one of the next.
use mathlib.Core.Path.{◌≡◌, refl}
use mathlib.Core.Logic.{◌↔◌}
use mathlib.Core.Bool.{Bool, true, false}
use mathlib.Core.List.{List}
use Prim.Native.Nat.{ℕ, ◌+◌, ◌*◌, ◌≤◌, ◌<◌}
use native.Mathlib.Omega.{arith}
use lib.Dec.{ltb, eqb, lit<}
use borrow.Author.Tests.{eqb-true, eqb-false}
use Rattle.paper.specs.Limits.{degree_limit}
use Rattle.paper.specs.Job.{exponent_of, term_ok, exponent_weight}
use Rattle.paper.proofs.Terms.{term_range, exponent_limit}
use Rattle.terms.specs.Carried.{short_weight}
use Rattle.terms.proofs.SameTests.{leb_same}

digits_agree :
    (x y z w x' y' z' w' : ℕ) → x ≤ 4 → y ≤ 4 → z ≤ 4 → w ≤ 4 → x' ≤ 4 → y' ≤ 4 → z' ≤ 4 → w' ≤ 4
    → (x * 16777216 + y * 65536 + z * 256 + w < x' * 16777216 + y' * 65536 + z' * 256 + w')
    ↔ (((x * 8 + y) * 8 + z) * 8 + w < ((x' * 8 + y') * 8 + z') * 8 + w')
digits_agree x y z w x' y' z' w' k1 k2 k3 k4 l1 l2 l3 l4 = go (eqb x x') (eqb y y') (eqb z z') refl refl refl
  where
    go : (p q r : Bool) → eqb x x' ≡ p → eqb y y' ≡ q → eqb z z' ≡ r
        → (x * 16777216 + y * 65536 + z * 256 + w < x' * 16777216 + y' * 65536 + z' * 256 + w')
        ↔ (((x * 8 + y) * 8 + z) * 8 + w < ((x' * 8 + y') * 8 + z') * 8 + w')
    go false q r e f g = let d = eqb-false x x' e in (λ h. omega (arith, d), λ h. omega (arith, d))
    go true false r e f g =
        let s = eqb-true x x' e in
        let d = eqb-false y y' f in
        (λ h. omega (arith, s, d), λ h. omega (arith, s, d))
    go true true false e f g =
        let s = eqb-true x x' e in
        let t = eqb-true y y' f in
        let d = eqb-false z z' g in
        (λ h. omega (arith, s, t, d), λ h. omega (arith, s, t, d))
    go true true true e f g =
        let s = eqb-true x x' e in
        let t = eqb-true y y' f in
        let u = eqb-true z z' g in
        (λ h. omega (arith, s, t, u), λ h. omega (arith, s, t, u))

-- an exponent of a term within the limits
exponent_small : (n : ℕ) (b : List ℕ) (i : ℕ) → term_ok n b i ≡ true → (a : ℕ) → a < 4 → exponent_of b i a ≤ 4
unfolding degree_limit
exponent_small n b i h = exponent_limit (term_range n b i h)

pub order_same :
    (n : ℕ) (b : List ℕ) (i j : ℕ) → term_ok n b i ≡ true → term_ok n b j ≡ true
    → ltb (exponent_weight b i) (exponent_weight b j) ≡ ltb (short_weight b i) (short_weight b j)
unfolding exponent_weight short_weight
order_same n b i j p q = leb_same _ _ _ _ agree.0 agree.1
  where
    low : (a : ℕ) → a < 4 → exponent_of b i a ≤ 4
    low = exponent_small n b i p

    high : (a : ℕ) → a < 4 → exponent_of b j a ≤ 4
    high = exponent_small n b j q

    agree : (exponent_weight b i < exponent_weight b j) ↔ (short_weight b i < short_weight b j)
    agree = unfold exponent_weight in (unfold short_weight in
        digits_agree
        (exponent_of b i 0) (exponent_of b i 1) (exponent_of b i 2) (exponent_of b i 3) (exponent_of b j 0) (exponent_of b j 1) (exponent_of b j 2) (exponent_of b j 3)
        (low 0 (lit< tt)) (low 1 (lit< tt)) (low 2 (lit< tt)) (low 3 (lit< tt)) (high 0 (lit< tt)) (high 1 (lit< tt)) (high 2 (lit< tt)) (high 3 (lit< tt)))
