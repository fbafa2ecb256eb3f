-- A power, multiplied once at a time: the next one, and that none stays none.
use Prim.Native.Nat.{ℕ, suc, zero, ◌+◌, ◌≤◌}
use mathlib.Core.Path.{◌≡◌, refl, sym, ap, subst}
use mathlib.Core.Bool.{Bool, true, false}
use mathlib.Core.Option.{none, some}
use native.Mathlib.Numerals.{add-one}
use native.Mathlib.Omega.{arith}
use lib.Dec.{leb}
use borrow.Author.Tests.{leb-true, leb-false}
use Rattle.formula.specs.Polynomial.{Polynomial, constant, product_of}
use Rattle.formula.specs.Meaning.{on_result, power_of}

pub power_starts : (p : Polynomial) → power_of p 0 ≡ constant 1
unfolding power_of
power_starts p = refl

pub power_next : (p : Polynomial) (j : ℕ) {q : Polynomial} → some q ≡ power_of p j → power_of p (j + 1) ≡ product_of q p
unfolding power_of on_result
power_next p j {q} e = rw (add-one, sym e)

pub power_none : (p : Polynomial) (j k : ℕ) → j ≤ k → none ≡ power_of p j → none ≡ power_of p k
unfolding power_of on_result
power_none p j zero l e = let z : j ≡ 0 = omega arith in subst (λ (i : ℕ). none ≡ power_of p i) z e
power_none p j (suc k) l e = go (leb j k) refl (λ h. power_none p j k h e)
  where
    go : (b : Bool) → leb j k ≡ b → (j ≤ k → none ≡ power_of p k) → none ≡ on_result (λ q. product_of q p) (power_of p k)
    go true h rec = ap (on_result (λ q. product_of q p)) (rec (leb-true j k h))
    go false h rec =
        let last : j ≡ suc k = omega (arith, leb-false j k h) in
        subst (λ (i : ℕ). none ≡ power_of p i) last e
