-- Polynomials with bounded coefficients: a larger bound, the polynomial 0, and one coefficient added to.
use Prim.Native.Nat.{ℕ, suc, zero, ◌+◌, ◌≤◌}
use mathlib.Core.Path.{◌∙◌}
use mathlib.Core.List.{[], ◌∷◌}
use native.Mathlib.Omega.{arith}
use lib.IntN.{ℤ, nat_abs}
use Rattle.exact.specs.Size.{Size}
use Rattle.exact.proofs.SizeLaws.{nat_abs_add, size_weaken, size_pos}
use Rattle.paper.specs.Limits.{coefficient_limit}
use Rattle.formula.specs.Polynomial.{Kept, Polynomial, monomial_count, cell, zero_polynomial, add_at}
use Rattle.formula.proofs.Sizes.{length_zeros, length_add_at}
use Rattle.formula.proofs.TermRead.{cell_within}
use Rattle.formula.proofs.Weighted.{cell_zeros}
use Rattle.rows.specs.Bounded.{Bounded}

pub bounded_more : {m n : ℕ} {p : Polynomial} → Bounded m p → m ≤ n → Bounded n p
bounded_more b l = record { long = b.long; each = λ k. size_weaken (b.each k) l }

pub zero_bounded : (m : ℕ) → Bounded m zero_polynomial
unfolding zero_polynomial
zero_bounded m = record { long = length_zeros monomial_count; each = λ k. rw (cell_zeros monomial_count k) (size_weaken (size_pos 0) (omega arith)) }

-- ---- a polynomial within the limits of a term

pub kept_bounded : (p : Polynomial) → Kept p → Bounded coefficient_limit p
kept_bounded p k = record { long = k.0; each = λ j. record { size = cell_within p j k.1 } }

-- ---- one coefficient added to

add_at_size : (p : Polynomial) (k : ℕ) (x : ℤ) (j : ℕ) → nat_abs (cell (add_at p k x) j) ≤ nat_abs (cell p j) + nat_abs x
unfolding add_at cell
add_at_size [] k x j = omega arith
add_at_size (y ∷ p) zero x zero = nat_abs_add y x
add_at_size (y ∷ p) zero x (suc j) = omega arith
add_at_size (y ∷ p) (suc k) x zero = omega arith
add_at_size (y ∷ p) (suc k) x (suc j) = add_at_size p k x j

pub add_at_bounded : {m t : ℕ} {p : Polynomial} (k : ℕ) {x : ℤ} → Bounded m p → Size t x → Bounded (m + t) (add_at p k x)
add_at_bounded {p} k {x} b s =
    record {
      long = length_add_at p k x ∙ b.long;
      each = λ j. record { size = omega (arith, add_at_size p k x j, (b.each j).size, s.size) };
    }
