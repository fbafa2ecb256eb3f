-- Single coefficients put into the polynomial 0: a number and a letter.
use Prim.Native.Nat.{ℕ, suc, zero, ◌<◌}
use mathlib.Core.Path.{◌≡◌, refl, sym, ap, ◌∙◌}
use mathlib.Core.Bool.{true}
use mathlib.Core.List.{[], ◌∷◌, flat_map}
use mathlib.Core.Option.{some}
use native.Mathlib.Omega.{arith}
use lib.IntN.{ℤ, pos}
use lib.ListN.{get_or, set}
use lib.Dec.{lit≤}
use Rattle.exact.specs.Int.{◌⊕◌, 1ℤ}
use Rattle.exact.specs.Crossed.{count_from}
use Rattle.exact.proofs.Ring.{zero-add}
use Rattle.curves.specs.Step.{every}
use Rattle.paper.specs.Limits.{degree_limit, coefficient_limit}
use Rattle.formula.specs.Polynomial.{Kept, Polynomial, monomial_count, zeros, zero_polynomial, add_at, single, coefficients_within, within, constant, variable_polynomial}
use Rattle.formula.specs.Polynomial.{slot, unit_exponents, monomials, exponents_up_to, position_in, same_exponents}
use Rattle.formula.proofs.Sizes.{length_single}
use Rattle.formula.proofs.Weighted.{cell_zeros}
use Rattle.rows.proofs.TermAdded.{add_at_set}

-- one term
single_set : (k : ℕ) (x : ℤ) → set zero_polynomial k x ≡ single k x
unfolding single zero_polynomial
single_set k x =
    sym (add_at_set zero_polynomial k x ∙ ap (set zero_polynomial k) (ap (λ (y : ℤ). y ⊕ x) (cell_zeros monomial_count k) ∙ zero-add x))

-- a number
pub number_put : {z : Polynomial} → z ≡ zero_polynomial → (v : ℕ) → within (set z 0 (pos v)) ≡ constant v
unfolding constant
number_put e v = rw e (ap within (single_set 0 (pos v)))

-- the array of the code has the monomials of the letters
pub letter_is : (a : ℕ) → a < 4 → (get_or (35 ∷ 15 ∷ 5 ∷ 1 ∷ []) a 0 ≡ slot (unit_exponents a)) × (get_or (35 ∷ 15 ∷ 5 ∷ 1 ∷ []) a 0 < 70)
unfolding slot unit_exponents monomials exponents_up_to degree_limit count_from flat_map position_in same_exponents
letter_is zero h = (refl, lit≤ tt)
letter_is (suc zero) h = (refl, lit≤ tt)
letter_is (suc (suc zero)) h = (refl, lit≤ tt)
letter_is (suc (suc (suc zero))) h = (refl, lit≤ tt)
letter_is (suc (suc (suc (suc a)))) h = absurd (omega arith)

one_within : (a : ℕ) → a < 4 → coefficients_within (single (get_or (35 ∷ 15 ∷ 5 ∷ 1 ∷ []) a 0) 1ℤ) ≡ true
unfolding single zero_polynomial zeros monomial_count add_at ◌⊕◌ coefficients_within every coefficient_limit
one_within zero h = refl
one_within (suc zero) h = refl
one_within (suc (suc zero)) h = refl
one_within (suc (suc (suc zero))) h = refl
one_within (suc (suc (suc (suc a)))) h = absurd (omega arith)

-- a letter: the polynomial, and that it stands on the limits
module _ {z : Polynomial} (e : z ≡ zero_polynomial) (a : ℕ) (h : a < 4) where
  letter_set : set z (get_or (35 ∷ 15 ∷ 5 ∷ 1 ∷ []) a 0) 1ℤ ≡ single (get_or (35 ∷ 15 ∷ 5 ∷ 1 ∷ []) a 0) 1ℤ
  letter_set = rw e (single_set _ 1ℤ)

  pub letter_kept : Kept (set z (get_or (35 ∷ 15 ∷ 5 ∷ 1 ∷ []) a 0) 1ℤ)
  letter_kept = rw letter_set (length_single _ 1ℤ, one_within a h)

  pub letter_put : some (set z (get_or (35 ∷ 15 ∷ 5 ∷ 1 ∷ []) a 0) 1ℤ) ≡ variable_polynomial a
  unfolding variable_polynomial within
  letter_put = rw (letter_set, ← (letter_is a h).0, one_within a h)
