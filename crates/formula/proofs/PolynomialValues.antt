-- The value of a polynomial at a vertex goes through the operations: it is the sum, the difference and the product of the values.
use Prim.Native.Nat.{ℕ, suc, zero, ◌+◌, ◌≤◌, ◌<◌}
use native.Mathlib.Omega.{arith}
use mathlib.Core.Path.{◌≡◌, refl, sym, ap, ap₂, ◌∙◌}
use mathlib.Core.Bool.{true, false}
use mathlib.Core.List.{List, [], ◌∷◌}
use lib.IntN.{ℤ}
use lib.ListN.{length}
use Rattle.exact.specs.Int.{◌⊕◌, ◌⊖◌, ◌⊗◌, power, 0ℤ, 1ℤ}
use Rattle.exact.proofs.Ring.{mul_comm, mul-one, one_mul}
use Rattle.exact.proofs.Solver.{var, ◌:*◌, solve}
use Rattle.curves.specs.Grid.{Vertex}
use Rattle.paper.specs.RunningSum.{powers_product}
use Rattle.formula.specs.Polynomial.{Polynomial, monomial_count, exponents_at, sum_exponents, product_slot, cell, is_zero, zero_polynomial, single}
use Rattle.formula.specs.Polynomial.{cellwise, multiplied, fits, value_from, polynomial_value}
use Rattle.formula.proofs.Slots.{slot_holds, product_placed}
use Rattle.formula.proofs.Weighted.{weighted_from, weighted, weights_same, weights_scaled, row_weight, fits_pair}
use Rattle.formula.proofs.Weighted.{weighted_zeros, weighted_single, weighted_sum, weighted_difference, weighted_product}

-- ---- products of powers

power_add : (x : ℤ) (d e : ℕ) → power x (d + e) ≡ power x d ⊗ power x e
unfolding power
power_add x zero e = let same : 0 + e ≡ e = omega arith in ap (power x) same ∙ sym (one_mul (power x e))
power_add x (suc d) e =
    let next : suc d + e ≡ suc (d + e) = omega arith in
    ap (power x) next ∙ ap (λ y. x ⊗ y) (power_add x d e)
    ∙ solve (var 0 :* (var 1 :* var 2)) (var 0 :* var 1 :* var 2) (x ∷ power x d ∷ power x e ∷ []) refl

pub powers_sum : (d e : List ℕ) (v : Vertex) → powers_product (sum_exponents d e) v ≡ powers_product d v ⊗ powers_product e v
unfolding powers_product sum_exponents
powers_sum [] e v = sym (one_mul (powers_product e v))
powers_sum (d ∷ ds) [] v = sym (mul-one (powers_product (d ∷ ds) v))
powers_sum (d ∷ ds) (e ∷ es) [] = sym (mul-one 1ℤ)
powers_sum (d ∷ ds) (e ∷ es) (x ∷ v) =
    ap₂ ◌⊗◌ (power_add x d e) (powers_sum ds es v)
    ∙ solve (var 0 :* var 1 :* (var 2 :* var 3)) (var 0 :* var 2 :* (var 1 :* var 3))
    (power x d ∷ power x e ∷ powers_product ds v ∷ powers_product es v ∷ []) refl

-- ---- values

-- a monomial's value
monomial_at : Vertex → ℕ → ℤ
monomial_at v k = powers_product (exponents_at k) v

value_weighted : (p : Polynomial) (v : Vertex) → polynomial_value p v ≡ weighted (monomial_at v) p
unfolding polynomial_value value_from weighted weighted_from monomial_at
value_weighted p v = from 0 monomial_count
  where
    from : (k m : ℕ) → value_from p v k m ≡ weighted_from (monomial_at v) p k m
    from k zero = refl
    from k (suc m) = ap (λ x. cell p k ⊗ powers_product (exponents_at k) v ⊕ x) (from (k + 1) m)

pub value_zeros : (v : Vertex) → polynomial_value zero_polynomial v ≡ 0ℤ
value_zeros v = value_weighted zero_polynomial v ∙ weighted_zeros (monomial_at v)

pub value_single : (k : ℕ) (x : ℤ) (v : Vertex) → k < monomial_count → polynomial_value (single k x) v ≡ x ⊗ powers_product (exponents_at k) v
unfolding monomial_at
value_single k x v h = value_weighted (single k x) v ∙ weighted_single (monomial_at v) k x h

module _ (p q : Polynomial) (v : Vertex) (lp : length p ≡ monomial_count) (lq : length q ≡ monomial_count) where
  pub value_sum : polynomial_value (cellwise ◌⊕◌ p q) v ≡ polynomial_value p v ⊕ polynomial_value q v
  value_sum =
      value_weighted (cellwise ◌⊕◌ p q) v ∙ weighted_sum (monomial_at v) p q lp lq ∙ sym (ap₂ ◌⊕◌ (value_weighted p v) (value_weighted q v))

  pub value_difference : polynomial_value (cellwise ◌⊖◌ p q) v ≡ polynomial_value p v ⊖ polynomial_value q v
  value_difference =
      value_weighted (cellwise ◌⊖◌ p q) v ∙ weighted_difference (monomial_at v) p q lp lq
      ∙ sym (ap₂ ◌⊖◌ (value_weighted p v) (value_weighted q v))

-- ---- products

-- the product of two monomials that has a place
product_monomial :
    (v : Vertex) (i k : ℕ) → product_slot i k < monomial_count → monomial_at v (product_slot i k) ≡ monomial_at v i ⊗ monomial_at v k
unfolding monomial_at product_slot
product_monomial v i k h =
    ap (λ e. powers_product e v) (slot_holds (sum_exponents (exponents_at i) (exponents_at k)) h) ∙ powers_sum (exponents_at i) (exponents_at k) v

pub value_multiplied :
    (p q : Polynomial) (v : Vertex) → fits p q ≡ true → polynomial_value (multiplied p q) v ≡ polynomial_value p v ⊗ polynomial_value q v
unfolding weighted row_weight
value_multiplied p q v h =
    value_weighted (multiplied p q) v
    ∙ weighted_product w p q h
    ∙ weights_same (row_weight w q) (λ i. value ⊗ w i) p 0 monomial_count row
    ∙ weights_scaled value w p 0 monomial_count
    ∙ mul_comm value (weighted w p)
    ∙ sym (ap₂ ◌⊗◌ (value_weighted p v) (value_weighted q v))
  where
    w : ℕ → ℤ
    w = monomial_at v

    value : ℤ
    value = weighted w q

    row : (i : ℕ) → 0 ≤ i → i < 0 + monomial_count → is_zero (cell p i) ≡ false → row_weight w q i ≡ value ⊗ w i
    row i a u e =
        weights_same (λ k. w (product_slot i k)) (λ k. w i ⊗ w k) q 0 monomial_count pair
        ∙ weights_scaled (w i) w q 0 monomial_count
        ∙ mul_comm (w i) value
      where
        pair : (k : ℕ) → 0 ≤ k → k < 0 + monomial_count → is_zero (cell q k) ≡ false → w (product_slot i k) ≡ w i ⊗ w k
        pair k b t f =
            product_monomial v i k (product_placed i k (omega arith) (omega arith) (fits_pair p q h i k (omega arith) (omega arith) e f))
