-- The polynomial of a reading has the reading's value at every vertex.
use Prim.Native.Nat.{ℕ, suc, zero, ◌+◌, ◌≤◌, ◌<◌}
use native.Mathlib.Omega.{arith}
use mathlib.Core.Path.{◌≡◌, refl, sym, ap, ap₂, ◌∙◌}
use mathlib.Core.Bool.{Bool, true, false, cond}
use mathlib.Core.List.{List, [], ◌∷◌, map, flat_map}
use mathlib.Core.Option.{some}
use lib.IntN.{ℤ, pos}
use lib.ListN.{length, get_or}
use lib.Dec.{eqb, lit<}
use borrow.Author.Tests.{ltb-true, eq-eqb, ne_eqb}
use Rattle.exact.specs.Int.{◌⊕◌, ◌⊖◌, ◌⊗◌, neg, power, 0ℤ, 1ℤ}
use Rattle.exact.specs.Crossed.{count_from}
use Rattle.exact.proofs.AndTests.{and_left, and_right}
use Rattle.exact.proofs.Ring.{mul-one, mul_comm, one_mul, sub_eq, zero-add}
use Rattle.curves.specs.Grid.{Vertex}
use Rattle.paper.specs.Limits.{degree_limit}
use Rattle.paper.specs.RunningSum.{exponent_sum, powers_product}
use Rattle.formula.specs.Grammar.{Formula, number, letter, parens, raised, times, plus, minus, negative}
use Rattle.formula.specs.Polynomial.{Polynomial, exponents_up_to, monomials, monomial_count, exponents_at, slot, unit_exponents, zero_polynomial}
use Rattle.formula.specs.Polynomial.{single, cellwise, multiplied, polynomial_value}
use Rattle.formula.specs.Polynomial.{within, constant, variable_polynomial, sum_of, difference_of, product_of}
use Rattle.formula.specs.Meaning.{meaning, power_of, evaluate}
use Rattle.formula.proofs.Letters.{letters_under}
use Rattle.formula.proofs.Sizes.{within_some, product_some, on_result_lem, on_results_lem, length_zero_polynomial, evaluated_kept}
use Rattle.formula.proofs.Slots.{slot_holds, slot_found}
use Rattle.formula.proofs.PolynomialValues.{value_zeros, value_single, value_sum, value_difference, value_multiplied}

-- ---- products of few powers

-- all exponents 0
powers_none : (es : List ℕ) (v : Vertex) → exponent_sum es ≡ 0 → powers_product es v ≡ 1ℤ
unfolding powers_product exponent_sum power
powers_none [] v h = refl
powers_none (e ∷ es) [] h = refl
powers_none (e ∷ es) (x ∷ v) h =
    let first : e ≡ 0 = omega arith in
    let rest : exponent_sum es ≡ 0 = omega arith in
    ap₂ ◌⊗◌ (ap (power x) first) (powers_none es v rest) ∙ mul-one 1ℤ

-- 1 at axis a and 0 elsewhere, for the m axes from axis k on
unit_from : ℕ → ℕ → ℕ → List ℕ
unit_from a k m = map (λ j. cond (eqb j a) 1 0) (count_from k m)

units_none : (a k m : ℕ) → a < k → exponent_sum (unit_from a k m) ≡ 0
unfolding exponent_sum unit_from count_from
units_none a k zero h = refl
units_none a k (suc m) h =
    let differ : eqb k a ≡ false = ne_eqb k a (λ e. omega arith) in
    rw differ (omega (arith, units_none a (suc k) m (omega arith)))

units_one : (i k m : ℕ) (v : Vertex) → i < m → i < length v → powers_product (unit_from (k + i) k m) v ≡ get_or v i 0ℤ
unfolding powers_product unit_from count_from power
units_one i k zero v l h = absurd (omega arith)
units_one i k (suc m) [] l h = absurd (omega arith)
units_one zero k (suc m) (x ∷ v) l h =
    let same : eqb k (k + 0) ≡ true = eq-eqb k (k + 0) (omega arith) in
    ap₂ (λ (b : Bool) (y : ℤ). power x (cond b 1 0) ⊗ y) same
    (powers_none (unit_from (k + 0) (suc k) m) v (units_none (k + 0) (suc k) m (omega arith)))
    ∙ mul-one (x ⊗ 1ℤ) ∙ mul-one x
units_one (suc i) k (suc m) (x ∷ v) l h =
    let differ : eqb k (k + suc i) ≡ false = ne_eqb k (k + suc i) (λ e. omega arith) in
    let later : k + suc i ≡ suc k + i = omega arith in
    ap₂ (λ (b : Bool) (y : ℤ). power x (cond b 1 0) ⊗ y) differ
    (ap (λ (a : ℕ). powers_product (unit_from a (suc k) m) v) later ∙ units_one i (suc k) m v (omega arith) (omega arith))
    ∙ one_mul (get_or v i 0ℤ)

unit_found : (a : ℕ) → slot (unit_exponents a) < monomial_count
unfolding unit_exponents exponent_sum degree_limit
unit_found a =
    slot_found (unit_exponents a) refl
    (omega (arith, small (eqb 0 a), small (eqb 1 a), small (eqb 2 a), small (eqb 3 a)))
  where
    small : (b : Bool) → cond b 1 0 ≤ 1
    small true = omega arith
    small false = omega arith

unit_value : (a : ℕ) (v : Vertex) → length v ≤ 4 → a < length v → powers_product (exponents_at (slot (unit_exponents a))) v ≡ get_or v a 0ℤ
unfolding unit_exponents unit_from count_from
unit_value a v h l =
    let from : 0 + a ≡ a = omega arith in
    ap (λ e. powers_product e v) (slot_holds (unit_exponents a) (unit_found a))
    ∙ ap (λ (b : ℕ). powers_product (unit_from b 0 4) v) (sym from)
    ∙ units_one a 0 4 v (omega arith) l

-- ---- one operation each

module _ (v : Vertex) where
  -- a result within the limits has the value of what was made
  result_value : (p : Polynomial) {r : Polynomial} → within p ≡ some r → polynomial_value r v ≡ polynomial_value p v
  result_value p h = ap (λ x. polynomial_value x v) (within_some p h).0

  sum_value :
      (p q : Polynomial) {r : Polynomial} → length p ≡ monomial_count → length q ≡ monomial_count → sum_of p q ≡ some r
      → polynomial_value r v ≡ polynomial_value p v ⊕ polynomial_value q v
  unfolding sum_of
  sum_value p q lp lq h = result_value (cellwise ◌⊕◌ p q) h ∙ value_sum p q v lp lq

  difference_value :
      (p q : Polynomial) {r : Polynomial} → length p ≡ monomial_count → length q ≡ monomial_count → difference_of p q ≡ some r
      → polynomial_value r v ≡ polynomial_value p v ⊖ polynomial_value q v
  unfolding difference_of
  difference_value p q lp lq h = result_value (cellwise ◌⊖◌ p q) h ∙ value_difference p q v lp lq

  product_value : (p q : Polynomial) {r : Polynomial} → product_of p q ≡ some r → polynomial_value r v ≡ polynomial_value p v ⊗ polynomial_value q v
  product_value p q h = let s = product_some p q h in result_value (multiplied p q) s.1 ∙ value_multiplied p q v s.0

  constant_value : (k : ℕ) {r : Polynomial} → constant k ≡ some r → polynomial_value r v ≡ pos k
  unfolding constant monomial_count exponents_at monomials exponents_up_to degree_limit flat_map count_from exponent_sum
  constant_value k h =
      result_value (single 0 (pos k)) h
      ∙ value_single 0 (pos k) v (lit< tt)
      ∙ ap (λ x. pos k ⊗ x) (powers_none (exponents_at 0) v refl)
      ∙ mul-one (pos k)

  variable_value : (a : ℕ) {r : Polynomial} → length v ≤ 4 → a < length v → variable_polynomial a ≡ some r → polynomial_value r v ≡ get_or v a 0ℤ
  unfolding variable_polynomial
  variable_value a l u h =
      result_value (single (slot (unit_exponents a)) 1ℤ) h
      ∙ value_single (slot (unit_exponents a)) 1ℤ v (unit_found a)
      ∙ one_mul (powers_product (exponents_at (slot (unit_exponents a))) v)
      ∙ unit_value a v l u

  power_value : (p : Polynomial) (k : ℕ) {r : Polynomial} → power_of p k ≡ some r → polynomial_value r v ≡ power (polynomial_value p v) k
  unfolding power_of power
  power_value p zero h = constant_value 1 h
  power_value p (suc k) h =
      let s = on_result_lem (λ q. product_of q p) (power_of p k) h in
      product_value s.operand p s.result_is
      ∙ ap (λ x. x ⊗ polynomial_value p v) (power_value p k s.operand_is)
      ∙ mul_comm (power (polynomial_value p v) k) (polynomial_value p v)

-- ---- readings

module _ (n : ℕ) (v : Vertex) (short : n ≤ 4) (dimension : length v ≡ n) where
  pub meant : (f : Formula) {p : Polynomial} → letters_under n f ≡ true → evaluate f ≡ some p → polynomial_value p v ≡ meaning v f
  unfolding evaluate meaning letters_under
  meant (number k) u h = constant_value v k h
  meant (letter a) u h = variable_value v a (omega arith) (omega (arith, ltb-true a n u)) h
  meant (parens f) u h = meant f u h
  meant (raised f k) u h =
      let s = on_result_lem (λ p. power_of p k) (evaluate f) h in
      power_value v s.operand k s.result_is ∙ ap (λ x. power x k) (meant f u s.operand_is)
  meant (times f g) u h =
      let s = on_results_lem product_of (evaluate f) (evaluate g) h in
      product_value v s.left s.right s.result_is
      ∙ ap₂ ◌⊗◌ (meant f (and_left _ _ u) s.left_is) (meant g (and_right (letters_under n f) _ u) s.right_is)
  meant (plus f g) u h =
      let s = on_results_lem sum_of (evaluate f) (evaluate g) h in
      sum_value v s.left s.right (evaluated_kept f s.left_is).0 (evaluated_kept g s.right_is).0 s.result_is
      ∙ ap₂ ◌⊕◌ (meant f (and_left _ _ u) s.left_is) (meant g (and_right (letters_under n f) _ u) s.right_is)
  meant (minus f g) u h =
      let s = on_results_lem difference_of (evaluate f) (evaluate g) h in
      difference_value v s.left s.right (evaluated_kept f s.left_is).0 (evaluated_kept g s.right_is).0 s.result_is
      ∙ ap₂ ◌⊖◌ (meant f (and_left _ _ u) s.left_is) (meant g (and_right (letters_under n f) _ u) s.right_is)
  meant (negative f) u h =
      let s = on_result_lem (difference_of zero_polynomial) (evaluate f) h in
      difference_value v zero_polynomial s.operand length_zero_polynomial (evaluated_kept f s.operand_is).0 s.result_is
      ∙ ap₂ ◌⊖◌ (value_zeros v) (meant f u s.operand_is)
      ∙ sub_eq 0ℤ (meaning v f)
      ∙ zero-add (neg (meaning v f))
