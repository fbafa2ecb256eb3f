-- A formula whose letters are all under n has a polynomial without an exponent of an axis from n on.
use Prim.Native.Nat.{ℕ, suc, zero, ◌+◌, ◌-◌, ◌≤◌, ◌<◌}
use native.Mathlib.Omega.{arith}
use mathlib.Core.Path.{◌≡◌, refl, sym, ap, ap₂, subst, ◌∙◌}
use mathlib.Core.Bool.{Bool, true, false, cond, ◌||◌, true≢false}
use mathlib.Core.List.{List, [], ◌∷◌, flat_map}
use mathlib.Core.Option.{some}
use lib.IntN.{ℤ, pos}
use lib.ListN.{length, get_or}
use lib.Dec.{eqb}
use borrow.Author.Tests.{eqb-true, eqb-false, eq-eqb, ne_eqb, ltb-true}
use Rattle.exact.specs.Int.{◌⊕◌, ◌⊖◌, ◌⊗◌, 0ℤ, 1ℤ}
use Rattle.exact.specs.Crossed.{count_from}
use Rattle.exact.proofs.AndTests.{and_left, and_right}
use Rattle.exact.proofs.Ring.{zero-add, sub_self}
use Rattle.paper.specs.Limits.{degree_limit}
use Rattle.paper.specs.Job.{all_from}
use Rattle.paper.proofs.Tests.{all_at, all_from_lem}
use Rattle.formula.specs.Grammar.{Formula, number, letter, parens, raised, times, plus, minus, negative}
use Rattle.formula.specs.Polynomial.{Polynomial, monomial_count, monomials, exponents_up_to, exponents_at, sum_exponents, slot, product_slot}
use Rattle.formula.specs.Polynomial.{unit_exponents, cell, is_zero}
use Rattle.formula.specs.Polynomial.{zero_polynomial, add_at, single, cellwise, unless_nought, add_row, add_rows, multiplied}
use Rattle.formula.specs.Polynomial.{constant, variable_polynomial, sum_of, difference_of, product_of}
use Rattle.formula.specs.Meaning.{power_of, evaluate}
use Rattle.formula.proofs.Sizes.{within_some, product_some, on_result_lem, on_results_lem, evaluated_kept, length_zero_polynomial}
use Rattle.formula.proofs.Slots.{slot_holds}
use Rattle.formula.proofs.Weighted.{zero_is, cell_zeros, cell_other, cell_cellwise}
use Rattle.formula.proofs.Letters.{letters_under}

-- ---- no exponent of an axis from n on

-- of monomial k
unfoldable pub low_monomial : ℕ → ℕ → Bool
low_monomial n k = all_from (λ a. eqb (get_or (exponents_at k) a 0) 0) n (4 - n)

-- of a monomial whose coefficient is not 0
unfoldable pub upper_free : ℕ → Polynomial → Bool
upper_free n p = all_from (λ k. is_zero (cell p k) || low_monomial n k) 0 monomial_count

abbrev LowExponents : ℕ → List ℕ → Type 0
LowExponents n es = (a : ℕ) → n ≤ a → a < 4 → get_or es a 0 ≡ 0

abbrev Low : ℕ → Polynomial → Type 0
Low n p = (k : ℕ) → k < monomial_count → is_zero (cell p k) ≡ false → LowExponents n (exponents_at k)

low_free : (n : ℕ) (p : Polynomial) → Low n p → upper_free n p ≡ true
unfolding upper_free low_monomial
low_free n p f = all_from_lem _ 0 monomial_count (λ k l u. go k (omega arith) (is_zero (cell p k)) refl)
  where
    go : (k : ℕ) → k < monomial_count → (t : Bool) → is_zero (cell p k) ≡ t
        → (is_zero (cell p k) || all_from (λ a. eqb (get_or (exponents_at k) a 0) 0) n (4 - n)) ≡ true
    go k u true e = rw e
    go k u false e = rw e (all_from_lem _ n (4 - n) (λ a l h. eq-eqb _ 0 (f k u e a l (omega arith))))

pub free_monomial : (n : ℕ) (p : Polynomial) (k : ℕ) → upper_free n p ≡ true → k < monomial_count → is_zero (cell p k) ≡ false → low_monomial n k ≡ true
unfolding upper_free
free_monomial n p k h u e = rw e at (all_at (λ k. is_zero (cell p k) || low_monomial n k) 0 monomial_count k h (omega arith) (omega arith))

-- ---- exponents

sum_exponent : (d e : List ℕ) (a : ℕ) → get_or (sum_exponents d e) a 0 ≡ get_or d a 0 + get_or e a 0
unfolding sum_exponents
sum_exponent [] es a = omega arith
sum_exponent (d ∷ ds) [] a = omega arith
sum_exponent (d ∷ ds) (e ∷ es) zero = refl
sum_exponent (d ∷ ds) (e ∷ es) (suc a) = sum_exponent ds es a

unit_low : (n a : ℕ) → a < n → LowExponents n (unit_exponents a)
unfolding unit_exponents
unit_low n a u zero l h = rw (ne_eqb 0 a (λ e. omega arith))
unit_low n a u (suc zero) l h = rw (ne_eqb 1 a (λ e. omega arith))
unit_low n a u (suc (suc zero)) l h = rw (ne_eqb 2 a (λ e. omega arith))
unit_low n a u (suc (suc (suc zero))) l h = rw (ne_eqb 3 a (λ e. omega arith))
unit_low n a u (suc (suc (suc (suc j)))) l h = absurd (omega arith)

first_low : (n : ℕ) → LowExponents n (exponents_at 0)
unfolding exponents_at monomials exponents_up_to degree_limit flat_map count_from
first_low n zero l h = refl
first_low n (suc zero) l h = refl
first_low n (suc (suc zero)) l h = refl
first_low n (suc (suc (suc zero))) l h = refl
first_low n (suc (suc (suc (suc j)))) l h = absurd (omega arith)

-- ---- one operation each

module _ (n : ℕ) where
  slot_low : (es : List ℕ) → LowExponents n es → slot es < monomial_count → LowExponents n (exponents_at (slot es))
  slot_low es h u = subst (LowExponents n) (sym (slot_holds es u)) h

  product_low : (i k : ℕ) → LowExponents n (exponents_at i) → LowExponents n (exponents_at k) → product_slot i k < monomial_count
      → LowExponents n (exponents_at (product_slot i k))
  unfolding product_slot
  product_low i k f g u =
      slot_low _ (λ a l h. sum_exponent (exponents_at i) (exponents_at k) a ∙ omega (arith, f a l h, g a l h)) u

  zero_low : Low n zero_polynomial
  unfolding zero_polynomial is_zero
  zero_low k u h = absurd (true≢false (sym (ap is_zero (cell_zeros monomial_count k)) ∙ h))

  add_low : (p : Polynomial) (j : ℕ) (x : ℤ) → Low n p → (j < monomial_count → LowExponents n (exponents_at j)) → Low n (add_at p j x)
  add_low p j x f g k u h = go (eqb k j) refl
    where
      go : (t : Bool) → eqb k j ≡ t → LowExponents n (exponents_at k)
      go true e = let same = eqb-true k j e in subst (λ (i : ℕ). LowExponents n (exponents_at i)) (sym same) (g (omega arith))
      go false e = f k u (sym (ap is_zero (cell_other p j k x (eqb-false k j e))) ∙ h)

  single_low : (j : ℕ) (x : ℤ) → (j < monomial_count → LowExponents n (exponents_at j)) → Low n (single j x)
  unfolding single
  single_low j x g = add_low zero_polynomial j x zero_low g

  cellwise_low :
      (f : ℤ → ℤ → ℤ) (p q : Polynomial) → f 0ℤ 0ℤ ≡ 0ℤ → length p ≡ monomial_count → length q ≡ monomial_count → Low n p → Low n q
      → Low n (cellwise f p q)
  unfolding is_zero
  cellwise_low f p q z c d lp lq k u h = go (is_zero (cell p k)) refl (is_zero (cell q k)) refl
    where
      none : is_zero (cell p k) ≡ true → is_zero (cell q k) ≡ true → cell (cellwise f p q) k ≡ 0ℤ
      none e g = cell_cellwise f p q k (c ∙ sym d) (omega arith) ∙ ap₂ f (zero_is (cell p k) e) (zero_is (cell q k) g) ∙ z

      go : (t : Bool) → is_zero (cell p k) ≡ t → (s : Bool) → is_zero (cell q k) ≡ s → LowExponents n (exponents_at k)
      go false e s g = lp k u e
      go true e false g = lq k u g
      go true e true g = absurd (true≢false (sym (ap is_zero (none e g)) ∙ h))

  unless_low : (x : ℤ) (next r : Polynomial) → Low n r → (is_zero x ≡ false → Low n next) → Low n (unless_nought x next r)
  unfolding unless_nought
  unless_low x next r f g = go (is_zero x) refl
    where
      go : (t : Bool) → is_zero x ≡ t → Low n (cond (is_zero x) r next)
      go true e = rw e f
      go false e = rw e (g e)

  row_low : (c : ℤ) (i : ℕ) (q : Polynomial) (k m : ℕ) (r : Polynomial) → k + m ≤ monomial_count → LowExponents n (exponents_at i) → Low n q → Low n r
      → Low n (add_row c i q k m r)
  unfolding add_row
  row_low c i q k zero r l f g h = h
  row_low c i q k (suc m) r l f g h =
      row_low c i q (k + 1) m _ (omega arith) f g
      (unless_low (cell q k) _ r h (λ e. add_low r (product_slot i k) (c ⊗ cell q k) h (product_low i k f (g k (omega arith) e))))

  rows_low : (p q : Polynomial) (i m : ℕ) (r : Polynomial) → i + m ≤ monomial_count → Low n p → Low n q → Low n r → Low n (add_rows p q i m r)
  unfolding add_rows
  rows_low p q i zero r l f g h = h
  rows_low p q i (suc m) r l f g h =
      rows_low p q (i + 1) m _ (omega arith) f g
      (unless_low (cell p i) _ r h (λ e. row_low (cell p i) i q 0 monomial_count r (omega arith) (f i (omega arith) e) g h))

  constant_low : (v : ℕ) {r : Polynomial} → constant v ≡ some r → Low n r
  unfolding constant
  constant_low v h = subst (Low n) (sym (within_some _ h).0) (single_low 0 (pos v) (λ u. first_low n))

  variable_low : (a : ℕ) {r : Polynomial} → a < n → variable_polynomial a ≡ some r → Low n r
  unfolding variable_polynomial
  variable_low a u h =
      subst (Low n) (sym (within_some _ h).0) (single_low (slot (unit_exponents a)) 1ℤ (slot_low (unit_exponents a) (unit_low n a u)))

  module _ (p q : Polynomial) {r : Polynomial} (f : Low n p) (g : Low n q) where
    product_of_low : product_of p q ≡ some r → Low n r
    unfolding multiplied
    product_of_low h =
        subst (Low n) (sym (within_some _ (product_some p q h).1).0) (rows_low p q 0 monomial_count zero_polynomial (omega arith) f g zero_low)

    module _ (c : length p ≡ monomial_count) (d : length q ≡ monomial_count) where
      sum_of_low : sum_of p q ≡ some r → Low n r
      unfolding sum_of
      sum_of_low h = subst (Low n) (sym (within_some _ h).0) (cellwise_low ◌⊕◌ p q (zero-add 0ℤ) c d f g)

      difference_of_low : difference_of p q ≡ some r → Low n r
      unfolding difference_of
      difference_of_low h = subst (Low n) (sym (within_some _ h).0) (cellwise_low ◌⊖◌ p q (sub_self 0ℤ) c d f g)

  power_low : (p : Polynomial) (k : ℕ) {r : Polynomial} → Low n p → power_of p k ≡ some r → Low n r
  unfolding power_of
  power_low p zero f h = constant_low 1 h
  power_low p (suc k) f h =
      let s = on_result_lem (λ q. product_of q p) (power_of p k) h in
      product_of_low s.operand p (power_low p k f s.operand_is) f s.result_is

  -- ---- a formula

  evaluated_low : (f : Formula) {p : Polynomial} → letters_under n f ≡ true → evaluate f ≡ some p → Low n p
  unfolding evaluate letters_under
  evaluated_low (number v) u h = constant_low v h
  evaluated_low (letter a) u h = variable_low a (ltb-true a n u) h
  evaluated_low (parens f) u h = evaluated_low f u h
  evaluated_low (raised f k) u h =
      let s = on_result_lem (λ p. power_of p k) (evaluate f) h in power_low s.operand k (evaluated_low f u s.operand_is) s.result_is
  evaluated_low (times f g) u h =
      let s = on_results_lem product_of (evaluate f) (evaluate g) h in
      product_of_low s.left s.right (evaluated_low f (and_left (letters_under n f) (letters_under n g) u) s.left_is)
      (evaluated_low g (and_right (letters_under n f) (letters_under n g) u) s.right_is) s.result_is
  evaluated_low (plus f g) u h =
      let s = on_results_lem sum_of (evaluate f) (evaluate g) h in
      sum_of_low s.left s.right (evaluated_low f (and_left (letters_under n f) (letters_under n g) u) s.left_is)
      (evaluated_low g (and_right (letters_under n f) (letters_under n g) u) s.right_is)
      (evaluated_kept f s.left_is).0 (evaluated_kept g s.right_is).0 s.result_is
  evaluated_low (minus f g) u h =
      let s = on_results_lem difference_of (evaluate f) (evaluate g) h in
      difference_of_low s.left s.right (evaluated_low f (and_left (letters_under n f) (letters_under n g) u) s.left_is)
      (evaluated_low g (and_right (letters_under n f) (letters_under n g) u) s.right_is)
      (evaluated_kept f s.left_is).0 (evaluated_kept g s.right_is).0 s.result_is
  evaluated_low (negative f) u h =
      let s = on_result_lem (difference_of zero_polynomial) (evaluate f) h in
      difference_of_low zero_polynomial s.operand zero_low (evaluated_low f u s.operand_is)
      length_zero_polynomial (evaluated_kept f s.operand_is).0 s.result_is

pub evaluated_upper : (n : ℕ) (f : Formula) {p : Polynomial} → letters_under n f ≡ true → evaluate f ≡ some p → upper_free n p ≡ true
evaluated_upper n f {p} u h = low_free n p (evaluated_low n f u h)
