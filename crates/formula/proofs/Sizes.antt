-- Every result of an operation on polynomials has one coefficient for each monomial, and all are within the limit.
use Prim.Native.Nat.{ℕ, suc, zero, ◌+◌}
use mathlib.Core.Path.{◌≡◌, refl, sym, ap, subst, ◌∙◌}
use mathlib.Core.Bool.{Bool, true, false, true≢false}
use mathlib.Core.List.{[], ◌∷◌}
use mathlib.Core.Option.{Option, none, some}
use lib.IntN.{ℤ, pos}
use lib.ListN.{length}
use Rattle.exact.specs.Int.{◌⊕◌, ◌⊖◌, ◌⊗◌, 1ℤ}
use Rattle.formula.specs.Grammar.{Formula, number, letter, parens, raised, times, plus, minus, negative}
use Rattle.formula.specs.Polynomial.{Polynomial, monomial_count, slot, product_slot, unit_exponents, cell, is_zero, zeros, zero_polynomial}
use Rattle.formula.specs.Polynomial.{add_at, single, cellwise, unless_nought, add_row, add_rows, multiplied, fits}
use Rattle.formula.specs.Polynomial.{Kept, coefficients_within, within, constant, variable_polynomial, sum_of, difference_of, product_of}
use Rattle.formula.specs.Meaning.{on_result, on_results, power_of, evaluate}

-- ---- lengths

pub length_zeros : (m : ℕ) → length (zeros m) ≡ m
unfolding zeros
length_zeros zero = refl
length_zeros (suc m) = ap suc (length_zeros m)

pub length_add_at : (p : Polynomial) (k : ℕ) (x : ℤ) → length (add_at p k x) ≡ length p
unfolding add_at
length_add_at [] k x = refl
length_add_at (y ∷ p) zero x = refl
length_add_at (y ∷ p) (suc k) x = ap suc (length_add_at p k x)

pub length_single : (k : ℕ) (x : ℤ) → length (single k x) ≡ monomial_count
unfolding single zero_polynomial
length_single k x = length_add_at (zeros monomial_count) k x ∙ length_zeros monomial_count

pub length_cellwise : (f : ℤ → ℤ → ℤ) (p q : Polynomial) → length p ≡ length q → length (cellwise f p q) ≡ length p
unfolding cellwise
length_cellwise f [] q h = refl
length_cellwise f (x ∷ p) [] h = sym h
length_cellwise f (x ∷ p) (y ∷ q) h = ap suc (length_cellwise f p q (suc_same h))
  where
    suc_same : {a b : ℕ} → suc a ≡ suc b → a ≡ b
    suc_same e = cc

pub length_unless_nought : (x : ℤ) (next r : Polynomial) → length next ≡ length r → length (unless_nought x next r) ≡ length r
unfolding unless_nought
length_unless_nought x next r h = go (is_zero x) refl
  where
    go : (b : Bool) → is_zero x ≡ b → length (unless_nought x next r) ≡ length r
    go true e = rw e
    go false e = rw e h

pub length_add_row : (c : ℤ) (i : ℕ) (q : Polynomial) (k m : ℕ) (r : Polynomial) → length (add_row c i q k m r) ≡ length r
unfolding add_row
length_add_row c i q k zero r = refl
length_add_row c i q k (suc m) r =
    length_add_row c i q (k + 1) m _ ∙ length_unless_nought (cell q k) _ r (length_add_at r (product_slot i k) (c ⊗ cell q k))

pub length_add_rows : (p q : Polynomial) (i m : ℕ) (r : Polynomial) → length (add_rows p q i m r) ≡ length r
unfolding add_rows
length_add_rows p q i zero r = refl
length_add_rows p q i (suc m) r =
    length_add_rows p q (i + 1) m _ ∙ length_unless_nought (cell p i) _ r (length_add_row (cell p i) i q 0 monomial_count r)

pub length_multiplied : (p q : Polynomial) → length (multiplied p q) ≡ monomial_count
unfolding multiplied zero_polynomial
length_multiplied p q = length_add_rows p q 0 monomial_count (zeros monomial_count) ∙ length_zeros monomial_count

-- ---- results

-- nothing is no result
pub none_some : {r : Polynomial} → none ≡ some r → ⊥
none_some {r} h = let same : true ≡ false = ap is_there (sym h) in true≢false same
  where
    is_there : Option Polynomial → Bool
    is_there none = false
    is_there (some p) = true

-- a result within the limit is what was made
pub within_some : (p : Polynomial) {r : Polynomial} → within p ≡ some r → (r ≡ p) × (coefficients_within p ≡ true)
unfolding within
within_some p {r} h = go (coefficients_within p) refl
  where
    go : (b : Bool) → coefficients_within p ≡ b → (r ≡ p) × (coefficients_within p ≡ true)
    go true e = let same : some p ≡ some r = rw e at h in (cc, e)
    go false e = let same : none ≡ some r = rw e at h in absurd (none_some same)

within_kept : (p : Polynomial) {r : Polynomial} → length p ≡ monomial_count → within p ≡ some r → Kept r
within_kept p l h = let w = within_some p h in subst Kept (sym w.0) (l, w.1)

pub constant_kept : (v : ℕ) {r : Polynomial} → constant v ≡ some r → Kept r
unfolding constant
constant_kept v h = within_kept _ (length_single 0 (pos v)) h

pub variable_kept : (a : ℕ) {r : Polynomial} → variable_polynomial a ≡ some r → Kept r
unfolding variable_polynomial
variable_kept a h = within_kept _ (length_single (slot (unit_exponents a)) 1ℤ) h

sum_kept : (p q : Polynomial) {r : Polynomial} → length p ≡ monomial_count → length q ≡ monomial_count → sum_of p q ≡ some r → Kept r
unfolding sum_of
sum_kept p q lp lq h = within_kept _ (length_cellwise ◌⊕◌ p q (lp ∙ sym lq) ∙ lp) h

difference_kept : (p q : Polynomial) {r : Polynomial} → length p ≡ monomial_count → length q ≡ monomial_count → difference_of p q ≡ some r → Kept r
unfolding difference_of
difference_kept p q lp lq h = within_kept _ (length_cellwise ◌⊖◌ p q (lp ∙ sym lq) ∙ lp) h

-- a product that fits
pub product_some : (p q : Polynomial) {r : Polynomial} → product_of p q ≡ some r → (fits p q ≡ true) × (within (multiplied p q) ≡ some r)
unfolding product_of
product_some p q {r} h = go (fits p q) refl
  where
    go : (b : Bool) → fits p q ≡ b → (fits p q ≡ true) × (within (multiplied p q) ≡ some r)
    go true e = (e, rw e at h)
    go false e = let same : none ≡ some r = rw e at h in absurd (none_some same)

pub product_kept : (p q : Polynomial) {r : Polynomial} → product_of p q ≡ some r → Kept r
product_kept p q h = within_kept _ (length_multiplied p q) (product_some p q h).1

-- an operation on results has a result only if they are there
pub record Operand (o : Polynomial → Option Polynomial) (x : Option Polynomial) (r : Polynomial) : Type 0 where
  pub operand : Polynomial
  pub operand_is : x ≡ some operand
  pub result_is : o operand ≡ some r

pub on_result_lem : (o : Polynomial → Option Polynomial) (x : Option Polynomial) {r : Polynomial} → on_result o x ≡ some r → Operand o x r
unfolding on_result
on_result_lem o none h = absurd (none_some h)
on_result_lem o (some p) h = record { operand = p; operand_is = refl; result_is = h }

pub record Operands (o : Polynomial → Polynomial → Option Polynomial) (x y : Option Polynomial) (r : Polynomial) : Type 0 where
  pub left : Polynomial
  pub right : Polynomial
  pub left_is : x ≡ some left
  pub right_is : y ≡ some right
  pub result_is : o left right ≡ some r

pub on_results_lem :
    (o : Polynomial → Polynomial → Option Polynomial) (x y : Option Polynomial) {r : Polynomial} → on_results o x y ≡ some r → Operands o x y r
unfolding on_results
on_results_lem o x y h =
    let outer = on_result_lem (λ p. on_result (o p) y) x h in
    let inner = on_result_lem (o outer.operand) y outer.result_is in
    record {
      left = outer.operand;
      right = inner.operand;
      left_is = outer.operand_is;
      right_is = inner.operand_is;
      result_is = inner.result_is;
    }

pub power_kept : (p : Polynomial) (k : ℕ) {r : Polynomial} → power_of p k ≡ some r → Kept r
unfolding power_of
power_kept p zero h = constant_kept 1 h
power_kept p (suc k) h = let s = on_result_lem (λ q. product_of q p) (power_of p k) h in product_kept s.operand p s.result_is

pub length_zero_polynomial : length zero_polynomial ≡ monomial_count
unfolding zero_polynomial
length_zero_polynomial = length_zeros monomial_count

-- the polynomial of a reading, and so every inner result
pub evaluated_kept : (f : Formula) {p : Polynomial} → evaluate f ≡ some p → Kept p
unfolding evaluate
evaluated_kept (number v) h = constant_kept v h
evaluated_kept (letter a) h = variable_kept a h
evaluated_kept (parens f) h = evaluated_kept f h
evaluated_kept (raised f k) h = let s = on_result_lem (λ p. power_of p k) (evaluate f) h in power_kept s.operand k s.result_is
evaluated_kept (times f g) h =
    let s = on_results_lem product_of (evaluate f) (evaluate g) h in product_kept s.left s.right s.result_is
evaluated_kept (plus f g) h =
    let s = on_results_lem sum_of (evaluate f) (evaluate g) h in
    sum_kept s.left s.right (evaluated_kept f s.left_is).0 (evaluated_kept g s.right_is).0 s.result_is
evaluated_kept (minus f g) h =
    let s = on_results_lem difference_of (evaluate f) (evaluate g) h in
    difference_kept s.left s.right (evaluated_kept f s.left_is).0 (evaluated_kept g s.right_is).0 s.result_is
evaluated_kept (negative f) h =
    let s = on_result_lem (difference_of zero_polynomial) (evaluate f) h in
    difference_kept zero_polynomial s.operand length_zero_polynomial (evaluated_kept f s.operand_is).0 s.result_is
