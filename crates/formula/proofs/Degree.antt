-- The degree limit of a product: `fits` refuses exactly the products with a term of a degree above the limit, and the coefficients of the others are
-- those of the product.
use Prim.Native.Nat.{ℕ, suc, zero, ◌+◌, ◌*◌, ◌<◌}
use native.Mathlib.Omega.{arith}
use native.Mathlib.Nat.{mul-le-mul}
use mathlib.Core.Path.{◌≡◌, refl, sym, ap, ap₂, ◌∙◌}
use mathlib.Core.Bool.{Bool, true, false, cond, ◌||◌, true≢false}
use mathlib.Core.Logic.{◌≢◌}
use mathlib.Core.List.{List}
use lib.IntN.{ℤ, nat_abs}
use lib.Dec.{eqb, leb}
use borrow.Author.Tests.{eqb-true, eqb-false, eq-eqb, ne_eqb, leb-false}
use Rattle.exact.specs.Int.{◌⊕◌, ◌⊗◌, 0ℤ, 1ℤ}
use Rattle.exact.specs.Minors.{sum_to}
use Rattle.exact.proofs.Ring.{add-zero, zero-add, zero-mul, mul-zero, mul-one, distrib_left}
use Rattle.exact.proofs.SizeLaws.{nat_abs_mul}
use Rattle.exact.proofs.Sums.{sum_to_ext, sum_to_zero}
use Rattle.paper.specs.Limits.{degree_limit}
use Rattle.paper.specs.RunningSum.{exponent_sum}
use Rattle.paper.proofs.Tests.{all_failing}
use Rattle.formula.specs.Polynomial.{Polynomial, monomial_count, exponents_at, degree_at, sum_exponents, same_exponents, slot, product_slot, cell}
use Rattle.formula.specs.Polynomial.{is_zero, multiplied, row_fits, fits}
use Rattle.formula.specs.Degree.{product_term, product_coefficient, DegreeAbove}
use Rattle.formula.proofs.Slots.{same_true, same_is, slot_holds, slot_at, sum_exponents_lem}
use Rattle.formula.proofs.Weighted.{zero_is, weighted_from, weighted, row_weight, fits_pair, weighted_product}
use Rattle.formula.proofs.Leading.{key, key_sum, key_at, key_only, key_degree, Highest, highest}

-- ---- sums of one summand

only_from : (m : ℕ) (f : ℕ → ℤ) (a : ℕ) → a < m → ((i : ℕ) → i < m → i ≢ a → f i ≡ 0ℤ) → sum_to m f ≡ f a
unfolding sum_to
only_from zero f a h z = absurd (omega arith)
only_from (suc m) f zero h z =
    ap (λ x. f zero ⊕ x) (sum_to_zero m (λ i. f (suc i)) (λ i u. z (suc i) (omega arith) (λ e. omega arith))) ∙ add-zero (f zero)
only_from (suc m) f (suc a) h z =
    ap₂ ◌⊕◌ (z zero (omega arith) (λ e. omega arith))
    (only_from m (λ i. f (suc i)) a (omega arith) (λ i u n. z (suc i) (omega arith) (λ e. n (omega arith))))
    ∙ zero-add (f (suc a))

scaled : (m : ℕ) (c : ℤ) (f : ℕ → ℤ) → sum_to m (λ i. c ⊗ f i) ≡ c ⊗ sum_to m f
unfolding sum_to
scaled zero c f = sym (mul-zero c)
scaled (suc m) c f = ap (λ x. c ⊗ f zero ⊕ x) (scaled m c (λ i. f (suc i))) ∙ sym (distrib_left c (f zero) (sum_to m (λ i. f (suc i))))

-- ---- numbers that are not 0

not_zero : (x : ℤ) → is_zero x ≡ false → 0 < nat_abs x
unfolding is_zero
not_zero x h = let n = eqb-false (nat_abs x) 0 h in omega (arith, n)

product_not_zero : (x y : ℤ) → is_zero x ≡ false → is_zero y ≡ false → x ⊗ y ≢ 0ℤ
product_not_zero x y h k e =
    let size : 0 ≡ nat_abs x * nat_abs y = sym (ap nat_abs e) ∙ nat_abs_mul x y in
    omega (arith, size, mul-le-mul (not_zero x h) (not_zero y k))

-- ---- products of terms

term_same : (p q : Polynomial) (e : List ℕ) (i k : ℕ) → sum_exponents (exponents_at i) (exponents_at k) ≡ e → product_term p q e i k ≡ cell p i ⊗ cell q k
unfolding product_term
term_same p q e i k h = rw (same_is (sum_exponents (exponents_at i) (exponents_at k)) e h)

-- a product that adds nothing
term_none :
    (p q : Polynomial) (e : List ℕ) (i k : ℕ)
    → (sum_exponents (exponents_at i) (exponents_at k) ≡ e → is_zero (cell p i) ≡ false → is_zero (cell q k) ≡ false → ⊥) → product_term p q e i k ≡ 0ℤ
unfolding product_term
term_none p q e i k h = go (same_exponents (sum_exponents (exponents_at i) (exponents_at k)) e) refl (is_zero (cell p i)) refl (is_zero (cell q k)) refl
  where
    go : (s : Bool) → same_exponents (sum_exponents (exponents_at i) (exponents_at k)) e ≡ s → (x : Bool) → is_zero (cell p i) ≡ x
        → (y : Bool) → is_zero (cell q k) ≡ y → product_term p q e i k ≡ 0ℤ
    go false a x b y c = rw a
    go true a true b y c = rw a (ap (λ z. z ⊗ cell q k) (zero_is (cell p i) b) ∙ zero-mul (cell q k))
    go true a false b true c = rw a (ap (λ z. cell p i ⊗ z) (zero_is (cell q k) c) ∙ mul-zero (cell p i))
    go true a false b false c = absurd (h (same_true (sum_exponents (exponents_at i) (exponents_at k)) e a) b c)

-- no term of a product that fits is of a degree above the limit
fits_none : (p q : Polynomial) → fits p q ≡ true → (e : List ℕ) → degree_limit < exponent_sum e → product_coefficient p q e ≡ 0ℤ
unfolding product_coefficient degree_at
fits_none p q h e l =
    sum_to_zero monomial_count _ (λ i u. sum_to_zero monomial_count _ (λ k v. term_none p q e i k (λ same a b. above i k u v same a b)))
  where
    above : (i k : ℕ) → i < monomial_count → k < monomial_count → sum_exponents (exponents_at i) (exponents_at k) ≡ e
        → is_zero (cell p i) ≡ false → is_zero (cell q k) ≡ false → ⊥
    above i k u v same a b =
        omega (arith, fits_pair p q h i k u v a b, sum_exponents_lem (exponents_at i) (exponents_at k), ap exponent_sum same)

-- two terms whose product is above the limit
record Apart (p q : Polynomial) : Type 0 where
  one : ℕ
  other : ℕ
  one_under : one < monomial_count
  other_under : other < monomial_count
  one_term : is_zero (cell p one) ≡ false
  other_term : is_zero (cell q other) ≡ false
  above : degree_limit < degree_at one + degree_at other

or_false : (a b : Bool) → (a || b) ≡ false → (a ≡ false) × (b ≡ false)
or_false true b h = absurd (true≢false h)
or_false false b h = (refl, h)

fits_apart : (p q : Polynomial) → fits p q ≡ false → Apart p q
unfolding fits row_fits
fits_apart p q h =
    let row = all_failing (λ i. is_zero (cell p i) || row_fits i q) 0 monomial_count h in
    let parts = or_false (is_zero (cell p row.at)) (row_fits row.at q) row.fails in
    let pair = all_failing (λ k. is_zero (cell q k) || leb (degree_at row.at + degree_at k) degree_limit) 0 monomial_count parts.1 in
    let last = or_false (is_zero (cell q pair.at)) (leb (degree_at row.at + degree_at pair.at) degree_limit) pair.fails in
    record {
      one = row.at;
      other = pair.at;
      one_under = omega (arith, row.under);
      other_under = omega (arith, pair.under);
      one_term = parts.0;
      other_term = last.0;
      above = leb-false (degree_at row.at + degree_at pair.at) degree_limit last.1;
    }

-- the product of the two highest terms stands alone
module _ (p q : Polynomial) (x : Highest p monomial_count) (y : Highest q monomial_count) where
  leading : List ℕ
  leading = sum_exponents (exponents_at x.at) (exponents_at y.at)

  alone :
      (i k : ℕ) → i < monomial_count → k < monomial_count → sum_exponents (exponents_at i) (exponents_at k) ≡ leading
      → is_zero (cell p i) ≡ false → is_zero (cell q k) ≡ false → (i ≡ x.at) × (k ≡ y.at)
  unfolding leading key_at
  alone i k u v same a b =
      let sums : key_at i + key_at k ≡ key_at x.at + key_at y.at =
      sym (key_sum (exponents_at i) (exponents_at k)) ∙ ap key same ∙ key_sum (exponents_at x.at) (exponents_at y.at) in
      let left = x.largest i u a in
      let right = y.largest k v b in
      (key_only i x.at u x.under (omega arith), key_only k y.at v y.under (omega arith))

  leading_coefficient : product_coefficient p q leading ≡ cell p x.at ⊗ cell q y.at
  unfolding product_coefficient leading
  leading_coefficient =
      only_from monomial_count _ x.at x.under
      (λ i u n. sum_to_zero monomial_count _ (λ k v. term_none p q leading i k (λ s a b. n (alone i k u v s a b).0)))
      ∙ only_from monomial_count _ y.at y.under (λ k v n. term_none p q leading x.at k (λ s a b. n (alone x.at k x.under v s a b).1))
      ∙ term_same p q leading x.at y.at refl

fits_above : (p q : Polynomial) → fits p q ≡ false → DegreeAbove p q
unfolding leading degree_at
fits_above p q h =
    let a = fits_apart p q h in
    let x = highest p a.one a.one_under a.one_term monomial_count (omega arith) in
    let y = highest q a.other a.other_under a.other_term monomial_count (omega arith) in
    let first = key_degree a.one x.at a.one_under x.under (x.largest a.one a.one_under a.one_term) in
    let second = key_degree a.other y.at a.other_under y.under (y.largest a.other a.other_under a.other_term) in
    record {
      exponents = leading p q x y;
      above = omega (arith, a.above, first, second, sum_exponents_lem (exponents_at x.at) (exponents_at y.at));
      coefficient = λ e. product_not_zero (cell p x.at) (cell q y.at) x.is_term_lem y.is_term_lem (sym (leading_coefficient p q x y) ∙ e);
    }

-- the limit is exact: a product that fits has no term of a degree above it, and every other product has one
pub fits_exactly :
    (p q : Polynomial)
    → (fits p q ≡ true → (e : List ℕ) → degree_limit < exponent_sum e → product_coefficient p q e ≡ 0ℤ) × (fits p q ≡ false → DegreeAbove p q)
fits_exactly p q = (fits_none p q, fits_above p q)

-- ---- the coefficients of a product that fits

-- weights that pick coefficient k
pick : ℕ → ℕ → ℤ
pick k j = cond (eqb j k) 1ℤ 0ℤ

weighted_summed : (w : ℕ → ℤ) (p : Polynomial) (k m : ℕ) → weighted_from w p k m ≡ sum_to m (λ j. cell p (k + j) ⊗ w (k + j))
unfolding weighted_from sum_to
weighted_summed w p k zero = refl
weighted_summed w p k (suc m) =
    let from : k ≡ k + 0 = omega arith in
    ap₂ ◌⊕◌ (ap (λ (j : ℕ). cell p j ⊗ w j) from)
    (weighted_summed w p (k + 1) m
    ∙ sum_to_ext m _ _ (λ j u. let next : k + 1 + j ≡ k + suc j = omega arith in ap (λ (j : ℕ). cell p j ⊗ w j) next))

summed : (w : ℕ → ℤ) (p : Polynomial) → weighted w p ≡ sum_to monomial_count (λ j. cell p j ⊗ w j)
unfolding weighted
summed w p =
    weighted_summed w p 0 monomial_count
    ∙ sum_to_ext monomial_count _ _ (λ j u. let from : 0 + j ≡ j = omega arith in ap (λ (j : ℕ). cell p j ⊗ w j) from)

picked : (p : Polynomial) (k : ℕ) → k < monomial_count → weighted (pick k) p ≡ cell p k
unfolding pick
picked p k h =
    summed (pick k) p
    ∙ only_from monomial_count (λ j. cell p j ⊗ pick k j) k h
    (λ j u n. ap (λ (b : Bool). cell p j ⊗ cond b 1ℤ 0ℤ) (ne_eqb j k n) ∙ mul-zero (cell p j))
    ∙ ap (λ (b : Bool). cell p k ⊗ cond b 1ℤ 0ℤ) (eq-eqb k k refl)
    ∙ mul-one (cell p k)

-- the product of two monomials is monomial k exactly if the exponents say so
same_slot : (e : List ℕ) (k : ℕ) → k < monomial_count → eqb (slot e) k ≡ same_exponents e (exponents_at k)
same_slot e k h = go (eqb (slot e) k) refl (same_exponents e (exponents_at k)) refl
  where
    go : (a : Bool) → eqb (slot e) k ≡ a → (b : Bool) → same_exponents e (exponents_at k) ≡ b → eqb (slot e) k ≡ same_exponents e (exponents_at k)
    go true x true y = x ∙ sym y
    go false x false y = x ∙ sym y
    go true x false y =
        let at : slot e ≡ k = eqb-true (slot e) k x in
        let same : e ≡ exponents_at k = sym (slot_holds e (omega arith)) ∙ ap exponents_at at in
        absurd (true≢false (sym (same_is e (exponents_at k) same) ∙ y))
    go false x true y =
        absurd (eqb-false (slot e) k x (ap slot (same_true e (exponents_at k) y) ∙ slot_at k h))

pair_picked :
    (p q : Polynomial) (t i k : ℕ) → t < monomial_count → cell p i ⊗ (cell q k ⊗ pick t (product_slot i k)) ≡ product_term p q (exponents_at t) i k
unfolding pick product_slot product_term
pair_picked p q t i k h =
    ap (λ (b : Bool). cell p i ⊗ (cell q k ⊗ cond b 1ℤ 0ℤ)) (same_slot (sum_exponents (exponents_at i) (exponents_at k)) t h)
    ∙ go (same_exponents (sum_exponents (exponents_at i) (exponents_at k)) (exponents_at t))
  where
    go : (b : Bool) → cell p i ⊗ (cell q k ⊗ cond b 1ℤ 0ℤ) ≡ cond b (cell p i ⊗ cell q k) 0ℤ
    go true = ap (λ x. cell p i ⊗ x) (mul-one (cell q k))
    go false = ap (λ x. cell p i ⊗ x) (mul-zero (cell q k)) ∙ mul-zero (cell p i)

pub multiplied_cells :
    (p q : Polynomial) → fits p q ≡ true → (k : ℕ) → k < monomial_count → cell (multiplied p q) k ≡ product_coefficient p q (exponents_at k)
unfolding product_coefficient row_weight
multiplied_cells p q h t u =
    sym (picked (multiplied p q) t u)
    ∙ weighted_product (pick t) p q h
    ∙ summed (row_weight (pick t) q) p
    ∙ sum_to_ext monomial_count _ _ row
  where
    row : (i : ℕ) → i < monomial_count → cell p i ⊗ row_weight (pick t) q i ≡ sum_to monomial_count (product_term p q (exponents_at t) i)
    row i l =
        ap (λ x. cell p i ⊗ x) (summed (λ k. pick t (product_slot i k)) q)
        ∙ sym (scaled monomial_count (cell p i) (λ k. cell q k ⊗ pick t (product_slot i k)))
        ∙ sum_to_ext monomial_count _ _ (λ k v. pair_picked p q t i k u)
