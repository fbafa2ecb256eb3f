-- Sums of a polynomial's coefficients, each times a weight of its monomial. A value at a vertex is such a sum, and so is one coefficient:
-- what the operations do to a sum with any weights is shown once.
use Prim.Native.Nat.{ℕ, suc, zero, ◌+◌, ◌≤◌, ◌<◌}
use native.Mathlib.Omega.{arith}
use mathlib.Core.Path.{◌≡◌, refl, sym, ap, ap₂, ◌∙◌}
use mathlib.Core.Bool.{Bool, true, false, ◌||◌}
use mathlib.Core.List.{[], ◌∷◌}
use lib.IntN.{ℤ, nat_abs}
use lib.ListN.{length}
use lib.Dec.{eqb, leb}
use borrow.Author.Tests.{eqb-true, eqb-false, leb-true}
use Rattle.exact.specs.Int.{◌⊕◌, ◌⊖◌, ◌⊗◌, 0ℤ}
use Rattle.exact.proofs.Ring.{add_assoc, add-zero, zero-add, zero-mul, mul-zero, sub_self}
use Rattle.exact.proofs.SizeLaws.{nat_abs_zero}
use Rattle.exact.proofs.Solver.{var, ◌:+◌, ◌:-◌, ◌:*◌, solve}
use Rattle.paper.specs.Limits.{degree_limit}
use Rattle.paper.proofs.Tests.{all_at}
use Rattle.formula.specs.Polynomial.{Polynomial, monomial_count, degree_at, product_slot, cell, is_zero, zeros, zero_polynomial, add_at}
use Rattle.formula.specs.Polynomial.{single, cellwise, unless_nought, add_row, add_rows, multiplied, row_fits, fits}
use Rattle.formula.proofs.Sizes.{length_zero_polynomial, length_add_at, length_add_row, length_unless_nought}
use Rattle.formula.proofs.Slots.{product_placed}

-- ---- cells

pub zero_is : (x : ℤ) → is_zero x ≡ true → x ≡ 0ℤ
unfolding is_zero
zero_is x h = nat_abs_zero x (eqb-true (nat_abs x) 0 h)

pub cell_zeros : (m j : ℕ) → cell (zeros m) j ≡ 0ℤ
unfolding cell zeros
cell_zeros zero j = refl
cell_zeros (suc m) zero = refl
cell_zeros (suc m) (suc j) = cell_zeros m j

pub cell_added : (p : Polynomial) (k : ℕ) (x : ℤ) → k < length p → cell (add_at p k x) k ≡ cell p k ⊕ x
unfolding cell add_at
cell_added [] k x h = absurd (omega arith)
cell_added (y ∷ p) zero x h = refl
cell_added (y ∷ p) (suc k) x h = cell_added p k x (omega arith)

pub cell_other : (p : Polynomial) (k j : ℕ) (x : ℤ) → (j ≡ k → ⊥) → cell (add_at p k x) j ≡ cell p j
unfolding cell add_at
cell_other [] k j x h = refl
cell_other (y ∷ p) zero zero x h = absurd (h refl)
cell_other (y ∷ p) zero (suc j) x h = refl
cell_other (y ∷ p) (suc k) zero x h = refl
cell_other (y ∷ p) (suc k) (suc j) x h = cell_other p k j x (λ e. h (ap suc e))

pub cell_cellwise :
    (f : ℤ → ℤ → ℤ) (p q : Polynomial) (j : ℕ) → length p ≡ length q → j < length p → cell (cellwise f p q) j ≡ f (cell p j) (cell q j)
unfolding cell cellwise
cell_cellwise f [] q j h l = absurd (omega arith)
cell_cellwise f (x ∷ p) [] j h l = absurd (omega arith)
cell_cellwise f (x ∷ p) (y ∷ q) zero h l = refl
cell_cellwise f (x ∷ p) (y ∷ q) (suc j) h l = cell_cellwise f p q j (omega arith) (omega arith)

-- ---- weighted sums

-- of the m coefficients from coefficient k on
unfoldable pub weighted_from : (ℕ → ℤ) → Polynomial → ℕ → ℕ → ℤ
weighted_from w p k zero = 0ℤ
weighted_from w p k (suc m) = cell p k ⊗ w k ⊕ weighted_from w p (k + 1) m

unfoldable pub weighted : (ℕ → ℤ) → Polynomial → ℤ
weighted w p = weighted_from w p 0 monomial_count

-- the weight of a coefficient 0 does not count
pub weights_same :
    (w u : ℕ → ℤ) (p : Polynomial) (k m : ℕ) → ((j : ℕ) → k ≤ j → j < k + m → is_zero (cell p j) ≡ false → w j ≡ u j)
    → weighted_from w p k m ≡ weighted_from u p k m
unfolding weighted_from
weights_same w u p k zero f = refl
weights_same w u p k (suc m) f =
    ap₂ ◌⊕◌ (go (is_zero (cell p k)) refl) (weights_same w u p (k + 1) m (λ j l h. f j (omega arith) (omega arith)))
  where
    go : (b : Bool) → is_zero (cell p k) ≡ b → cell p k ⊗ w k ≡ cell p k ⊗ u k
    go true e = ap (λ x. x ⊗ w k) (zero_is (cell p k) e) ∙ zero-mul (w k) ∙ sym (ap (λ x. x ⊗ u k) (zero_is (cell p k) e) ∙ zero-mul (u k))
    go false e = ap (λ x. cell p k ⊗ x) (f k (omega arith) (omega arith) e)

cells_same :
    (w : ℕ → ℤ) (p q : Polynomial) (k m : ℕ) → ((j : ℕ) → k ≤ j → j < k + m → cell p j ≡ cell q j) → weighted_from w p k m ≡ weighted_from w q k m
unfolding weighted_from
cells_same w p q k zero f = refl
cells_same w p q k (suc m) f =
    ap₂ ◌⊕◌ (ap (λ x. x ⊗ w k) (f k (omega arith) (omega arith))) (cells_same w p q (k + 1) m (λ j l h. f j (omega arith) (omega arith)))

pub weights_scaled : (c : ℤ) (w : ℕ → ℤ) (p : Polynomial) (k m : ℕ) → weighted_from (λ j. c ⊗ w j) p k m ≡ c ⊗ weighted_from w p k m
unfolding weighted_from
weights_scaled c w p k zero = sym (mul-zero c)
weights_scaled c w p k (suc m) =
    ap (λ x. cell p k ⊗ (c ⊗ w k) ⊕ x) (weights_scaled c w p (k + 1) m)
    ∙ solve (var 0 :* (var 1 :* var 2) :+ var 1 :* var 3) (var 1 :* (var 0 :* var 2 :+ var 3))
    (cell p k ∷ c ∷ w k ∷ weighted_from w p (k + 1) m ∷ []) refl

-- ---- of one operation each

pub weighted_zeros : (w : ℕ → ℤ) → weighted w zero_polynomial ≡ 0ℤ
unfolding weighted weighted_from zero_polynomial
weighted_zeros w = from 0 monomial_count
  where
    from : (k m : ℕ) → weighted_from w (zeros monomial_count) k m ≡ 0ℤ
    from k zero = refl
    from k (suc m) = ap₂ ◌⊕◌ (ap (λ x. x ⊗ w k) (cell_zeros monomial_count k) ∙ zero-mul (w k)) (from (k + 1) m) ∙ zero-add 0ℤ

added_from :
    (w : ℕ → ℤ) (p : Polynomial) (t : ℕ) (x : ℤ) (k m : ℕ) → t < length p → k ≤ t → t < k + m
    → weighted_from w (add_at p t x) k m ≡ weighted_from w p k m ⊕ x ⊗ w t
unfolding weighted_from
added_from w p t x k zero l low high = absurd (omega arith)
added_from w p t x k (suc m) l low high = go (eqb k t) refl (added_from w p t x (k + 1) m l)
  where
    go :
        (b : Bool) → eqb k t ≡ b
        → (k + 1 ≤ t → t < k + 1 + m → weighted_from w (add_at p t x) (k + 1) m ≡ weighted_from w p (k + 1) m ⊕ x ⊗ w t)
        → weighted_from w (add_at p t x) k (suc m) ≡ weighted_from w p k (suc m) ⊕ x ⊗ w t
    go true e later =
        let here : k ≡ t = eqb-true k t e in
        ap₂ (λ a b. a ⊗ w k ⊕ b)
        (ap (cell (add_at p t x)) here ∙ cell_added p t x l ∙ ap (λ (j : ℕ). cell p j ⊕ x) (sym here))
        (cells_same w (add_at p t x) p (k + 1) m (λ j a b. cell_other p t j x (λ i. omega arith)))
        ∙ solve ((var 0 :+ var 1) :* var 2 :+ var 3) (var 0 :* var 2 :+ var 3 :+ var 1 :* var 2)
        (cell p k ∷ x ∷ w k ∷ weighted_from w p (k + 1) m ∷ []) refl
        ∙ ap (λ (j : ℕ). weighted_from w p k (suc m) ⊕ x ⊗ w j) here
    go false e later =
        let n : k ≡ t → ⊥ = eqb-false k t e in
        ap₂ (λ a b. a ⊗ w k ⊕ b) (cell_other p t k x n) (later (omega arith) (omega arith))
        ∙ sym (add_assoc (cell p k ⊗ w k) (weighted_from w p (k + 1) m) (x ⊗ w t))

-- one coefficient more
weighted_added :
    (w : ℕ → ℤ) (p : Polynomial) (t : ℕ) (x : ℤ) → length p ≡ monomial_count → t < monomial_count
    → weighted w (add_at p t x) ≡ weighted w p ⊕ x ⊗ w t
unfolding weighted
weighted_added w p t x l h = added_from w p t x 0 monomial_count (omega arith) (omega arith) (omega arith)

pub weighted_single : (w : ℕ → ℤ) (t : ℕ) (x : ℤ) → t < monomial_count → weighted w (single t x) ≡ x ⊗ w t
unfolding single
weighted_single w t x h =
    weighted_added w zero_polynomial t x length_zero_polynomial h ∙ ap (λ y. y ⊕ x ⊗ w t) (weighted_zeros w) ∙ zero-add (x ⊗ w t)

-- an operation on the coefficients that goes through the sums
module _ (f : ℤ → ℤ → ℤ) (zero_is : f 0ℤ 0ℤ ≡ 0ℤ) (through : (a b c d e : ℤ) → f a b ⊗ c ⊕ f d e ≡ f (a ⊗ c ⊕ d) (b ⊗ c ⊕ e)) where
  cellwise_from :
      (w : ℕ → ℤ) (p q : Polynomial) (k m : ℕ) → length p ≡ length q → k + m ≤ length p
      → weighted_from w (cellwise f p q) k m ≡ f (weighted_from w p k m) (weighted_from w q k m)
  unfolding weighted_from
  cellwise_from w p q k zero l h = sym zero_is
  cellwise_from w p q k (suc m) l h =
      ap₂ (λ a b. a ⊗ w k ⊕ b) (cell_cellwise f p q k l (omega arith)) (cellwise_from w p q (k + 1) m l (omega arith))
      ∙ through (cell p k) (cell q k) (w k) (weighted_from w p (k + 1) m) (weighted_from w q (k + 1) m)

  weighted_cellwise :
      (w : ℕ → ℤ) (p q : Polynomial) → length p ≡ monomial_count → length q ≡ monomial_count
      → weighted w (cellwise f p q) ≡ f (weighted w p) (weighted w q)
  unfolding weighted
  weighted_cellwise w p q lp lq = cellwise_from w p q 0 monomial_count (lp ∙ sym lq) (omega arith)

pub weighted_sum :
    (w : ℕ → ℤ) (p q : Polynomial) → length p ≡ monomial_count → length q ≡ monomial_count
    → weighted w (cellwise ◌⊕◌ p q) ≡ weighted w p ⊕ weighted w q
weighted_sum = weighted_cellwise ◌⊕◌ (zero-add 0ℤ) through
  where
    through : (a b c d e : ℤ) → (a ⊕ b) ⊗ c ⊕ (d ⊕ e) ≡ a ⊗ c ⊕ d ⊕ (b ⊗ c ⊕ e)
    through a b c d e =
        solve ((var 0 :+ var 1) :* var 2 :+ (var 3 :+ var 4)) (var 0 :* var 2 :+ var 3 :+ (var 1 :* var 2 :+ var 4)) (a ∷ b ∷ c ∷ d ∷ e ∷ []) refl

pub weighted_difference :
    (w : ℕ → ℤ) (p q : Polynomial) → length p ≡ monomial_count → length q ≡ monomial_count
    → weighted w (cellwise ◌⊖◌ p q) ≡ weighted w p ⊖ weighted w q
weighted_difference = weighted_cellwise ◌⊖◌ (sub_self 0ℤ) through
  where
    through : (a b c d e : ℤ) → (a ⊖ b) ⊗ c ⊕ (d ⊖ e) ≡ a ⊗ c ⊕ d ⊖ (b ⊗ c ⊕ e)
    through a b c d e =
        solve ((var 0 :- var 1) :* var 2 :+ (var 3 :- var 4)) (var 0 :* var 2 :+ var 3 :- (var 1 :* var 2 :+ var 4)) (a ∷ b ∷ c ∷ d ∷ e ∷ []) refl

-- ---- products

-- the degree limit of a pair of coefficients that are not 0
pub fits_pair :
    (p q : Polynomial) → fits p q ≡ true → (i k : ℕ) → i < monomial_count → k < monomial_count → is_zero (cell p i) ≡ false → is_zero (cell q k) ≡ false
    → degree_at i + degree_at k ≤ degree_limit
unfolding fits row_fits
fits_pair p q h i k u v e f =
    let row : (is_zero (cell p i) || row_fits i q) ≡ true = all_at _ 0 monomial_count i h (omega arith) (omega arith) in
    let in_row : row_fits i q ≡ true = rw e at row in
    let low : Bool = leb (degree_at i + degree_at k) degree_limit in
    let pair : (is_zero (cell q k) || low) ≡ true = all_at _ 0 monomial_count k in_row (omega arith) (omega arith) in
    leb-true (degree_at i + degree_at k) degree_limit (rw f at pair)

-- a row has places for its terms
abbrev Placed : ℕ → Polynomial → Type 0
Placed i q = (k : ℕ) → k < monomial_count → is_zero (cell q k) ≡ false → product_slot i k < monomial_count

unless_nought_lem :
    (w : ℕ → ℤ) (x : ℤ) (next r : Polynomial) (y : ℤ) → (is_zero x ≡ false → weighted w next ≡ weighted w r ⊕ x ⊗ y)
    → weighted w (unless_nought x next r) ≡ weighted w r ⊕ x ⊗ y
unfolding unless_nought
unless_nought_lem w x next r y h = go (is_zero x) refl
  where
    go : (b : Bool) → is_zero x ≡ b → weighted w (unless_nought x next r) ≡ weighted w r ⊕ x ⊗ y
    go true e = rw e (sym (ap (λ z. weighted w r ⊕ z ⊗ y) (zero_is x e) ∙ ap (λ z. weighted w r ⊕ z) (zero-mul y) ∙ add-zero (weighted w r)))
    go false e = rw e (h e)

-- a row: c · monomial i · q
row_from :
    (w : ℕ → ℤ) (c : ℤ) (i : ℕ) (q : Polynomial) → Placed i q → (k m : ℕ) (r : Polynomial) → k + m ≤ monomial_count → length r ≡ monomial_count
    → weighted w (add_row c i q k m r) ≡ weighted w r ⊕ weighted_from (λ j. c ⊗ w (product_slot i j)) q k m
unfolding weighted_from add_row
row_from w c i q h k zero r u l = sym (add-zero (weighted w r))
row_from w c i q h k (suc m) r u l =
    let next : Polynomial = add_at r (product_slot i k) (c ⊗ cell q k) in
    let x : ℤ = cell q k in
    let y : ℤ = c ⊗ w (product_slot i k) in
    let lengths : length (unless_nought x next r) ≡ monomial_count = length_unless_nought x next r (length_add_at r (product_slot i k) (c ⊗ x)) ∙ l in
    row_from w c i q h (k + 1) m (unless_nought x next r) (omega arith) lengths
    ∙ ap (λ z. z ⊕ weighted_from (λ j. c ⊗ w (product_slot i j)) q (k + 1) m) (unless_nought_lem w x next r y term)
    ∙ add_assoc (weighted w r) (x ⊗ y) (weighted_from (λ j. c ⊗ w (product_slot i j)) q (k + 1) m)
  where
    term :
        is_zero (cell q k) ≡ false
        → weighted w (add_at r (product_slot i k) (c ⊗ cell q k)) ≡ weighted w r ⊕ cell q k ⊗ (c ⊗ w (product_slot i k))
    term e =
        weighted_added w r (product_slot i k) (c ⊗ cell q k) l (h k (omega arith) e)
        ∙ solve (var 0 :+ var 1 :* var 2 :* var 3) (var 0 :+ var 2 :* (var 1 :* var 3)) (weighted w r ∷ c ∷ cell q k ∷ w (product_slot i k) ∷ []) refl

-- the weights of a row
unfoldable pub row_weight : (ℕ → ℤ) → Polynomial → ℕ → ℤ
row_weight w q i = weighted (λ k. w (product_slot i k)) q

weighted_row :
    (w : ℕ → ℤ) (c : ℤ) (i : ℕ) (q : Polynomial) → Placed i q → (r : Polynomial) → length r ≡ monomial_count
    → weighted w (add_row c i q 0 monomial_count r) ≡ weighted w r ⊕ c ⊗ row_weight w q i
unfolding row_weight weighted
weighted_row w c i q h r l =
    row_from w c i q h 0 monomial_count r (omega arith) l
    ∙ ap (λ z. weighted w r ⊕ z) (weights_scaled c (λ j. w (product_slot i j)) q 0 monomial_count)

rows_from :
    (w : ℕ → ℤ) (p q : Polynomial) → ((i : ℕ) → i < monomial_count → is_zero (cell p i) ≡ false → Placed i q)
    → (i m : ℕ) (r : Polynomial) → i + m ≤ monomial_count → length r ≡ monomial_count
    → weighted w (add_rows p q i m r) ≡ weighted w r ⊕ weighted_from (row_weight w q) p i m
unfolding weighted_from add_rows
rows_from w p q h i zero r u l = sym (add-zero (weighted w r))
rows_from w p q h i (suc m) r u l =
    let next : Polynomial = add_row (cell p i) i q 0 monomial_count r in
    let x : ℤ = cell p i in
    let lengths : length (unless_nought x next r) ≡ monomial_count = length_unless_nought x next r (length_add_row x i q 0 monomial_count r) ∙ l in
    rows_from w p q h (i + 1) m (unless_nought x next r) (omega arith) lengths
    ∙ ap (λ z. z ⊕ weighted_from (row_weight w q) p (i + 1) m)
    (unless_nought_lem w x next r (row_weight w q i) (λ e. weighted_row w x i q (h i (omega arith) e) r l))
    ∙ add_assoc (weighted w r) (x ⊗ row_weight w q i) (weighted_from (row_weight w q) p (i + 1) m)

-- the product: the sum over all pairs of coefficients, each with the weight of the product of their monomials
pub weighted_product : (w : ℕ → ℤ) (p q : Polynomial) → fits p q ≡ true → weighted w (multiplied p q) ≡ weighted (row_weight w q) p
unfolding weighted multiplied
weighted_product w p q h =
    rows_from w p q placed 0 monomial_count zero_polynomial (omega arith) length_zero_polynomial
    ∙ ap (λ z. z ⊕ weighted_from (row_weight w q) p 0 monomial_count) (weighted_zeros w)
    ∙ zero-add (weighted_from (row_weight w q) p 0 monomial_count)
  where
    placed : (i : ℕ) → i < monomial_count → is_zero (cell p i) ≡ false → (k : ℕ) → k < monomial_count → is_zero (cell q k) ≡ false
        → product_slot i k < monomial_count
    placed i u e k v f = product_placed i k u v (fits_pair p q h i k u v e f)
