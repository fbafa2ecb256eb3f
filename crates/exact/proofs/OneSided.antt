-- A facet on whose vertices one polynomial has one side only is not crossed, over the dimension: of row r, all entries are at most 0, or all are
-- above 0 and r is not the top row. Of the other entries, and of the number and the lengths of the columns, nothing is asked.
-- Idea: the entries of a row times the coefficients of power j have sum D if j is the row, and else 0 (`row_sum`). Where the coefficients
-- of the lower powers are 0, that of power j is 0 or has the sign of D: so the products with entries of one sign have one sign, and if
-- their sum is 0 each is 0.
use Prim.Native.Nat.{ℕ, suc, zero, ◌<◌}
use native.Mathlib.Omega.{arith}
use native.Mathlib.Decide.{ℕ_discrete}
use mathlib.Core.Path.{◌≡◌, refl, sym, ap, ap₂, ◌∙◌}
use mathlib.Core.Bool.{Bool, true, false, true≢false}
use mathlib.Core.Logic.{◌⊎◌, inl, inr}
use mathlib.Core.List.{List, [], ◌∷◌}
use lib.Dec.{leb-suc-zero}
use lib.IntN.{ℤ, pos, negsuc}
use lib.ListN.{length, get_or, set}
use lib.Signed.{le_z}
use Rattle.exact.specs.Int.{◌⊕◌, ◌⊖◌, ◌⊗◌, 0ℤ, 1ℤ}
use Rattle.exact.specs.Sign.{Sign, negative, nought, positive, sign, same_sign}
use Rattle.exact.specs.Det.{Column, det, rows_from, determinant}
use Rattle.exact.specs.Crossed.{unit_column, coefficient, coefficients, crossed, remove}
use Rattle.exact.specs.Minors.{alternate, sum_to}
use Rattle.exact.proofs.Ring.{one_mul, zero-mul, mul-zero}
use Rattle.exact.proofs.Linear.{split, linear}
use Rattle.exact.proofs.SignLaws.{opposite, sign_times, sign_mul, sign_zero, sign_nought, sign_add_same, sign_add_nought_left, sign_add_nought_right}
use Rattle.exact.proofs.Alternate.{alternate_twice}
use Rattle.exact.proofs.DetRows.{laplace_cons, det_row_in}
use Rattle.exact.proofs.DetColumns.{det_swaps}
use Rattle.exact.proofs.DetSize.{det_other_length, length_rows_from}
use Rattle.exact.proofs.Sums.{sum_to_ext, sum_to_zero}
use Rattle.exact.proofs.Tagged.{insert_front}
use Rattle.exact.proofs.Rows.{row, row_in, laplace_sum}
use Rattle.exact.proofs.LexSign.{sign_discrete, sign_times_nought, opposite_fixed}
use Rattle.exact.proofs.CrossedTest.{SignsAgree, crossed→signs, lex_sign_of_first}

-- ---- a row times the coefficients of a power

unit_same : (j : ℕ) → get_or (unit_column j) j 0ℤ ≡ 1ℤ
unfolding unit_column
unit_same zero = refl
unit_same (suc j) = unit_same j

unit_below : (j r : ℕ) → j < r → get_or (unit_column j) r 0ℤ ≡ 0ℤ
unfolding unit_column
unit_below j zero h = absurd (omega arith)
unit_below zero (suc r) h = refl
unit_below (suc j) (suc r) h = unit_below j r (omega arith)

difference_zero : (x y : ℤ) → x ⊖ y ≡ 0ℤ → y ≡ x
difference_zero x y = rw (split x, split y) (simp linear (omega arith))

-- the determinant with row r twice, and the unit column in front
pub row_sum :
    (n : ℕ) (cs : List Column) → length cs ≡ n → (r j : ℕ) → r < n
    → sum_to n (λ i. get_or (get_or cs i []) r 0ℤ ⊗ coefficient n cs i j) ≡ get_or (unit_column j) r 0ℤ ⊗ determinant n cs
unfolding coefficient determinant det
row_sum n cs size r j h =
    ap (λ m. sum_to m (λ i. row r (get_or cs i []) ⊗ det (rows_from 0 n) (set cs i (unit_column j)))) (sym size)
    ∙ sum_to_ext (length cs) _ _ (λ i l. ap (λ x. row r (get_or cs i []) ⊗ x) (sym (front i l)))
    ∙ sym (laplace_sum (row r) (λ xs. det (rows_from 0 n) (unit_column j ∷ xs)) [] cs)
    ∙ difference_zero _ _ (sym (laplace_cons (row r) (det (rows_from 0 n)) (unit_column j) cs) ∙ det_row_in (row_in 0 n r (omega arith) (omega arith)) (unit_column j ∷ cs))
  where
    front : (i : ℕ) → i < length cs → alternate i (det (rows_from 0 n) (unit_column j ∷ remove i cs)) ≡ det (rows_from 0 n) (set cs i (unit_column j))
    front i l =
        ap (alternate i) (insert_front (det (rows_from 0 n)) (det_swaps (rows_from 0 n)) (unit_column j) i cs l) ∙ alternate_twice i _

-- ---- numbers of one sign

-- 0 or of the sign t
abbrev Sided : Sign → ℤ → Type 0
Sided t z = (sign z ≡ nought) ⊎ (sign z ≡ t)

-- all are 0, or their sum has their sign
sided_sum :
    (t : Sign) (m : ℕ) (f : ℕ → ℤ) → ((i : ℕ) → i < m → Sided t (f i)) → ((i : ℕ) → i < m → sign (f i) ≡ nought) ⊎ (sign (sum_to m f) ≡ t)
unfolding sum_to
sided_sum t zero f k = inl (λ i h. absurd (omega arith))
sided_sum t (suc m) f k = go (k zero (omega arith)) (sided_sum t m (λ i. f (suc i)) (λ i h. k (suc i) (omega arith)))
  where
    all : sign (f zero) ≡ nought → ((i : ℕ) → i < m → sign (f (suc i)) ≡ nought) → (i : ℕ) → i < suc m → sign (f i) ≡ nought
    all z zs zero h = z
    all z zs (suc i) h = zs i (omega arith)

    go :
        Sided t (f zero) → ((i : ℕ) → i < m → sign (f (suc i)) ≡ nought) ⊎ (sign (sum_to m (λ i. f (suc i))) ≡ t)
        → ((i : ℕ) → i < suc m → sign (f i) ≡ nought) ⊎ (sign (f zero ⊕ sum_to m (λ i. f (suc i))) ≡ t)
    go (inl z) (inl zs) = inl (all z zs)
    go (inl z) (inr e) = inr (sign_add_nought_left _ _ z ∙ e)
    go (inr e) (inl zs) = inr (sign_add_nought_right _ _ (ap sign (sum_to_zero m _ (λ i h. sign_nought _ (zs i h))) ∙ sign_zero) ∙ e)
    go (inr e) (inr d) = inr (sign_add_same t _ _ e d)

times_nought : (e t : Sign) → sign_times e t ≡ nought → same_sign e nought ≡ false → t ≡ nought
unfolding sign_times opposite same_sign
times_nought nought t h d = absurd (true≢false d)
times_nought positive t h d = h
times_nought negative negative h d = cc
times_nought negative nought h d = refl
times_nought negative positive h d = cc

-- ---- a row of one sign

module _ (n : ℕ) (cs : List Column) (w : SignsAgree n cs) where
  abbrev D : ℤ
  D = determinant n cs

  abbrev entry : ℕ → ℕ → ℤ
  entry r i = get_or (get_or cs i []) r 0ℤ

  abbrev product : ℕ → ℕ → ℕ → ℤ
  product r j i = entry r i ⊗ coefficient n cs i j

  abbrev Zero : ℕ → ℕ → Type 0
  Zero r j = (i : ℕ) → i < n → sign (product r j i) ≡ nought

  size : length cs ≡ n
  unfolding determinant
  size = go (ℕ_discrete (length cs) n)
    where
      go : Dec (length cs ≡ n) → length cs ≡ n
      go (yes e) = e
      go (no d) = absurd (w.determined (ap sign (det_other_length (rows_from 0 n) cs (λ e. d (sym e ∙ length_rows_from 0 n))) ∙ sign_zero))

  sum_same : (r : ℕ) → r < n → sum_to n (product r r) ≡ D
  sum_same r h = row_sum n cs size r r h ∙ ap (λ x. x ⊗ D) (unit_same r) ∙ one_mul D

  not_all_zero : (r : ℕ) → r < n → Zero r r → ⊥
  not_all_zero r h z = w.determined (ap sign (sym (sum_same r h) ∙ sum_to_zero n _ (λ i l. sign_nought _ (z i l))) ∙ sign_zero)

  -- a coefficient, where those of the lower powers are 0
  first_sided : (i j : ℕ) → i < n → j < n → ((k : ℕ) → k < j → coefficient n cs i k ≡ 0ℤ) → Sided (sign D) (coefficient n cs i j)
  unfolding coefficients
  first_sided i j l u zeros = go (sign_discrete (sign (coefficient n cs i j)) nought)
    where
      go : Dec (sign (coefficient n cs i j) ≡ nought) → Sided (sign D) (coefficient n cs i j)
      go (yes z) = inl z
      go (no d) = inr (sym (lex_sign_of_first (coefficient n cs i) 0 n _ d j (omega arith) (omega arith) (λ k a b. zeros k b) refl) ∙ w.agree i l)

  module _ (r : ℕ) (inside : r < n) (e : Sign) (some : same_sign e nought ≡ false) (sided : (i : ℕ) → i < n → Sided e (entry r i)) where
    factor_zero : (i j : ℕ) → sign (entry r i) ≡ e → sign (product r j i) ≡ nought → coefficient n cs i j ≡ 0ℤ
    factor_zero i j p z =
        sign_nought _ (times_nought e _ (ap (λ t. sign_times t (sign (coefficient n cs i j))) (sym p) ∙ sym (sign_mul _ _) ∙ z) some)

    -- the products of power j, where those of the lower powers are 0
    products : (j : ℕ) → j < n → ((k : ℕ) → k < j → Zero r k) → Zero r j ⊎ (sign (sum_to n (product r j)) ≡ sign_times e (sign D))
    unfolding sign_times
    products j h zeros = sided_sum _ n (product r j) (λ i l. go i l (sided i l))
      where
        with : (i : ℕ) → sign (entry r i) ≡ e → Sided (sign D) (coefficient n cs i j) → Sided (sign_times e (sign D)) (product r j i)
        with i p (inl q) = inl (sign_mul _ _ ∙ ap₂ sign_times p q ∙ sign_times_nought e)
        with i p (inr q) = inr (sign_mul _ _ ∙ ap₂ sign_times p q)

        go : (i : ℕ) → i < n → Sided e (entry r i) → Sided (sign_times e (sign D)) (product r j i)
        go i l (inl z) = inl (sign_mul _ _ ∙ ap (λ t. sign_times t (sign (coefficient n cs i j))) z)
        go i l (inr p) = with i p (first_sided i j l h (λ k u. factor_zero i k p (zeros k u i l)))

    next : (j : ℕ) → j < r → ((k : ℕ) → k < j → Zero r k) → Zero r j
    next j h zeros = go (products j (omega arith) zeros)
      where
        sum : sum_to n (product r j) ≡ 0ℤ
        sum = row_sum n cs size r j inside ∙ ap (λ x. x ⊗ D) (unit_below j r h) ∙ zero-mul D

        go : Zero r j ⊎ (sign (sum_to n (product r j)) ≡ sign_times e (sign D)) → Zero r j
        go (inl z) = z
        go (inr s) = absurd (w.determined (times_nought e (sign D) (sym s ∙ ap sign sum ∙ sign_zero) some))

    below : (m k : ℕ) → k < m → k < r → Zero r k
    below zero k u h = absurd (omega arith)
    below (suc m) k u h = next k h (λ l v. below m l (omega arith) (omega arith))

    row_sign : sign D ≡ sign_times e (sign D)
    row_sign = go (products r inside (λ k u. below r k u u))
      where
        go : Zero r r ⊎ (sign (sum_to n (product r r)) ≡ sign_times e (sign D)) → sign D ≡ sign_times e (sign D)
        go (inl z) = absurd (not_all_zero r inside z)
        go (inr s) = ap sign (sym (sum_same r inside)) ∙ s

  low_refuted : (r : ℕ) → r < n → ((i : ℕ) → i < n → Sided negative (entry r i)) → ⊥
  unfolding sign_times same_sign
  low_refuted r h low = w.determined (opposite_fixed (sign D) (row_sign r h negative refl low))

  high_refuted : (r : ℕ) → 0 < r → r < n → ((i : ℕ) → i < n → sign (entry r i) ≡ positive) → ⊥
  unfolding same_sign
  high_refuted r p h high =
      not_all_zero 0 (omega arith) (λ i l. ap (λ x. sign (entry 0 i ⊗ x)) (weight i l) ∙ ap sign (mul-zero _) ∙ sign_zero)
    where
      weight : (i : ℕ) → i < n → coefficient n cs i 0 ≡ 0ℤ
      weight i l =
          factor_zero r h positive refl (λ k u. inr (high k u)) i 0 (high i l)
          (below r h positive refl (λ k u. inr (high k u)) 1 0 (omega arith) p i l)

-- ---- the test

low_sided : (z : ℤ) → le_z z 0ℤ ≡ true → Sided negative z
unfolding sign
low_sided (pos zero) h = inl refl
low_sided (pos (suc k)) h = absurd (true≢false (sym h ∙ leb-suc-zero k))
low_sided (negsuc k) h = inr refl

high_sign : (z : ℤ) → le_z z 0ℤ ≡ false → sign z ≡ positive
unfolding sign
high_sign (pos zero) h = absurd (true≢false h)
high_sign (pos (suc k)) h = refl
high_sign (negsuc k) h = absurd (true≢false h)

uncrossed : (n : ℕ) (cs : List Column) → (SignsAgree n cs → ⊥) → crossed n cs ≡ false
uncrossed n cs h = go (crossed n cs) refl
  where
    go : (b : Bool) → crossed n cs ≡ b → b ≡ false
    go true e = absurd (h (crossed→signs n cs e))
    go false e = refl

pub one_sided_low :
    (n : ℕ) (cs : List Column) (r : ℕ) → r < n
    → ((i : ℕ) → i < n → le_z (get_or (get_or cs i []) r 0ℤ) 0ℤ ≡ true) → crossed n cs ≡ false
one_sided_low n cs r h low = uncrossed n cs (λ w. low_refuted n cs w r h (λ i l. low_sided _ (low i l)))

pub one_sided_high :
    (n : ℕ) (cs : List Column) (r : ℕ) → 0 < r → r < n
    → ((i : ℕ) → i < n → le_z (get_or (get_or cs i []) r 0ℤ) 0ℤ ≡ false) → crossed n cs ≡ false
one_sided_high n cs r p h high = uncrossed n cs (λ w. high_refuted n cs w r p h (λ i l. high_sign _ (high i l)))
