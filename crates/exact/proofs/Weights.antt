-- The weights of a facet's point, before they are divided by D: the coefficients of power 0. If every top entry is 1 they sum to D, over any number
-- of columns. If the columns are crossed, none of them has the sign opposite to D's.
-- Idea: below the top row the unit column of power 0 is nought, so of the determinant with it in place of column i only the term of the
-- top row's entry i is left; these terms, over all i, are the expansion along a top row of ones.
use Prim.Native.Nat.{ℕ, suc, zero, ◌+◌, ◌≤◌, ◌<◌}
use native.Mathlib.Omega.{arith}
use mathlib.Core.Path.{◌≡◌, refl, sym, ap, ap₂, ◌∙◌, fun_ext}
use mathlib.Core.Bool.{true, false, not, ◌&&◌, true≢false, false≢true}
use mathlib.Core.Logic.{◌⊎◌, inl, inr}
use mathlib.Core.List.{List, [], ◌∷◌}
use native.Mathlib.Decide.{ℕ_discrete}
use lib.IntN.{ℤ}
use lib.ListN.{length, get_or, set}
use Rattle.exact.specs.Int.{◌⊕◌, ◌⊖◌, ◌⊗◌, neg, 0ℤ, 1ℤ}
use Rattle.exact.specs.Det.{Column, laplace, det, if_none, rows_from, determinant}
use Rattle.exact.specs.Sign.{Sign, negative, nought, positive, sign, or_else, lex_sign, same_sign}
use Rattle.exact.specs.Crossed.{count_from, unit_column, coefficient, coefficients, all_have_sign, crossed}
use Rattle.exact.specs.Minors.{sum_to}
use Rattle.exact.proofs.AndTests.{and_left, and_right}
use Rattle.exact.proofs.Ring.{sub_eq}
use Rattle.exact.proofs.Identities.{ring}
use Rattle.exact.proofs.DetRows.{laplace_zero_rest}
use Rattle.exact.proofs.Sums.{sum_to_ext, sum_to_neg}

-- ---- lists that hold a column

data Has {C : Type 0} (e : C) : List C → Type 0 where
  here : {xs : List C} → Has e (e ∷ xs)
  there : {x : C} {xs : List C} → Has e xs → Has e (x ∷ xs)

has_set : {C : Type 0} (e : C) (cs : List C) (i : ℕ) → i < length cs → Has e (set cs i e)
has_set e [] i h = absurd (omega arith)
has_set e (c ∷ cs) zero h = here
has_set e (c ∷ cs) (suc i) h = there (has_set e cs i (omega arith))

module _ {C : Type 0} (e : C) where
  -- D is 0 of every list that holds e
  abbrev Vanishes : (List C → ℤ) → Type 0
  Vanishes D = (xs : List C) → Has e xs → D xs ≡ 0ℤ

  laplace_nought : (h : C → ℤ) (D : List C → ℤ) → ((xs : List C) → D xs ≡ 0ℤ) → (cs : List C) → laplace h D cs ≡ 0ℤ
  laplace_nought h D z cs = ap (λ E. laplace h E cs) (fun_ext z) ∙ laplace_zero_rest h cs

  laplace_vanishes : (h : C → ℤ) → h e ≡ 0ℤ → (D : List C → ℤ) → Vanishes D → Vanishes (laplace h D)
  unfolding laplace
  laplace_vanishes h z D v [] m = elim m [ ]
  laplace_vanishes h z D v (x ∷ xs) here =
      ap₂ (λ a b. a ⊗ D xs ⊖ b) z (laplace_nought h (λ ys. D (e ∷ ys)) (λ ys. v (e ∷ ys) here) xs) ∙ simp ring
  laplace_vanishes h z D v (x ∷ xs) (there m) =
      ap₂ (λ a b. h x ⊗ a ⊖ b) (v xs m) (laplace_vanishes h z (λ ys. D (x ∷ ys)) (λ ys k. v (x ∷ ys) (there k)) xs m) ∙ simp ring

  -- the determinants with e in place of each column in turn, where the row h takes e for 1 and D vanishes with e
  sum_of_replaced :
      (h : C → ℤ) → h e ≡ 1ℤ → (D : List C → ℤ) → Vanishes D → (cs : List C)
      → sum_to (length cs) (λ i. laplace h D (set cs i e)) ≡ laplace (λ c. 1ℤ) D cs
  unfolding laplace sum_to
  sum_of_replaced h o D v [] = refl
  sum_of_replaced h o D v (c ∷ cs) =
      ap₂ (λ x y. x ⊕ y) first
      (sum_to_ext (length cs) _ _ later ∙ sum_to_neg (length cs) _ ∙ ap neg (sum_of_replaced h o (λ ys. D (c ∷ ys)) (λ ys k. v (c ∷ ys) (there k)) cs))
      ∙ sym (sub_eq _ _)
    where
      first : h e ⊗ D cs ⊖ laplace h (λ ys. D (e ∷ ys)) cs ≡ 1ℤ ⊗ D cs
      first = ap₂ (λ a b. a ⊗ D cs ⊖ b) o (laplace_nought h (λ ys. D (e ∷ ys)) (λ ys. v (e ∷ ys) here) cs) ∙ simp ring

      later :
          (i : ℕ) → i < length cs
          → h c ⊗ D (set cs i e) ⊖ laplace h (λ ys. D (c ∷ ys)) (set cs i e) ≡ neg (laplace h (λ ys. D (c ∷ ys)) (set cs i e))
      later i k = ap (λ a. h c ⊗ a ⊖ laplace h (λ ys. D (c ∷ ys)) (set cs i e)) (v (set cs i e) (has_set e cs i k)) ∙ simp ring

-- ---- the unit column of power 0

rows_below_vanish : (k m : ℕ) → Vanishes (unit_column 0) (det (rows_from (suc k) m))
unfolding det rows_from if_none unit_column
rows_below_vanish k zero xs here = refl
rows_below_vanish k zero xs (there h) = refl
rows_below_vanish k (suc m) xs h =
    laplace_vanishes (unit_column 0) (λ c. get_or c (suc k) 0ℤ) refl (det (rows_from (suc (suc k)) m)) (rows_below_vanish (suc k) m) xs h

-- a row of ones
laplace_ones :
    {C : Type 0} (h : C → ℤ) (D : List C → ℤ) (d : C) (cs : List C) → ((i : ℕ) → i < length cs → h (get_or cs i d) ≡ 1ℤ)
    → laplace h D cs ≡ laplace (λ c. 1ℤ) D cs
unfolding laplace
laplace_ones h D d [] k = refl
laplace_ones h D d (c ∷ cs) k =
    ap₂ (λ a b. a ⊗ D cs ⊖ b) (k zero (omega arith)) (laplace_ones h (λ xs. D (c ∷ xs)) d cs (λ i l. k (suc i) (omega arith)))

pub weights_sum :
    (m : ℕ) (cs : List Column) → ((i : ℕ) → i < length cs → get_or (get_or cs i []) 0 0ℤ ≡ 1ℤ)
    → sum_to (length cs) (λ i. coefficient (suc m) cs i 0) ≡ determinant (suc m) cs
unfolding coefficient determinant det rows_from unit_column
weights_sum m cs ones =
    sum_of_replaced (unit_column 0) (λ c. get_or c 0 0ℤ) refl (det (rows_from 1 m)) (rows_below_vanish 0 m) cs
    ∙ sym (laplace_ones (λ c. get_or c 0 0ℤ) (det (rows_from 1 m)) [] cs ones)

-- ---- signs

all_at :
    (n : ℕ) (cs : List Column) (s : Sign) (k m : ℕ) → all_have_sign n cs s (count_from k m) ≡ true
    → (i : ℕ) → k ≤ i → i < k + m → same_sign (lex_sign (coefficients n cs i)) s ≡ true
unfolding all_have_sign count_from
all_at n cs s k zero h i low high = absurd (omega arith)
all_at n cs s k (suc m) h i low high =
    go (ℕ_discrete i k) (λ l g. all_at n cs s (suc k) m (and_right (same_sign (lex_sign (coefficients n cs k)) s) (all_have_sign n cs s (count_from (suc k) m)) h) i l g)
  where
    go :
        Dec (i ≡ k) → (suc k ≤ i → i < suc k + m → same_sign (lex_sign (coefficients n cs i)) s ≡ true)
        → same_sign (lex_sign (coefficients n cs i)) s ≡ true
    go (yes e) r = rw e (and_left (same_sign (lex_sign (coefficients n cs k)) s) (all_have_sign n cs s (count_from (suc k) m)) h)
    go (no e) r = r (omega arith) (omega arith)

first_or_nought : (s t d : Sign) → same_sign (or_else s t) d ≡ true → (s ≡ nought) ⊎ (s ≡ d)
unfolding or_else same_sign
first_or_nought nought t d h = inl refl
first_or_nought negative t negative h = inr refl
first_or_nought negative t nought h = absurd (false≢true h)
first_or_nought negative t positive h = absurd (false≢true h)
first_or_nought positive t negative h = absurd (false≢true h)
first_or_nought positive t nought h = absurd (false≢true h)
first_or_nought positive t positive h = inr refl

-- a weight of crossed columns is 0 or has the sign of D
pub weight_sign :
    (m : ℕ) (cs : List Column) → crossed (suc m) cs ≡ true → (i : ℕ) → i < suc m
    → (sign (coefficient (suc m) cs i 0) ≡ nought) ⊎ (sign (coefficient (suc m) cs i 0) ≡ sign (determinant (suc m) cs))
unfolding crossed coefficients count_from lex_sign
weight_sign m cs h i l =
    first_or_nought (sign (coefficient (suc m) cs i 0)) _ (sign (determinant (suc m) cs))
    (all_at (suc m) cs (sign (determinant (suc m) cs)) 0 (suc m)
    (and_right (not (same_sign (sign (determinant (suc m) cs)) nought)) (all_have_sign (suc m) cs (sign (determinant (suc m) cs)) (count_from 0 (suc m))) h) i (omega arith) (omega arith))

-- crossed columns have a D other than 0
pub crossed_nonzero : (n : ℕ) (cs : List Column) → crossed n cs ≡ true → sign (determinant n cs) ≡ nought → ⊥
unfolding crossed same_sign
crossed_nonzero n cs h e =
    true≢false (sym h ∙ ap (λ s. not (same_sign s nought) && all_have_sign n cs (sign (determinant n cs)) (count_from 0 n)) e)
