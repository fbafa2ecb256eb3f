-- `laplace` and `det` by columns. A determinant is a combination of its rows in each of its columns; two neighbouring columns
-- change places with a change of sign; two equal columns give 0; a column moves to the front with alternating sign.
use mathlib.Core.Path.{◌≡◌, refl, sym, ap, ap₂, ◌∙◌, fun_ext, subst}
use mathlib.Core.List.{List, [], ◌∷◌, ◌++◌}
use lib.IntN.{ℤ}
use lib.ListN.{length}
use Rattle.exact.specs.Int.{◌⊕◌, ◌⊖◌, ◌⊗◌, neg, 0ℤ}
use Rattle.exact.specs.Det.{laplace, det, if_none}
use Rattle.exact.specs.Minors.{alternate}
use Rattle.exact.proofs.Ring.{neg_zero, mul_comm}
use Rattle.exact.proofs.Identities.{ring, swap_rows, neg_rest, sub_sub_zero, linear_step}
use Rattle.exact.proofs.Alternate.{alternate_zero}
use Rattle.exact.proofs.DetRows.{In, here, there, laplace_neg_rest, laplace_zero_rest}

module _ {C : Type 0} where
  -- ---- linear in a column

  -- what holds of 0, and of a φ − ψ if of φ and of ψ, holds of every combination of rows of which it holds
  pub record Linear (P : (C → ℤ) → Type 0) : Type 0 where
    pub nought : P (λ x. 0ℤ)
    pub step : (a : ℤ) (φ ψ : C → ℤ) → P φ → P ψ → P (λ x. a ⊗ φ x ⊖ ψ x)

  module _ (P : (C → ℤ) → Type 0) (L : Linear P) where
    pub laplace_rest_linear :
        (h : C → ℤ) (E : C → List C → ℤ) → ((xs : List C) → P (λ x. E x xs)) → (cs : List C) → P (λ x. laplace h (E x) cs)
    unfolding laplace
    laplace_rest_linear h E k [] = L.nought
    laplace_rest_linear h E k (c ∷ cs) =
        L.step (h c) (λ x. E x cs) (λ x. laplace h (λ xs. E x (c ∷ xs)) cs) (k cs)
        (laplace_rest_linear h (λ x xs. E x (c ∷ xs)) (λ xs. k (c ∷ xs)) cs)

    laplace_column_linear :
        (h : C → ℤ) → P h → (D : List C → ℤ) → ((before after : List C) → P (λ x. D (before ++ x ∷ after)))
        → (before after : List C) → P (λ x. laplace h D (before ++ x ∷ after))
    unfolding laplace
    laplace_column_linear h ph D k [] after =
        subst P (fun_ext (λ x. ap (λ z. z ⊖ laplace h (λ xs. D (x ∷ xs)) after) (mul_comm (D after) (h x))))
        (L.step (D after) h (λ x. laplace h (λ xs. D (x ∷ xs)) after) ph (laplace_rest_linear h (λ x xs. D (x ∷ xs)) (k []) after))
    laplace_column_linear h ph D k (c ∷ before) after =
        L.step (h c) (λ x. D (before ++ x ∷ after)) (λ x. laplace h (λ xs. D (c ∷ xs)) (before ++ x ∷ after)) (k before after)
        (laplace_column_linear h ph (λ xs. D (c ∷ xs)) (λ b. k (c ∷ b)) before after)

    pub det_column_linear :
        (hs : List (C → ℤ)) → ((h : C → ℤ) → In h hs → P h) → (before after : List C) → P (λ x. det hs (before ++ x ∷ after))
    unfolding det if_none
    det_column_linear [] k [] after = L.nought
    det_column_linear [] k (c ∷ before) after = L.nought
    det_column_linear (h ∷ hs) k before after =
        laplace_column_linear h (k h here) (det hs) (det_column_linear hs (λ g m. k g (there m))) before after

  -- a column that every row takes for a times x plus b times y
  pub det_combine_column :
      (hs : List (C → ℤ)) (a b : ℤ) (x y z : C) → ((h : C → ℤ) → In h hs → h z ≡ a ⊗ h x ⊕ b ⊗ h y)
      → (before after : List C) → det hs (before ++ z ∷ after) ≡ a ⊗ det hs (before ++ x ∷ after) ⊕ b ⊗ det hs (before ++ y ∷ after)
  det_combine_column hs a b x y z k =
      det_column_linear (λ φ. φ z ≡ a ⊗ φ x ⊕ b ⊗ φ y)
      (record { nought = simp ring; step = λ s φ ψ p q. ap₂ (λ u w. s ⊗ u ⊖ w) p q ∙ linear_step s a b _ _ _ _ }) hs k

  -- ---- neighbouring columns

  -- a form of a list of columns that changes sign where two neighbours change places
  abbrev pub Swaps : (List C → ℤ) → Type 0
  Swaps D = (before : List C) (x y : C) (after : List C) → D (before ++ x ∷ y ∷ after) ≡ neg (D (before ++ y ∷ x ∷ after))

  -- and one that is 0 where two neighbours are equal
  abbrev pub Vanishes : (List C → ℤ) → Type 0
  Vanishes D = (before : List C) (x : C) (after : List C) → D (before ++ x ∷ x ∷ after) ≡ 0ℤ

  laplace_swaps : (h : C → ℤ) (D : List C → ℤ) → Swaps D → Swaps (laplace h D)
  unfolding laplace
  laplace_swaps h D s [] x y after =
      ap (λ z. h x ⊗ D (y ∷ after) ⊖ (h y ⊗ D (x ∷ after) ⊖ z))
      (ap (λ E. laplace h E after) (fun_ext (s [] x y)) ∙ laplace_neg_rest h (λ zs. D (y ∷ x ∷ zs)) after)
      ∙ swap_rows _ _ _
  laplace_swaps h D s (c ∷ before) x y after =
      ap₂ (λ u w. h c ⊗ u ⊖ w) (s before x y after) (laplace_swaps h (λ xs. D (c ∷ xs)) (λ b. s (c ∷ b)) before x y after)
      ∙ neg_rest (h c) _ _

  laplace_vanishes : (h : C → ℤ) (D : List C → ℤ) → Vanishes D → Vanishes (laplace h D)
  unfolding laplace
  laplace_vanishes h D v [] x after =
      ap (λ z. h x ⊗ D (x ∷ after) ⊖ (h x ⊗ D (x ∷ after) ⊖ z)) (ap (λ E. laplace h E after) (fun_ext (v [] x)) ∙ laplace_zero_rest h after)
      ∙ sub_sub_zero _
  laplace_vanishes h D v (c ∷ before) x after =
      ap₂ (λ u w. h c ⊗ u ⊖ w) (v before x after) (laplace_vanishes h (λ xs. D (c ∷ xs)) (λ b. v (c ∷ b)) before x after)
      ∙ simp ring

  pub det_swaps : (hs : List (C → ℤ)) → Swaps (det hs)
  unfolding det if_none
  det_swaps [] [] x y after = sym neg_zero
  det_swaps [] (c ∷ before) x y after = sym neg_zero
  det_swaps (h ∷ hs) before x y after = laplace_swaps h (det hs) (det_swaps hs) before x y after

  pub det_vanishes : (hs : List (C → ℤ)) → Vanishes (det hs)
  unfolding det if_none
  det_vanishes [] [] x after = refl
  det_vanishes [] (c ∷ before) x after = refl
  det_vanishes (h ∷ hs) before x after = laplace_vanishes h (det hs) (det_vanishes hs) before x after

  -- ---- a column moves to the front
  pub move_front :
      (D : List C → ℤ) → Swaps D → (before : List C) (x : C) (after : List C)
      → D (x ∷ before ++ after) ≡ alternate (length before) (D (before ++ x ∷ after))
  unfolding alternate
  move_front D s [] x after = refl
  move_front D s (c ∷ before) x after =
      s [] x c (before ++ after) ∙ ap neg (move_front (λ xs. D (c ∷ xs)) (λ b. s (c ∷ b)) before x after)

  -- a column in front that stands again further on
  pub det_equal_columns : (hs : List (C → ℤ)) (x : C) (between after : List C) → det hs (x ∷ between ++ x ∷ after) ≡ 0ℤ
  det_equal_columns hs x between after =
      move_front (det hs) (det_swaps hs) between x (x ∷ after)
      ∙ ap (alternate (length between)) (det_vanishes hs between x after)
      ∙ alternate_zero (length between)
