-- The three-term relation, with no index and no sign: rows hs, columns us of any type and number. For rows f, g put
-- A f = det (f ∷ hs) us, and c t f g for what f and g take of us and leave to t and hs. Then c t f g · A h + c t g h · A f + c t h f · A g = 0.
-- The idea: c x f g = A f · g x − A g · f x for a column x of us, since a determinant with x twice is 0; and in x, c x f g is a
-- combination of the rows hs. Both sides go in as the first row of c t φ h.
use mathlib.Core.Path.{◌≡◌, refl, sym, ap, ap₂, ◌∙◌, fun_ext}
use mathlib.Core.List.{List, [], ◌∷◌, ◌++◌}
use lib.IntN.{ℤ}
use Rattle.exact.specs.Int.{◌⊕◌, ◌⊖◌, ◌⊗◌, neg, 0ℤ, 1ℤ}
use Rattle.exact.specs.Det.{laplace, det}
use Rattle.exact.proofs.Ring.{one_mul}
use Rattle.exact.proofs.Identities.{ring, third_of_zero, third_of_zero_mul, closing, linear_row}
use Rattle.exact.proofs.DetRows.{In, there, laplace_combine_row, laplace_zero_row, laplace_two, laplace_swap, det_row_in}
use Rattle.exact.proofs.DetColumns.{Linear, laplace_rest_linear, det_column_linear, det_equal_columns}

-- a row matters only at the columns that there are
pub laplace_row_ext :
    {C : Type 0} (φ ψ : C → ℤ) (D : List C → ℤ) (cs : List C) → ((before after : List C) (x : C) → cs ≡ before ++ x ∷ after → φ x ≡ ψ x)
    → laplace φ D cs ≡ laplace ψ D cs
unfolding laplace
laplace_row_ext φ ψ D [] k = refl
laplace_row_ext φ ψ D (c ∷ cs) k =
    ap₂ (λ u w. u ⊗ D cs ⊖ w) (k [] cs c refl)
    (laplace_row_ext φ ψ (λ xs. D (c ∷ xs)) cs (λ before after x e. k (c ∷ before) after x (ap (λ l. c ∷ l) e)))

-- A f
unfoldable pub bordered : {C : Type 0} → List (C → ℤ) → List C → (C → ℤ) → ℤ
bordered hs us f = det (f ∷ hs) us

-- c t f g
unfoldable pub twice_bordered : {C : Type 0} → List (C → ℤ) → List C → C → (C → ℤ) → (C → ℤ) → ℤ
twice_bordered hs us t f g = laplace f (laplace g (λ ys. det hs (t ∷ ys))) us

module _ {C : Type 0} (hs : List (C → ℤ)) (us : List C) where
  pub twice_bordered_antisymmetric :
      (t : C) (f g : C → ℤ) → twice_bordered hs us t f g ≡ neg (twice_bordered hs us t g f)
  unfolding twice_bordered
  twice_bordered_antisymmetric t f g = laplace_swap f g (λ ys. det hs (t ∷ ys)) us

  two_rows :
      (t : C) (f g : C → ℤ)
      → det (f ∷ g ∷ hs) (t ∷ us) ≡ f t ⊗ bordered hs us g ⊖ (g t ⊗ bordered hs us f ⊖ twice_bordered hs us t f g)
  unfolding det bordered twice_bordered
  two_rows t f g = laplace_two f g (det hs) t us

  -- at a column of us
  at_own_column :
      (before after : List C) (x : C) → us ≡ before ++ x ∷ after → (f g : C → ℤ)
      → twice_bordered hs us x f g ≡ bordered hs us f ⊗ g x ⊖ bordered hs us g ⊗ f x
  at_own_column before after x e f g =
      third_of_zero _ _ _ _ _
      (sym (two_rows x f g) ∙ ap (λ l. det (f ∷ g ∷ hs) (x ∷ l)) e ∙ det_equal_columns (f ∷ g ∷ hs) x before after)

  -- at a row of hs
  at_own_row : (t : C) (h : C → ℤ) → In h hs → (g : C → ℤ) → twice_bordered hs us t h g ≡ neg (h t ⊗ bordered hs us g)
  unfolding bordered
  at_own_row t h m g =
      third_of_zero_mul _ _ _ _ _ (det_row_in m us) (sym (two_rows t h g) ∙ det_row_in (there m) (t ∷ us))

  -- and at every combination of them
  combination_row :
      (t : C) (g : C → ℤ) → Linear (λ φ. twice_bordered hs us t φ g ≡ neg (φ t ⊗ bordered hs us g))
  unfolding twice_bordered
  combination_row t g = record {
    nought = laplace_zero_row _ us ∙ simp ring;
    step = λ a φ ψ p q.
        ap (λ f. laplace f (laplace g (λ ys. det hs (t ∷ ys))) us) (fun_ext (λ x. ap (λ z. a ⊗ φ x ⊖ z) (sym (one_mul (ψ x)))))
        ∙ laplace_combine_row φ ψ a 1ℤ (laplace g (λ ys. det hs (t ∷ ys))) us
        ∙ ap₂ (λ u w. a ⊗ u ⊖ 1ℤ ⊗ w) p q
        ∙ linear_row a (φ t) (ψ t) (bordered hs us g);
  }

  -- c x f g as a combination of the rows hs
  first_row_by_rows :
      (t : C) (f g h : C → ℤ) → twice_bordered hs us t (λ x. twice_bordered hs us x f g) h ≡ neg (twice_bordered hs us t f g ⊗ bordered hs us h)
  unfolding twice_bordered
  first_row_by_rows t f g h =
      laplace_rest_linear P L f (λ x xs. laplace g (λ ys. det hs (x ∷ ys)) xs)
      (laplace_rest_linear P L g (λ x ys. det hs (x ∷ ys)) (det_column_linear P L hs (λ k m. at_own_row t k m h) [])) us
    where
      P : (C → ℤ) → Type 0
      P φ = twice_bordered hs us t φ h ≡ neg (φ t ⊗ bordered hs us h)

      L : Linear P
      L = combination_row t h

  -- c x f g as a combination of f and g
  first_row_by_columns :
      (t : C) (f g h : C → ℤ)
      → twice_bordered hs us t (λ x. twice_bordered hs us x f g) h
      ≡ bordered hs us f ⊗ twice_bordered hs us t g h ⊖ bordered hs us g ⊗ twice_bordered hs us t f h
  unfolding twice_bordered
  first_row_by_columns t f g h =
      laplace_row_ext (λ x. twice_bordered hs us x f g) (λ x. bordered hs us f ⊗ g x ⊖ bordered hs us g ⊗ f x) D us
      (λ before after x e. at_own_column before after x e f g)
      ∙ laplace_combine_row g f (bordered hs us f) (bordered hs us g) D us
    where
      D : List C → ℤ
      D = laplace h (λ ys. det hs (t ∷ ys))

  pub three_terms_bordered :
      (t : C) (f g h : C → ℤ)
      → twice_bordered hs us t f g ⊗ bordered hs us h ⊕ twice_bordered hs us t g h ⊗ bordered hs us f
      ⊕ twice_bordered hs us t h f ⊗ bordered hs us g ≡ 0ℤ
  three_terms_bordered t f g h =
      ap (λ z. twice_bordered hs us t f g ⊗ bordered hs us h ⊕ twice_bordered hs us t g h ⊗ bordered hs us f ⊕ z ⊗ bordered hs us g)
      (twice_bordered_antisymmetric t h f)
      ∙ closing _ _ _ _ _ _ (sym (first_row_by_rows t f g h) ∙ first_row_by_columns t f g h)
