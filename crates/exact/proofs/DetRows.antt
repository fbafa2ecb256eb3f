-- `laplace` and `det` by rows: linear in a row and in what is left, two neighbouring rows change places with a change of sign,
-- a row that stands again among the others gives 0. The columns are of any type and of any number.
use mathlib.Core.Path.{◌≡◌, refl, sym, ap, ◌∙◌, fun_ext}
use mathlib.Core.List.{List, [], ◌∷◌, ◌++◌}
use lib.IntN.{ℤ}
use Rattle.exact.specs.Int.{◌⊖◌, ◌⊗◌, neg, 0ℤ, 1ℤ}
use Rattle.exact.specs.Det.{laplace, det}
use Rattle.exact.proofs.Ring.{neg_zero, one_mul}
use Rattle.exact.proofs.Identities.{ring, combine_rest, combine_row, swap_rows, neg_rest, sub_sub_zero}

-- h is one of the rows
pub data In {C : Type 0} (h : C → ℤ) : List (C → ℤ) → Type 0 where
  here : {hs : List (C → ℤ)} → In h (h ∷ hs)
  there : {g : C → ℤ} {hs : List (C → ℤ)} → In h hs → In h (g ∷ hs)

module _ {C : Type 0} where
  pub laplace_cons :
      (h : C → ℤ) (D : List C → ℤ) (c : C) (cs : List C) → laplace h D (c ∷ cs) ≡ h c ⊗ D cs ⊖ laplace h (λ xs. D (c ∷ xs)) cs
  unfolding laplace
  laplace_cons h D c cs = refl

  -- ---- linear in what is left
  pub laplace_combine_rest :
      (h : C → ℤ) (a b : ℤ) (D E : List C → ℤ) (cs : List C)
      → laplace h (λ xs. a ⊗ D xs ⊖ b ⊗ E xs) cs ≡ a ⊗ laplace h D cs ⊖ b ⊗ laplace h E cs
  unfolding laplace
  laplace_combine_rest h a b D E [] = simp ring
  laplace_combine_rest h a b D E (c ∷ cs) =
      ap (λ z. h c ⊗ (a ⊗ D cs ⊖ b ⊗ E cs) ⊖ z) (laplace_combine_rest h a b (λ xs. D (c ∷ xs)) (λ xs. E (c ∷ xs)) cs)
      ∙ combine_rest (h c) a b (D cs) (E cs) _ _

  pub laplace_zero_rest : (h : C → ℤ) (cs : List C) → laplace h (λ xs. 0ℤ) cs ≡ 0ℤ
  unfolding laplace
  laplace_zero_rest h [] = refl
  laplace_zero_rest h (c ∷ cs) = ap (λ z. h c ⊗ 0ℤ ⊖ z) (laplace_zero_rest h cs) ∙ simp ring

  pub laplace_neg_rest : (h : C → ℤ) (D : List C → ℤ) (cs : List C) → laplace h (λ xs. neg (D xs)) cs ≡ neg (laplace h D cs)
  unfolding laplace
  laplace_neg_rest h D [] = sym neg_zero
  laplace_neg_rest h D (c ∷ cs) =
      ap (λ z. h c ⊗ neg (D cs) ⊖ z) (laplace_neg_rest h (λ xs. D (c ∷ xs)) cs) ∙ neg_rest (h c) (D cs) _

  -- ---- linear in the row
  pub laplace_combine_row :
      (f g : C → ℤ) (a b : ℤ) (D : List C → ℤ) (cs : List C)
      → laplace (λ c. a ⊗ f c ⊖ b ⊗ g c) D cs ≡ a ⊗ laplace f D cs ⊖ b ⊗ laplace g D cs
  unfolding laplace
  laplace_combine_row f g a b D [] = simp ring
  laplace_combine_row f g a b D (c ∷ cs) =
      ap (λ z. (a ⊗ f c ⊖ b ⊗ g c) ⊗ D cs ⊖ z) (laplace_combine_row f g a b (λ xs. D (c ∷ xs)) cs)
      ∙ combine_row (f c) (g c) a b (D cs) _ _

  pub laplace_zero_row : (D : List C → ℤ) (cs : List C) → laplace (λ c. 0ℤ) D cs ≡ 0ℤ
  unfolding laplace
  laplace_zero_row D [] = refl
  laplace_zero_row D (c ∷ cs) = ap (λ z. 0ℤ ⊗ D cs ⊖ z) (laplace_zero_row (λ xs. D (c ∷ xs)) cs) ∙ simp ring

  -- ---- two rows
  -- both rows at a first column c, and what neither takes there
  pub laplace_two :
      (f g : C → ℤ) (D : List C → ℤ) (c : C) (cs : List C)
      → laplace f (laplace g D) (c ∷ cs) ≡ f c ⊗ laplace g D cs ⊖ (g c ⊗ laplace f D cs ⊖ laplace f (laplace g (λ ys. D (c ∷ ys))) cs)
  laplace_two f g D c cs =
      laplace_cons f (laplace g D) c cs
      ∙ ap (λ z. f c ⊗ laplace g D cs ⊖ z)
      (ap (λ E. laplace f E cs) (fun_ext (λ xs. laplace_cons g D c xs ∙ with_one (g c ⊗ D xs) _))
      ∙ laplace_combine_rest f (g c) 1ℤ D (laplace g (λ ys. D (c ∷ ys))) cs
      ∙ sym (with_one _ _))
    where
      with_one : (x y : ℤ) → x ⊖ y ≡ x ⊖ 1ℤ ⊗ y
      with_one x y = simp one_mul

  pub laplace_swap :
      (f g : C → ℤ) (D : List C → ℤ) (cs : List C) → laplace f (laplace g D) cs ≡ neg (laplace g (laplace f D) cs)
  unfolding laplace
  laplace_swap f g D [] = sym neg_zero
  laplace_swap f g D (c ∷ cs) =
      laplace_two f g D c cs
      ∙ ap (λ z. f c ⊗ laplace g D cs ⊖ (g c ⊗ laplace f D cs ⊖ z)) (laplace_swap f g (λ ys. D (c ∷ ys)) cs)
      ∙ swap_rows _ _ _
      ∙ ap neg (sym (laplace_two g f D c cs))

  pub laplace_self : (f : C → ℤ) (D : List C → ℤ) (cs : List C) → laplace f (laplace f D) cs ≡ 0ℤ
  unfolding laplace
  laplace_self f D [] = refl
  laplace_self f D (c ∷ cs) =
      laplace_two f f D c cs
      ∙ ap (λ z. f c ⊗ laplace f D cs ⊖ (f c ⊗ laplace f D cs ⊖ z)) (laplace_self f (λ ys. D (c ∷ ys)) cs)
      ∙ sub_sub_zero _

  -- ---- rows of a determinant
  pub det_swap_rows : (f g : C → ℤ) (hs : List (C → ℤ)) (cs : List C) → det (f ∷ g ∷ hs) cs ≡ neg (det (g ∷ f ∷ hs) cs)
  unfolding det
  det_swap_rows f g hs cs = laplace_swap f g (det hs) cs

  pub det_row_in : {h : C → ℤ} {hs : List (C → ℤ)} → In h hs → (cs : List C) → det (h ∷ hs) cs ≡ 0ℤ
  unfolding det
  det_row_in {h} (here {hs}) cs = laplace_self h (det hs) cs
  det_row_in {h} (there {g} {hs} m) cs =
      laplace_swap h g (det hs) cs
      ∙ ap (λ E. neg (laplace g E cs)) (fun_ext (det_row_in m))
      ∙ ap neg (laplace_zero_rest g cs)
      ∙ neg_zero

  -- linear in the row that stands below given ones
  pub det_combine_row :
      (above below : List (C → ℤ)) (f g : C → ℤ) (a b : ℤ) (cs : List C)
      → det (above ++ (λ c. a ⊗ f c ⊖ b ⊗ g c) ∷ below) cs ≡ a ⊗ det (above ++ f ∷ below) cs ⊖ b ⊗ det (above ++ g ∷ below) cs
  unfolding det
  det_combine_row [] below f g a b cs = laplace_combine_row f g a b (det below) cs
  det_combine_row (h ∷ above) below f g a b cs =
      ap (λ E. laplace h E cs) (fun_ext (det_combine_row above below f g a b))
      ∙ laplace_combine_rest h a b (det (above ++ f ∷ below)) (det (above ++ g ∷ below)) cs
