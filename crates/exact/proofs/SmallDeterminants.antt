-- The determinants of one and two rows in their usual closed forms, and of three rows by those of two, for any rows and columns.
use mathlib.Core.Path.{◌≡◌, refl}
use mathlib.Core.List.{[], ◌∷◌}
use lib.IntN.{ℤ}
use Rattle.exact.specs.Int.{◌⊕◌, ◌⊖◌, ◌⊗◌, 1ℤ}
use Rattle.exact.specs.Det.{laplace, if_none, det}
use Rattle.exact.proofs.Ring.{one_mul}
use Rattle.exact.proofs.Identities.{ring}

if_none_nil : (C : Type 0) → if_none {C = C} [] ≡ 1ℤ
unfolding if_none
if_none_nil C = refl

module _ {C : Type 0} where
  pub det_one : (f : C → ℤ) (a : C) → det (f ∷ []) (a ∷ []) ≡ f a
  unfolding det laplace
  det_one f a = simp (ring, if_none_nil C, one_mul)

  pub det_two : (f g : C → ℤ) (a b : C) → det (f ∷ g ∷ []) (a ∷ b ∷ []) ≡ f a ⊗ g b ⊖ f b ⊗ g a
  unfolding det laplace
  det_two f g a b = simp (ring, if_none_nil C, one_mul)

  -- along the first row
  pub det_three :
      (f g h : C → ℤ) (a b c : C)
      → det (f ∷ g ∷ h ∷ []) (a ∷ b ∷ c ∷ [])
      ≡ f a ⊗ det (g ∷ h ∷ []) (b ∷ c ∷ []) ⊖ f b ⊗ det (g ∷ h ∷ []) (a ∷ c ∷ []) ⊕ f c ⊗ det (g ∷ h ∷ []) (a ∷ b ∷ [])
  unfolding det laplace
  det_three f g h a b c = simp (ring, if_none_nil C, one_mul)
