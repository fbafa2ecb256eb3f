-- The determinants of two and of three columns in their usual closed forms, and the coefficients of the crossed test for n = 2 and n = 3.
-- They tie the general definitions to what a reader knows and to what code computes.
use mathlib.Core.Path.{◌≡◌, refl, ap₂, ◌∙◌}
use mathlib.Core.List.{List, [], ◌∷◌}
use lib.IntN.{ℤ}
use lib.ListN.{get_or}
use Rattle.exact.specs.Int.{◌⊕◌, ◌⊖◌, ◌⊗◌, neg, 0ℤ, 1ℤ}
use Rattle.exact.specs.Det.{Column, laplace, if_none, det, rows_from, determinant}
use Rattle.exact.specs.Crossed.{unit_column, count_from, coefficient, coefficients}
use Rattle.exact.proofs.Ring.{mul-one, one_mul}
use Rattle.exact.proofs.Identities.{ring}

-- an empty matrix
if_none_nil : if_none {C = Column} [] ≡ 1ℤ
unfolding if_none
if_none_nil = refl

pub determinant_2 : (a b : Column) → determinant 2 (a ∷ b ∷ []) ≡ get_or a 0 0ℤ ⊗ get_or b 1 0ℤ ⊖ get_or b 0 0ℤ ⊗ get_or a 1 0ℤ
unfolding determinant det rows_from laplace
determinant_2 a b = simp (ring, if_none_nil, one_mul)

pub determinant_3 :
    (a b c : Column)
    → determinant 3 (a ∷ b ∷ c ∷ [])
    ≡ get_or a 0 0ℤ ⊗ (get_or b 1 0ℤ ⊗ get_or c 2 0ℤ ⊖ get_or c 1 0ℤ ⊗ get_or b 2 0ℤ)
    ⊖ get_or b 0 0ℤ ⊗ (get_or a 1 0ℤ ⊗ get_or c 2 0ℤ ⊖ get_or c 1 0ℤ ⊗ get_or a 2 0ℤ)
    ⊕ get_or c 0 0ℤ ⊗ (get_or a 1 0ℤ ⊗ get_or b 2 0ℤ ⊖ get_or b 1 0ℤ ⊗ get_or a 2 0ℤ)
unfolding determinant det rows_from laplace
determinant_3 a b c = simp (ring, if_none_nil, one_mul)

-- ---- the coefficients, in rising powers
two_equal : {x y u v : ℤ} → x ≡ u → y ≡ v → ◌≡◌ {A = List ℤ} (x ∷ y ∷ []) (u ∷ v ∷ [])
two_equal p q = ap₂ (λ s t. s ∷ t ∷ []) p q

three_equal : {x y z u v w : ℤ} → x ≡ u → y ≡ v → z ≡ w → ◌≡◌ {A = List ℤ} (x ∷ y ∷ z ∷ []) (u ∷ v ∷ w ∷ [])
three_equal p q r = ap₂ (λ s t. s ∷ t) p (two_equal q r)

-- n = 2
module _ (a b : Column) where
  pub coefficients_2_0 : coefficients 2 (a ∷ b ∷ []) 0 ≡ get_or b 1 0ℤ ∷ neg (get_or b 0 0ℤ) ∷ []
  unfolding coefficients coefficient count_from unit_column
  coefficients_2_0 =
      two_equal (determinant_2 (unit_column 0) b ∙ simp (ring, mul-one)) (determinant_2 (unit_column 1) b ∙ simp (ring, mul-one))

  pub coefficients_2_1 : coefficients 2 (a ∷ b ∷ []) 1 ≡ neg (get_or a 1 0ℤ) ∷ get_or a 0 0ℤ ∷ []
  unfolding coefficients coefficient count_from unit_column
  coefficients_2_1 =
      two_equal (determinant_2 a (unit_column 0) ∙ simp (ring, mul-one)) (determinant_2 a (unit_column 1) ∙ simp (ring, mul-one))

-- n = 3
module _ (a b c : Column) where
  pub coefficients_3_0 :
      coefficients 3 (a ∷ b ∷ c ∷ []) 0
      ≡ (get_or b 1 0ℤ ⊗ get_or c 2 0ℤ ⊖ get_or c 1 0ℤ ⊗ get_or b 2 0ℤ)
      ∷ (get_or c 0 0ℤ ⊗ get_or b 2 0ℤ ⊖ get_or b 0 0ℤ ⊗ get_or c 2 0ℤ)
      ∷ (get_or b 0 0ℤ ⊗ get_or c 1 0ℤ ⊖ get_or c 0 0ℤ ⊗ get_or b 1 0ℤ)
      ∷ []
  unfolding coefficients coefficient count_from unit_column
  coefficients_3_0 =
      three_equal
      (determinant_3 (unit_column 0) b c ∙ simp (ring, mul-one))
      (determinant_3 (unit_column 1) b c ∙ simp (ring, mul-one))
      (determinant_3 (unit_column 2) b c ∙ simp (ring, mul-one))

  pub coefficients_3_1 :
      coefficients 3 (a ∷ b ∷ c ∷ []) 1
      ≡ (get_or c 1 0ℤ ⊗ get_or a 2 0ℤ ⊖ get_or a 1 0ℤ ⊗ get_or c 2 0ℤ)
      ∷ (get_or a 0 0ℤ ⊗ get_or c 2 0ℤ ⊖ get_or c 0 0ℤ ⊗ get_or a 2 0ℤ)
      ∷ (get_or c 0 0ℤ ⊗ get_or a 1 0ℤ ⊖ get_or a 0 0ℤ ⊗ get_or c 1 0ℤ)
      ∷ []
  unfolding coefficients coefficient count_from unit_column
  coefficients_3_1 =
      three_equal
      (determinant_3 a (unit_column 0) c ∙ simp (ring, mul-one))
      (determinant_3 a (unit_column 1) c ∙ simp (ring, mul-one))
      (determinant_3 a (unit_column 2) c ∙ simp (ring, mul-one))

  pub coefficients_3_2 :
      coefficients 3 (a ∷ b ∷ c ∷ []) 2
      ≡ (get_or a 1 0ℤ ⊗ get_or b 2 0ℤ ⊖ get_or b 1 0ℤ ⊗ get_or a 2 0ℤ)
      ∷ (get_or b 0 0ℤ ⊗ get_or a 2 0ℤ ⊖ get_or a 0 0ℤ ⊗ get_or b 2 0ℤ)
      ∷ (get_or a 0 0ℤ ⊗ get_or b 1 0ℤ ⊖ get_or b 0 0ℤ ⊗ get_or a 1 0ℤ)
      ∷ []
  unfolding coefficients coefficient count_from unit_column
  coefficients_3_2 =
      three_equal
      (determinant_3 a b (unit_column 0) ∙ simp (ring, mul-one))
      (determinant_3 a b (unit_column 1) ∙ simp (ring, mul-one))
      (determinant_3 a b (unit_column 2) ∙ simp (ring, mul-one))
