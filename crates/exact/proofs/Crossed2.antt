-- "Crossed" for n = 2, in the paper's words: of a facet of two vertices with the values x and y, one value is above 0 and the
-- other is 0 or below.
use Prim.Native.Nat.{ℕ, suc, zero, ◌<◌}
use native.Mathlib.Omega.{arith}
use mathlib.Core.Path.{◌≡◌, refl, sym, ap, ap₂, ◌∙◌}
use mathlib.Core.Bool.{true}
use mathlib.Core.Logic.{◌≢◌, ◌↔◌, ◌⊎◌, inl, inr}
use mathlib.Core.List.{List, [], ◌∷◌}
use lib.IntN.{ℤ}
use Rattle.exact.specs.Int.{◌⊕◌, ◌⊖◌, neg, 1ℤ}
use Rattle.exact.specs.Sign.{Sign, negative, nought, positive, sign, or_else, lex_sign}
use Rattle.exact.specs.Det.{Column, laplace, if_none, det, rows_from, determinant}
use Rattle.exact.specs.Crossed.{count_from, unit_column, coefficient, coefficients, crossed}
use Rattle.exact.proofs.Ring.{sub_eq, one_mul, mul-one, zero-mul, add-zero, zero-add, neg_zero}
use Rattle.exact.proofs.SignLaws.{opposite, sign_neg, sign_add_same, sign_add_nought_left, sign_add_nought_right}
use Rattle.exact.proofs.CrossedTest.{SignsAgree, crossed→signs, signs→crossed}

-- the facet of two vertices with the values x and y
abbrev pub facet2 : ℤ → ℤ → List Column
facet2 x y = (1ℤ ∷ x ∷ []) ∷ (1ℤ ∷ y ∷ []) ∷ []

pub determinant_facet2 : (x y : ℤ) → determinant 2 (facet2 x y) ≡ y ⊖ x
unfolding determinant det laplace if_none rows_from
determinant_facet2 x y = simp (sub_eq, one_mul, mul-one, add-zero, neg_zero)

coefficient_00 : (x y : ℤ) → coefficient 2 (facet2 x y) 0 0 ≡ y
unfolding coefficient unit_column determinant det laplace if_none rows_from
coefficient_00 x y = simp (sub_eq, one_mul, mul-one, add-zero, neg_zero)

coefficient_01 : (x y : ℤ) → coefficient 2 (facet2 x y) 0 1 ≡ neg 1ℤ
unfolding coefficient unit_column determinant det laplace if_none rows_from
coefficient_01 x y = simp (sub_eq, one_mul, mul-one, zero-mul, add-zero, zero-add, neg_zero)

coefficient_10 : (x y : ℤ) → coefficient 2 (facet2 x y) 1 0 ≡ neg x
unfolding coefficient unit_column determinant det laplace if_none rows_from
coefficient_10 x y = simp (sub_eq, one_mul, mul-one, add-zero, zero-add, neg_zero)

coefficient_11 : (x y : ℤ) → coefficient 2 (facet2 x y) 1 1 ≡ 1ℤ
unfolding coefficient unit_column determinant det laplace if_none rows_from
coefficient_11 x y = simp (sub_eq, one_mul, mul-one, zero-mul, add-zero, neg_zero)

-- the first vertex has the sign of y, or is below where y is 0
pub vertex_first : (x y : ℤ) → lex_sign (coefficients 2 (facet2 x y) 0) ≡ or_else (sign y) negative
unfolding coefficients count_from lex_sign or_else sign neg
vertex_first x y = ap₂ (λ a b. or_else (sign a) (or_else (sign b) nought)) (coefficient_00 x y) (coefficient_01 x y)

-- the second has the opposite sign of x, or is above where x is 0
pub vertex_second : (x y : ℤ) → lex_sign (coefficients 2 (facet2 x y) 1) ≡ or_else (opposite (sign x)) positive
unfolding coefficients count_from lex_sign or_else sign
vertex_second x y =
    ap₂ (λ a b. or_else (sign a) (or_else (sign b) nought)) (coefficient_10 x y) (coefficient_11 x y) ∙ ap (λ s. or_else s positive) (sign_neg x)

-- one value is above 0 and the other is 0 or below
abbrev pub OneAbove : ℤ → ℤ → Type 0
OneAbove x y = ((sign x ≡ positive) × (sign y ≢ positive)) ⊎ ((sign y ≡ positive) × (sign x ≢ positive))

negative≢positive : negative ≢ positive
negative≢positive e = let z : ◌≡◌ {A = ℕ} 0 1 = cc in omega arith

nought≢positive : nought ≢ positive
nought≢positive e = let z : ◌≡◌ {A = ℕ} 0 1 = cc in omega arith

positive≢nought : positive ≢ nought
positive≢nought e = nought≢positive (sym e)

negative≢nought : negative ≢ nought
negative≢nought e = let z : ◌≡◌ {A = ℕ} 0 1 = cc in omega arith

-- over signs: s is that of x, t that of y
signs_two :
    (s t : Sign) → or_else t negative ≡ or_else (opposite s) positive
    → ((s ≡ positive) × (t ≢ positive)) ⊎ ((t ≡ positive) × (s ≢ positive))
unfolding or_else opposite
signs_two negative negative h = absurd (negative≢positive h)
signs_two negative nought h = absurd (negative≢positive h)
signs_two negative positive h = inr (refl, negative≢positive)
signs_two nought negative h = absurd (negative≢positive h)
signs_two nought nought h = absurd (negative≢positive h)
signs_two nought positive h = inr (refl, nought≢positive)
signs_two positive negative h = inl (refl, negative≢positive)
signs_two positive nought h = inl (refl, nought≢positive)
signs_two positive positive h = absurd (negative≢positive (sym h))

or_else_negative : (t : Sign) → t ≢ positive → or_else t negative ≡ negative
unfolding or_else
or_else_negative negative h = refl
or_else_negative nought h = refl
or_else_negative positive h = absurd (h refl)

or_else_opposite_positive : (s : Sign) → s ≢ positive → or_else (opposite s) positive ≡ positive
unfolding or_else opposite
or_else_opposite_positive negative h = refl
or_else_opposite_positive nought h = refl
or_else_opposite_positive positive h = absurd (h refl)

-- ---- the sign of D

-- where x is above and y is not, y − x is below
difference_below : (x y : ℤ) → sign x ≡ positive → sign y ≢ positive → sign (y ⊖ x) ≡ negative
unfolding opposite
difference_below x y h k = ap sign (sub_eq y x) ∙ go (sign y) refl
  where
    other : sign (neg x) ≡ negative
    other = sign_neg x ∙ ap opposite h

    go : (t : Sign) → sign y ≡ t → sign (y ⊕ neg x) ≡ negative
    go negative e = sign_add_same negative y (neg x) e other
    go nought e = sign_add_nought_left y (neg x) e ∙ other
    go positive e = absurd (k e)

difference_above : (x y : ℤ) → sign y ≡ positive → sign x ≢ positive → sign (y ⊖ x) ≡ positive
unfolding opposite
difference_above x y h k = ap sign (sub_eq y x) ∙ go (sign x) refl
  where
    go : (s : Sign) → sign x ≡ s → sign (y ⊕ neg x) ≡ positive
    go negative e = sign_add_same positive y (neg x) h (sign_neg x ∙ ap opposite e)
    go nought e = sign_add_nought_right y (neg x) (sign_neg x ∙ ap opposite e) ∙ h
    go positive e = absurd (k e)

-- ---- the theorem

pub crossed_two : (x y : ℤ) → (crossed 2 (facet2 x y) ≡ true) ↔ OneAbove x y
unfolding or_else opposite
crossed_two x y = (λ h. there (crossed→signs 2 (facet2 x y) h), λ h. signs→crossed 2 (facet2 x y) (back h))
  where
    there : SignsAgree 2 (facet2 x y) → OneAbove x y
    there w = signs_two (sign x) (sign y) (sym (vertex_first x y) ∙ w.agree 0 (omega arith) ∙ sym (w.agree 1 (omega arith)) ∙ vertex_second x y)

    -- the sign d of D, not nought, is that of both vertices
    both :
        (d : Sign) → d ≢ nought → sign (y ⊖ x) ≡ d → or_else (sign y) negative ≡ d
        → or_else (opposite (sign x)) positive ≡ d → SignsAgree 2 (facet2 x y)
    both d h e first second = record { determined = λ z. h (sym D ∙ z); agree = agree }
      where
        D : sign (determinant 2 (facet2 x y)) ≡ d
        D = ap sign (determinant_facet2 x y) ∙ e

        agree : (i : ℕ) → i < 2 → lex_sign (coefficients 2 (facet2 x y) i) ≡ sign (determinant 2 (facet2 x y))
        agree zero l = vertex_first x y ∙ first ∙ sym D
        agree (suc zero) l = vertex_second x y ∙ second ∙ sym D
        agree (suc (suc i)) l = absurd (omega arith)

    back : OneAbove x y → SignsAgree 2 (facet2 x y)
    back (inl w) =
        both negative negative≢nought (difference_below x y w.0 w.1) (or_else_negative (sign y) w.1) (ap (λ s. or_else (opposite s) positive) w.0)
    back (inr w) =
        both positive positive≢nought (difference_above x y w.0 w.1) (ap (λ t. or_else t negative) w.0) (or_else_opposite_positive (sign x) w.1)
