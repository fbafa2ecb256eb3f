-- The signs of a simplex's facets are as proofs/OnlyOtherSign asks: antisymmetric, balanced, with the three-term relation,
-- and not all nought. And a facet is crossed exactly if its signs are: the factor (−1) to the p that the minors carry
-- changes both sides of "has the sign of D" alike.
use Prim.Native.Nat.{ℕ, suc, zero, ◌≤◌, ◌<◌}
use native.Mathlib.Omega.{arith}
use mathlib.Core.Path.{◌≡◌, refl, sym, ap, subst₃, fun_ext, ◌∙◌}
use mathlib.Core.Bool.{true}
use mathlib.Core.Logic.{◌≢◌}
use mathlib.Core.List.{List, [], map}
use lib.IntN.{ℤ}
use lib.ListN.{length, get_or}
use Rattle.exact.specs.Int.{◌⊗◌, 0ℤ, 1ℤ}
use Rattle.exact.specs.Sign.{Sign, negative, nought, positive, sign, lex_sign}
use Rattle.exact.specs.Det.{Column, determinant}
use Rattle.exact.specs.Crossed.{count_from, unit_column, coefficient, coefficients, crossed, remove}
use Rattle.exact.specs.Minors.{alternate, position, skip, minor, replaced_minor}
use Rattle.exact.proofs.Ring.{mul_comm}
use Rattle.exact.proofs.SignLaws.{opposite, sign_times, sign_neg, sign_zero, CanCancel}
use Rattle.exact.proofs.LexSign.{opposite_opposite, sign_times_comm, lex_sign_neg, lex_sign_scale, lex_sign_nought, lex_sign_three}
use Rattle.exact.proofs.OnlyOtherSign.{SimplexSigns, CrossedSigns}
use Rattle.exact.proofs.CrossedTest.{SignsAgree, crossed→signs, signs→crossed}
use Rattle.exact.proofs.Minors.{minor_negative_of_positive, minor_positive_of_negative, replaced_minor_antisymmetric, three_terms, replaced_minor_not_all_zero, coefficient_replaced_minor}
use Rattle.exact.proofs.Position.{skip_position, skip_ne, skip_le, position_lt}

-- ---- alternating signs

-- the sign of (−1) to the p, times a number of sign s
unfoldable pub alternate_sign : ℕ → Sign → Sign
alternate_sign zero s = s
alternate_sign (suc p) s = opposite (alternate_sign p s)

alternate_sign_injective : (p : ℕ) (s t : Sign) → alternate_sign p s ≡ alternate_sign p t → s ≡ t
unfolding alternate_sign
alternate_sign_injective zero s t e = e
alternate_sign_injective (suc p) s t e = alternate_sign_injective p s t (sym (opposite_opposite _) ∙ ap opposite e ∙ opposite_opposite _)

alternate_sign_nought : (p : ℕ) → alternate_sign p nought ≡ nought
unfolding alternate_sign opposite
alternate_sign_nought zero = refl
alternate_sign_nought (suc p) = ap opposite (alternate_sign_nought p)

sign_alternate : (p : ℕ) (x : ℤ) → sign (alternate p x) ≡ alternate_sign p (sign x)
unfolding alternate alternate_sign
sign_alternate zero x = refl
sign_alternate (suc p) x = sign_neg (alternate p x) ∙ ap opposite (sign_alternate p x)

pub lex_sign_alternate :
    {A : Type 0} (p : ℕ) (f : A → ℤ) (js : List A)
    → lex_sign (map (λ j. alternate p (f j)) js) ≡ alternate_sign p (lex_sign (map f js))
unfolding alternate alternate_sign
lex_sign_alternate zero f js = refl
lex_sign_alternate (suc p) f js = lex_sign_neg (λ j. alternate p (f j)) js ∙ ap opposite (lex_sign_alternate p f js)

-- ---- the signs of a simplex

-- the sign of the facet without p
unfoldable pub facet_sign : ℕ → List Column → ℕ → Sign
facet_sign n us p = sign (minor n us p)

-- the lexicographic sign of vertex q in the facet without p
unfoldable pub vertex_sign : ℕ → List Column → ℕ → ℕ → Sign
vertex_sign n us p q = lex_sign (map (λ j. replaced_minor n us (unit_column j) p q) (count_from 0 n))

pub facet_sign_is : (n : ℕ) (us : List Column) (p : ℕ) → facet_sign n us p ≡ alternate_sign p (sign (determinant n (remove p us)))
unfolding facet_sign minor
facet_sign_is n us p = sign_alternate p (determinant n (remove p us))

pub vertex_sign_is :
    (n : ℕ) (us : List Column) (p i : ℕ)
    → vertex_sign n us p (skip p i) ≡ alternate_sign p (lex_sign (coefficients n (remove p us) i))
unfolding vertex_sign coefficients
vertex_sign_is n us p i =
    ap (λ f. lex_sign (map f (count_from 0 n))) (fun_ext (λ j. sym (coefficient_replaced_minor n us p i j)))
    ∙ lex_sign_alternate p (coefficient n (remove p us) i) (count_from 0 n)

-- ---- a facet is crossed exactly if its signs are

module _ (n : ℕ) (us : List Column) (p : ℕ) (p≤ : p ≤ n) where
  pub crossed→crossed_signs : crossed n (remove p us) ≡ true → CrossedSigns n (facet_sign n us) (vertex_sign n us) p
  crossed→crossed_signs h = record { determined = determined; agree = agree }
    where
      w : SignsAgree n (remove p us)
      w = crossed→signs n (remove p us) h

      determined : facet_sign n us p ≢ nought
      determined e = w.determined (alternate_sign_injective p _ _ (sym (facet_sign_is n us p) ∙ e ∙ sym (alternate_sign_nought p)))

      agree : (q : ℕ) → q ≤ n → p ≢ q → vertex_sign n us p q ≡ facet_sign n us p
      agree q q≤ pq =
          ap (vertex_sign n us p) (sym (skip_position p q pq))
          ∙ vertex_sign_is n us p (position p q)
          ∙ ap (alternate_sign p) (w.agree (position p q) (position_lt n p q p≤ q≤ pq))
          ∙ sym (facet_sign_is n us p)

  pub crossed_signs→crossed : CrossedSigns n (facet_sign n us) (vertex_sign n us) p → crossed n (remove p us) ≡ true
  crossed_signs→crossed c = signs→crossed n (remove p us) (record { determined = determined; agree = agree })
    where
      determined : sign (determinant n (remove p us)) ≢ nought
      determined e = c.determined (facet_sign_is n us p ∙ ap (alternate_sign p) e ∙ alternate_sign_nought p)

      agree : (i : ℕ) → i < n → lex_sign (coefficients n (remove p us) i) ≡ sign (determinant n (remove p us))
      agree i l =
          alternate_sign_injective p _ _ (sym (vertex_sign_is n us p i) ∙ c.agree (skip p i) (skip_le n p i p≤ l) (skip_ne p i) ∙ facet_sign_is n us p)

-- ---- what `only_other_sign` asks

module _ (n : ℕ) (us : List Column) (size : length us ≡ suc n) (large : 0 < n) (ones : (p : ℕ) → p ≤ n → get_or (get_or us p []) 0 0ℤ ≡ 1ℤ) where
  balance : (p : ℕ) → p ≤ n → facet_sign n us p ≢ nought → (q : ℕ) × (q ≤ n) × (facet_sign n us q ≡ opposite (facet_sign n us p))
  unfolding facet_sign opposite
  balance p p≤ h = go (sign (minor n us p)) refl
    where
      go : (s : Sign) → sign (minor n us p) ≡ s → (q : ℕ) × (q ≤ n) × (sign (minor n us q) ≡ opposite (sign (minor n us p)))
      go negative e = let (q, q≤, k) = minor_positive_of_negative n us size large ones p p≤ e in (q, q≤, k ∙ ap opposite (sym e))
      go nought e = absurd (h e)
      go positive e = let (q, q≤, k) = minor_negative_of_positive n us size large ones p p≤ e in (q, q≤, k ∙ ap opposite (sym e))

  antisymmetric : (p q : ℕ) → p ≤ n → q ≤ n → p ≢ q → vertex_sign n us q p ≡ opposite (vertex_sign n us p q)
  unfolding vertex_sign
  antisymmetric p q p≤ q≤ pq =
      ap (λ f. lex_sign (map f (count_from 0 n))) (fun_ext (λ j. replaced_minor_antisymmetric n us size (unit_column j) p q pq p≤ q≤))
      ∙ lex_sign_neg (λ j. replaced_minor n us (unit_column j) p q) (count_from 0 n)

  -- a product of signs is the lexicographic sign of the products
  product :
      (p q r : ℕ)
      → lex_sign (map (λ j. replaced_minor n us (unit_column j) p q ⊗ minor n us r) (count_from 0 n)) ≡ sign_times (vertex_sign n us p q) (facet_sign n us r)
  unfolding vertex_sign facet_sign
  product p q r =
      ap (λ f. lex_sign (map f (count_from 0 n))) (fun_ext (λ j. mul_comm _ _))
      ∙ lex_sign_scale (minor n us r) (λ j. replaced_minor n us (unit_column j) p q) (count_from 0 n)
      ∙ sign_times_comm _ _

  three :
      (p q r : ℕ) → p ≤ n → q ≤ n → r ≤ n → p ≢ q → q ≢ r → r ≢ p
      → CanCancel (sign_times (vertex_sign n us p q) (facet_sign n us r)) (sign_times (vertex_sign n us q r) (facet_sign n us p)) (sign_times (vertex_sign n us r p) (facet_sign n us q))
  three p q r p≤ q≤ r≤ pq qr rp =
      subst₃ CanCancel (product p q r) (product q r p) (product r p q)
      (lex_sign_three _ _ _ (count_from 0 n) (λ j. three_terms n us size (unit_column j) p q r pq qr rp p≤ q≤ r≤))

  nonzero : (p q : ℕ) → p ≤ n → q ≤ n → facet_sign n us p ≢ nought → p ≢ q → vertex_sign n us p q ≢ nought
  unfolding vertex_sign facet_sign
  nonzero p q p≤ q≤ h pq e =
      replaced_minor_not_all_zero n us size p q p≤ q≤ pq (λ z. h (ap sign z ∙ sign_zero))
      (λ j l. lex_sign_nought (λ j. replaced_minor n us (unit_column j) p q) 0 n e j (omega arith) (omega arith))

  pub simplex_signs : SimplexSigns n (facet_sign n us) (vertex_sign n us)
  simplex_signs = record { antisymmetric = antisymmetric; balance = balance; three = three; nonzero = nonzero }
