-- Signs of whole numbers: of the opposite, of a product, of a sum of two numbers with one sign, and of three numbers whose sum is 0.
-- At the end a test of equality of whole numbers that computes.
use mathlib.Core.Path.{◌≡◌, refl, sym, ap, ◌∙◌, subst}
use mathlib.Core.Logic.{◌↔◌, ◌≢◌}
use mathlib.Core.Bool.{Bool, true, false, false≢true}
use Prim.Native.Nat.{ℕ, suc, zero, ◌*◌, ◌<◌}
use native.Mathlib.Omega.{arith}
use native.Mathlib.Nat.{mul-pos, zero-lt-suc, suc-add}
use lib.Dec.{T, eqb, eqb→eq, eqb_refl}
use lib.IntN.{ℤ, pos, negsuc}
use Rattle.exact.specs.Int.{◌⊕◌, ◌⊗◌, neg, 0ℤ}
use Rattle.exact.specs.Sign.{Sign, negative, nought, positive, sign}
use Rattle.exact.proofs.Ring.{zero-add, add-zero, zero-mul, mul-zero, neg_mul, mul_neg, neg_neg, neg_unique}

unfoldable pub opposite : Sign → Sign
opposite negative = positive
opposite nought = nought
opposite positive = negative

unfoldable pub sign_times : Sign → Sign → Sign
sign_times negative t = opposite t
sign_times nought t = nought
sign_times positive t = t

-- ---- opposite and product
pub sign_neg : (a : ℤ) → sign (neg a) ≡ opposite (sign a)
unfolding sign neg opposite
sign_neg (pos zero) = refl
sign_neg (pos (suc n)) = refl
sign_neg (negsuc n) = refl

pub sign_pos : (n : ℕ) → 0 < n → sign (pos n) ≡ positive
unfolding sign
sign_pos zero h = absurd (omega arith)
sign_pos (suc n) h = refl

positive_product : (m n : ℕ) → sign (pos (suc m) ⊗ pos (suc n)) ≡ positive
unfolding ◌⊗◌
positive_product m n = sign_pos (suc m * suc n) (mul-pos (zero-lt-suc m) (zero-lt-suc n))

negsuc_neg : (n : ℕ) → negsuc n ≡ neg (pos (suc n))
unfolding neg
negsuc_neg n = refl

pub sign_mul : (a b : ℤ) → sign (a ⊗ b) ≡ sign_times (sign a) (sign b)
unfolding sign sign_times opposite
sign_mul (pos zero) b = ap sign (zero-mul b)
sign_mul (pos (suc m)) (pos zero) = ap sign (mul-zero (pos (suc m)))
sign_mul (pos (suc m)) (pos (suc n)) = positive_product m n
sign_mul (pos (suc m)) (negsuc n) =
    ap (λ x. sign (pos (suc m) ⊗ x)) (negsuc_neg n) ∙ ap sign (mul_neg (pos (suc m)) (pos (suc n))) ∙ sign_neg (pos (suc m) ⊗ pos (suc n)) ∙ ap opposite (positive_product m n)
sign_mul (negsuc m) (pos zero) = ap sign (mul-zero (negsuc m))
sign_mul (negsuc m) (pos (suc n)) =
    ap (λ x. sign (x ⊗ pos (suc n))) (negsuc_neg m) ∙ ap sign (neg_mul (pos (suc m)) (pos (suc n))) ∙ sign_neg (pos (suc m) ⊗ pos (suc n)) ∙ ap opposite (positive_product m n)
sign_mul (negsuc m) (negsuc n) =
    ap (λ x. sign (x ⊗ negsuc n)) (negsuc_neg m) ∙ ap (λ x. sign (neg (pos (suc m)) ⊗ x)) (negsuc_neg n) ∙ ap sign (neg_mul (pos (suc m)) (neg (pos (suc n))) ∙ ap neg (mul_neg (pos (suc m)) (pos (suc n))) ∙ neg_neg (pos (suc m) ⊗ pos (suc n))) ∙ positive_product m n

-- ---- nought
pub sign_zero : sign 0ℤ ≡ nought
unfolding sign
sign_zero = refl

pub sign_nought : (a : ℤ) → sign a ≡ nought → a ≡ 0ℤ
unfolding sign
sign_nought (pos zero) h = refl
sign_nought (pos (suc n)) h = cc
sign_nought (negsuc n) h = cc

-- ---- sums
pub sign_add_same : (s : Sign) (a b : ℤ) → sign a ≡ s → sign b ≡ s → sign (a ⊕ b) ≡ s
unfolding sign ◌⊕◌
sign_add_same s (pos zero) (pos zero) h k = h
sign_add_same s (pos zero) (pos (suc n)) h k = cc
sign_add_same s (pos zero) (negsuc n) h k = cc
sign_add_same s (pos (suc m)) (pos zero) h k = cc
sign_add_same s (pos (suc m)) (pos (suc n)) h k = ap (λ x. sign (pos x)) (suc-add m (suc n)) ∙ h
sign_add_same s (pos (suc m)) (negsuc n) h k = cc
sign_add_same s (negsuc m) (pos zero) h k = cc
sign_add_same s (negsuc m) (pos (suc n)) h k = cc
sign_add_same s (negsuc m) (negsuc n) h k = h

pub sign_add_nought_left : (a b : ℤ) → sign a ≡ nought → sign (a ⊕ b) ≡ sign b
sign_add_nought_left a b h = ap (λ x. sign (x ⊕ b)) (sign_nought a h) ∙ ap sign (zero-add b)

pub sign_add_nought_right : (a b : ℤ) → sign b ≡ nought → sign (a ⊕ b) ≡ sign a
sign_add_nought_right a b h = ap (λ x. sign (a ⊕ x)) (sign_nought b h) ∙ ap sign (add-zero a)

-- what the signs of three numbers with sum 0 can be: all nought, or a positive and a negative one among them
pub data CanCancel : Sign → Sign → Sign → Type 0 where
  noughts : CanCancel nought nought nought
  plus_minus_any : (s : Sign) → CanCancel positive negative s
  plus_any_minus : (s : Sign) → CanCancel positive s negative
  any_plus_minus : (s : Sign) → CanCancel s positive negative
  minus_plus_any : (s : Sign) → CanCancel negative positive s
  minus_any_plus : (s : Sign) → CanCancel negative s positive
  any_minus_plus : (s : Sign) → CanCancel s negative positive

-- the third of three numbers with sum 0 has the opposite sign of the sum of the others
third_sign : (a b c : ℤ) (s : Sign) → a ⊕ b ⊕ c ≡ 0ℤ → sign (a ⊕ b) ≡ s → sign c ≡ opposite s
third_sign a b c s h k = ap sign (neg_unique (a ⊕ b) c h) ∙ sign_neg (a ⊕ b) ∙ ap opposite k

pub sign_three : (a b c : ℤ) → a ⊕ b ⊕ c ≡ 0ℤ → CanCancel (sign a) (sign b) (sign c)
unfolding opposite
sign_three a b c h = go (sign a) (sign b) refl refl
  where
    third : (s t u : Sign) → sign (a ⊕ b) ≡ u → CanCancel s t (opposite u) → CanCancel s t (sign c)
    third s t u e w = subst (λ x. CanCancel s t x) (sym (third_sign a b c u h e)) w

    go : (s t : Sign) → sign a ≡ s → sign b ≡ t → CanCancel s t (sign c)
    go negative negative e f = third negative negative negative (sign_add_same negative a b e f) (minus_any_plus negative)
    go negative nought e f = third negative nought negative (sign_add_nought_right a b f ∙ e) (minus_any_plus nought)
    go negative positive e f = minus_plus_any (sign c)
    go nought negative e f = third nought negative negative (sign_add_nought_left a b e ∙ f) (any_minus_plus nought)
    go nought nought e f = third nought nought nought (sign_add_same nought a b e f) noughts
    go nought positive e f = third nought positive positive (sign_add_nought_left a b e ∙ f) (any_plus_minus nought)
    go positive negative e f = plus_minus_any (sign c)
    go positive nought e f = third positive nought positive (sign_add_nought_right a b f ∙ e) (plus_any_minus nought)
    go positive positive e f = third positive positive positive (sign_add_same positive a b e f) (plus_any_minus positive)

-- ---- a test of equality
unfoldable pub equalℤ : ℤ → ℤ → Bool
equalℤ (pos m) (pos n) = eqb m n
equalℤ (pos m) (negsuc n) = false
equalℤ (negsuc m) (pos n) = false
equalℤ (negsuc m) (negsuc n) = eqb m n

true_T : (b : Bool) → b ≡ true → T b
true_T true h = tt
true_T false h = absurd (false≢true h)

T_true : (b : Bool) → T b → b ≡ true
T_true true t = refl
T_true false t = absurd t

pub equalℤ_sound : (a b : ℤ) → equalℤ a b ≡ true → a ≡ b
unfolding equalℤ
equalℤ_sound (pos m) (pos n) h = ap pos (eqb→eq m n (true_T (eqb m n) h))
equalℤ_sound (pos m) (negsuc n) h = absurd (false≢true h)
equalℤ_sound (negsuc m) (pos n) h = absurd (false≢true h)
equalℤ_sound (negsuc m) (negsuc n) h = ap negsuc (eqb→eq m n (true_T (eqb m n) h))

pub equalℤ_refl : (a : ℤ) → equalℤ a a ≡ true
unfolding equalℤ
equalℤ_refl (pos n) = T_true (eqb n n) (eqb_refl n)
equalℤ_refl (negsuc n) = T_true (eqb n n) (eqb_refl n)

pub equalℤ_iff : (a b : ℤ) → (equalℤ a b ≡ true) ↔ (a ≡ b)
equalℤ_iff a b = (equalℤ_sound a b, λ h. ap (λ x. equalℤ a x) (sym h) ∙ equalℤ_refl a)

pub equalℤ_false : (a b : ℤ) → equalℤ a b ≡ false → a ≢ b
equalℤ_false a b h e = false≢true (sym h ∙ (equalℤ_iff a b).1 e)
