-- The search for the product of two monomials by its code.
use Prim.Native.Nat.{ℕ, suc, zero, ◌+◌, ◌≤◌, ◌<◌, max}
use mathlib.Core.Path.{◌≡◌, refl, sym, subst, ◌∙◌}
use mathlib.Core.Bool.{Bool, true, false}
use mathlib.Core.List.{List, []}
use native.Mathlib.Nat.{zero-add}
use native.Mathlib.Numerals.{add-one}
use native.Mathlib.Omega.{arith}
use lib.Dec.{ltb, lit≤}
use borrow.Author.Tests.{ltb-true, ltb-false}
use lib.ListN.{get_or, drop, drop_of_length-le}
use lib.Seq.{drop-cons}
use Rattle.std.specs.Prelude.{Option, Some, None, MatchOption}
use Rattle.formula.specs.Polynomial.{monomial_count, monomials, exponents_at, sum_exponents, same_exponents, position_in, slot, product_slot}
use Rattle.formula.proofs.Slots.{monomials_counted}
use Rattle.monomials.specs.Weight.{weight}
use Rattle.monomials.proofs.FourDigits.{Four, sum_four, sum_weight, weight_small, weight_same, weight_other, four_more}
use Rattle.monomials.proofs.Codes.{codes_array, code_is, codes_rise, exponents_four}

-- ---- exponents e sought from monomial s on

module _ (e : List ℕ) (s : ℕ) where
  abbrev from : ℕ
  from = s + position_in (drop s monomials) e

  found : s < 70 → same_exponents (exponents_at s) e ≡ true → s ≡ from
  unfolding position_in exponents_at monomial_count
  found l h = rw (drop-cons monomials s [] (omega (arith, monomials_counted)), h) (omega arith)

  next : s < 70 → same_exponents (exponents_at s) e ≡ false → from ≡ s + 1 + position_in (drop (s + 1) monomials) e
  unfolding position_in exponents_at monomial_count
  next l h = rw (drop-cons monomials s [] (omega (arith, monomials_counted)), h, add-one) (omega arith)

  left : 70 ≤ s → from ≡ s
  unfolding position_in monomial_count
  left l = rw (drop_of_length-le monomials {i = s} (omega (arith, monomials_counted))) (omega arith)

-- no monomial before s has these exponents
skipped : (e : List ℕ) (s : ℕ) → s ≤ 70 → ((j : ℕ) → j < s → same_exponents (exponents_at j) e ≡ false) → from e s ≡ slot e
unfolding slot
skipped e zero l h = zero-add (position_in monomials e)
skipped e (suc s) l h =
    subst (λ (n : ℕ). n + position_in (drop n monomials) e ≡ slot e) (add-one s)
    (sym (next e s (omega arith) (h s (omega arith))) ∙ skipped e s (omega arith) (λ j b. h j (omega arith)))

-- ---- the product of two monomials

-- of the codes from monomial m on the first that is w; none of them is
abbrev pub FirstCode : ℕ → ℕ → Option ℕ → Type 0
FirstCode m w r =
    MatchOption r ((j : ℕ) → m ≤ j → j < 70 → get_or codes_array j 0 ≡ w → ⊥)
    (λ s. (m ≤ s) × (s < 70) × (get_or codes_array s 0 ≡ w) × ((j : ℕ) → m ≤ j → j < s → get_or codes_array j 0 ≡ w → ⊥))

module _ (i k : ℕ) (h : (i < monomial_count) × (k < monomial_count)) where
  abbrev product : List ℕ
  product = sum_exponents (exponents_at i) (exponents_at k)

  product_four : Four 8 product
  product_four = sum_four (exponents_four i h.0) (exponents_four k h.1)

  product_weight : weight product ≡ weight (exponents_at i) + weight (exponents_at k)
  product_weight = sum_weight (exponents_four i h.0) (exponents_four k h.1)

  pub product_small : weight (exponents_at i) + weight (exponents_at k) < 65536
  product_small = subst (λ (w : ℕ). w < 65536) product_weight (weight_small product_four)

  -- a monomial before another weighs less
  other : (j m : ℕ) → j < m → m < monomial_count → weight (exponents_at m) ≤ weight product → same_exponents (exponents_at j) product ≡ false
  unfolding monomial_count
  other j m l n e =
      weight_other (exponents_at j) product (λ w. omega (arith, codes_rise j m l n, code_is m n, code_is j (omega (arith, n)), e, w))

  module _ {m w : ℕ} (is-m : m ≡ max i k) (is-w : w ≡ weight (exponents_at i) + weight (exponents_at k)) where
    -- no monomial before s is the product: those before i or k weigh less, the others have been tried
    skip : (s : ℕ) → s ≤ 70 → ((j : ℕ) → m ≤ j → j < s → get_or codes_array j 0 ≡ w → ⊥) → from product s ≡ slot product
    unfolding monomial_count
    skip s l tried = skipped product s l (λ j b. go j b (ltb j i) refl (ltb j k) refl)
      where
        go : (j : ℕ) → j < s → (a : Bool) → ltb j i ≡ a → (b : Bool) → ltb j k ≡ b → same_exponents (exponents_at j) product ≡ false
        go j u true e b f = other j i (ltb-true j i e) h.0 (omega (arith, product_weight))
        go j u false e true f = other j k (ltb-true j k f) h.1 (omega (arith, product_weight))
        go j u false e false f =
            weight_other (exponents_at j) product
            (λ q. tried j (omega (arith, is-m, ltb-false j i e, ltb-false j k f)) u (omega (arith, code_is j (omega arith), q, product_weight, is-w)))

    pub product_first : (r : Option ℕ) → FirstCode m w r
        → MatchOption r (product_slot i k ≡ monomial_count) (λ s. (s ≡ product_slot i k) × (s < monomial_count))
    unfolding product_slot monomial_count
    product_first None f = sym (skip 70 (omega arith) f) ∙ left product 70 (omega arith)
    product_first (Some s) f = (
      found product s f.1
          (weight_same (four_more (lit≤ tt) (exponents_four s f.1)) (four_more (lit≤ tt) product_four) (omega (arith, code_is s f.1, f.2, product_weight, is-w)))
          ∙ skip s (omega (arith, f.1)) f.3,
      f.1,
    )
