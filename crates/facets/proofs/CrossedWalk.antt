-- The walk of `crossed` over vertices and powers, as equations of the definition: what is left of the walk at power j of a vertex and at vertex i.
use Prim.Native.Nat.{ℕ, ◌+◌, ◌-◌, ◌≤◌, ◌<◌}
use mathlib.Core.Path.{◌≡◌, refl, sym, ap, ◌∙◌}
use mathlib.Core.Bool.{Bool, true, false, not, ◌&&◌}
use mathlib.Core.List.{List, map}
use native.Mathlib.Omega.{arith}
use lib.IntN.{ℤ}
use Rattle.exact.specs.Sign.{Sign, negative, nought, positive, sign, or_else, lex_sign, same_sign}
use Rattle.exact.specs.Det.{Column, determinant}
use Rattle.exact.specs.Crossed.{count_from, coefficient, coefficients, all_have_sign, crossed}
use Rattle.exact.proofs.CountFrom.{count_from_next, count_from_none}
use Rattle.exact.proofs.LexSign.{same_sign_sound}

or_else_nought : (s t : Sign) → same_sign s nought ≡ true → or_else s t ≡ t
unfolding same_sign or_else
or_else_nought negative t h = cc
or_else_nought nought t h = refl
or_else_nought positive t h = cc

or_else_found : (s t : Sign) → same_sign s nought ≡ false → or_else s t ≡ s
unfolding same_sign or_else
or_else_found negative t h = refl
or_else_found nought t h = cc
or_else_found positive t h = refl

nought_differs : (s : Sign) → same_sign s nought ≡ false → same_sign nought s ≡ false
unfolding same_sign
nought_differs negative h = refl
nought_differs nought h = h
nought_differs positive h = refl

module _ (n : ℕ) (cs : List Column) where
  -- the coefficients of vertex i from power j on
  pub left_at : ℕ → ℕ → List ℤ
  left_at i j = map (λ k. coefficient n cs i k) (count_from j (n - j))

  -- ---- the powers of a vertex

  pub left_begin : (i : ℕ) → lex_sign (coefficients n cs i) ≡ lex_sign (left_at i 0)
  unfolding coefficients left_at
  left_begin i = let whole : n ≡ n - 0 = omega arith in ap (λ m. lex_sign (map (λ k. coefficient n cs i k) (count_from 0 m))) whole

  left_next : (i j : ℕ) → j < n → lex_sign (left_at i j) ≡ or_else (sign (coefficient n cs i j)) (lex_sign (left_at i (j + 1)))
  unfolding left_at lex_sign
  left_next i j h = ap (λ l. lex_sign (map (λ k. coefficient n cs i k) l)) (count_from_next j n h)

  pub left_passed :
      (i j : ℕ) → j < n → same_sign (sign (coefficient n cs i j)) nought ≡ true → lex_sign (left_at i j) ≡ lex_sign (left_at i (j + 1))
  left_passed i j h z = left_next i j h ∙ or_else_nought (sign (coefficient n cs i j)) _ z

  pub left_found :
      (i j : ℕ) → j < n → same_sign (sign (coefficient n cs i j)) nought ≡ false → lex_sign (left_at i j) ≡ sign (coefficient n cs i j)
  left_found i j h z = left_next i j h ∙ or_else_found (sign (coefficient n cs i j)) _ z

  pub left_none : (i j : ℕ) → n ≤ j → lex_sign (left_at i j) ≡ nought
  unfolding left_at lex_sign
  left_none i j h = ap (λ l. lex_sign (map (λ k. coefficient n cs i k) l)) (count_from_none j n h)

  -- ---- the vertices

  abbrev pub D : Sign
  D = sign (determinant n cs)

  pub vertices_left : ℕ → Bool
  vertices_left i = all_have_sign n cs D (count_from i (n - i))

  pub crossed_zero : same_sign D nought ≡ true → false ≡ crossed n cs
  unfolding crossed
  crossed_zero h = ap (λ b. not b && all_have_sign n cs D (count_from 0 n)) (sym h)

  pub crossed_begin : same_sign D nought ≡ false → crossed n cs ≡ vertices_left 0
  unfolding crossed vertices_left
  crossed_begin h =
      let whole : n ≡ n - 0 = omega arith in
      ap (λ b. not b && all_have_sign n cs D (count_from 0 n)) h ∙ ap (λ m. all_have_sign n cs D (count_from 0 m)) whole

  vertices_next : (i : ℕ) → i < n → vertices_left i ≡ same_sign (lex_sign (coefficients n cs i)) D && vertices_left (i + 1)
  unfolding vertices_left all_have_sign
  vertices_next i h = ap (all_have_sign n cs D) (count_from_next i n h)

  pub vertices_none : (i : ℕ) → n ≤ i → vertices_left i ≡ true
  unfolding vertices_left all_have_sign
  vertices_none i h = ap (all_have_sign n cs D) (count_from_none i n h)

  -- every coefficient of vertex i before power j is 0
  abbrev pub Passed : ℕ → ℕ → Type 0
  Passed i j = lex_sign (coefficients n cs i) ≡ lex_sign (left_at i j)

  -- the first non-zero coefficient of vertex i, at power j, has the sign of D, which is not 0
  pub vertex_with :
      (i j : ℕ) → i < n → j < n → Passed i j → same_sign D nought ≡ false → same_sign (sign (coefficient n cs i j)) D ≡ true
      → vertices_left i ≡ vertices_left (i + 1)
  vertex_with i j hi hj e d same =
      let is = same_sign_sound (sign (coefficient n cs i j)) D same in
      vertices_next i hi
      ∙ ap (λ b. b && vertices_left (i + 1))
      (ap (λ s. same_sign s D) (e ∙ left_found i j hj (ap (λ s. same_sign s nought) is ∙ d)) ∙ same)

  -- it has the other sign
  pub vertex_against_lem :
      (i j : ℕ) → i < n → j < n → Passed i j → same_sign (sign (coefficient n cs i j)) nought ≡ false
      → same_sign (sign (coefficient n cs i j)) D ≡ false → vertices_left i ≡ false
  vertex_against_lem i j hi hj e z differ =
      vertices_next i hi ∙ ap (λ b. b && vertices_left (i + 1)) (ap (λ s. same_sign s D) (e ∙ left_found i j hj z) ∙ differ)

  -- it has none
  pub vertex_without : (i j : ℕ) → i < n → n ≤ j → Passed i j → same_sign D nought ≡ false → vertices_left i ≡ false
  vertex_without i j hi hj e d =
      vertices_next i hi ∙ ap (λ b. b && vertices_left (i + 1)) (ap (λ s. same_sign s D) (e ∙ left_none i j hj) ∙ nought_differs D d)
