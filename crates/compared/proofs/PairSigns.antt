-- The sign of a pair of vertices, by its coefficients: what each test of the code says of it.
use Prim.Native.Nat.{ℕ, suc, ◌+◌, ◌-◌, ◌%◌, ◌≤◌, ◌<◌}
use native.Mathlib.Omega.{arith}
use mathlib.Core.Path.{◌≡◌, sym, ap, ◌∙◌, subst}
use mathlib.Core.Bool.{Bool, true, false, cond, beq}
use mathlib.Core.List.{List, [], ◌∷◌}
use lib.IntN.{ℤ, pos}
use lib.Dec.{eqb, lit≤}
use lib.Signed.{lt_z}
use Rattle.std.specs.declared.cmp.Ordering.TheVariants.{Less, Equal, Greater}
use mir.Syntax.{w64}
use mir.Val.{SFits}
use Rattle.exact.specs.Size.{Is}
use Rattle.exact.specs.Sign.{Sign, positive, nought, negative, sign, lex_sign, same_sign}
use Rattle.exact.specs.Det.{Column, det, rows_from}
use Rattle.exact.specs.Crossed.{coefficient, coefficients, remove}
use Rattle.exact.specs.Minors.{position, skip, alternate}
use Rattle.exact.specs.Compared.{above, pair_sign, stays, kept_from, compared_exit}
use Rattle.exact.proofs.Bits.{is_size, back}
use Rattle.exact.proofs.SizeLaws.{size_weaken, size_fits_64}
use Rattle.exact.proofs.Cofactor.{coefficient_minor, alternate_even}
use Rattle.exact.proofs.PairSigns.{position_later}
use Rattle.exact.proofs.ExitCompared.{skip_next, cond_holds}
use Rattle.determinants.specs.Cells.{Cells, simplex_columns, facet_columns}
use Rattle.determinants.specs.Entries.{coefficient_limit}
use Rattle.facets.specs.Signs.{sign_as}
use Rattle.facets.proofs.SignOrder.{tested_positive, tested_negative, tested_nought}
use Rattle.facets.proofs.CrossedWalk.{left_at, left_begin, left_passed, left_found, left_none}

-- the columns that a pair's coefficients are of: a vertex, then those of the facet without q but for vertex i
abbrev pub before : ℕ → List ℤ → ℕ → ℕ → List Column
before n cells q i = [] ∷ remove i (facet_columns n cells q)

-- ---- a coefficient from a minor

module _ {n : ℕ} {cells : List ℤ} {q i j : ℕ} (pre : Cells n cells × ((q ≤ n) × ((i < n) × (j < n)))) {m : ℤ}
    (e : Is coefficient_limit (det (remove j (rows_from 0 n)) (remove i (facet_columns n cells q))) m) where
  abbrev minor : ℤ
  minor = det (remove j (rows_from 0 n)) (remove i (facet_columns n cells q))

  is_minor : alternate j m ≡ coefficient n (before n cells q i) 0 j
  unfolding alternate remove
  is_minor = ap (alternate j) e.is ∙ sym (coefficient_minor n (before n cells q i) 0 j (omega arith) pre.1.1.1)

  pub pair_cofactor : {z : ℤ} → Is coefficient_limit (alternate j m) z → Is coefficient_limit (coefficient n (before n cells q i) 0 j) z
  pair_cofactor {z} a = subst (λ x. Is coefficient_limit x z) is_minor a

  -- of power 0 it is the minor
  pub pair_first : j ≡ 0 → Is coefficient_limit (coefficient n (before n cells q i) 0 j) m
  pair_first z =
      let even : j % 2 ≡ 0 = omega arith in
      subst (λ x. Is coefficient_limit x m) (sym (alternate_even j minor even) ∙ ap (alternate j) (sym e.is) ∙ is_minor) e

-- ---- the sign of a coefficient, by the tests of its number

module _ {x z : ℤ} (e : Is coefficient_limit x z) where
  fits : SFits w64 z
  fits = size_fits_64 (size_weaken (is_size e) (lit≤ tt))

  pub sign_above : lt_z (pos 0) (back z) ≡ true → sign x ≡ positive
  sign_above h = ap sign (sym e.is) ∙ tested_positive z fits h

  pub sign_below : lt_z (back z) (pos 0) ≡ true → sign x ≡ negative
  sign_below h = ap sign (sym e.is) ∙ tested_negative z fits h

  pub sign_neither : lt_z (pos 0) (back z) ≡ false → lt_z (back z) (pos 0) ≡ false → sign x ≡ nought
  sign_neither h k = ap sign (sym e.is) ∙ tested_nought z fits h k

-- by its order
pub greater_above : {s : Sign} → sign_as Greater ≡ s → s ≡ positive
unfolding sign_as
greater_above h = sym h

pub less_below : {s : Sign} → sign_as Less ≡ s → s ≡ negative
unfolding sign_as
less_below h = sym h

pub equal_nought : {s : Sign} → sign_as Equal ≡ s → s ≡ nought
unfolding sign_as
equal_nought h = sym h

-- ---- the sign of a pair, after the powers before j were passed

module _ (n : ℕ) (cells : List ℤ) (q r : ℕ) (l : q < r) where
  -- the columns of the pair
  abbrev pub pair : List Column
  pair = before n cells q (r - 1)

  pair_is : pair_sign n (simplex_columns n cells) q r ≡ lex_sign (coefficients n pair 0)
  unfolding pair_sign facet_columns
  pair_is =
      let later : position q r ≡ r - 1 = omega (arith, position_later q r l) in
      ap (λ i. lex_sign (coefficients n ([] ∷ remove i (remove q (simplex_columns n cells))) 0)) later

  -- every coefficient before j is 0
  abbrev pub Passed : ℕ → Type 0
  Passed j = lex_sign (coefficients n pair 0) ≡ lex_sign (left_at n pair 0 j)

  pub passed_begin : Passed 0
  passed_begin = left_begin n pair 0

  pub passed_nought : (j : ℕ) → j < n → Passed j → sign (coefficient n pair 0 j) ≡ nought → Passed (j + 1)
  unfolding same_sign
  passed_nought j h p z = p ∙ left_passed n pair 0 j h (ap (λ s. same_sign s nought) z)

  -- at power j, by the sign of the coefficient
  module _ (j : ℕ) (h : j < n) (p : Passed j) where
    found : same_sign (sign (coefficient n pair 0 j)) nought ≡ false → above (sign (coefficient n pair 0 j)) ≡ above (pair_sign n (simplex_columns n cells) q r)
    found d = ap above (sym (pair_is ∙ p ∙ left_found n pair 0 j h d))

    pub found_above : sign (coefficient n pair 0 j) ≡ positive → true ≡ above (pair_sign n (simplex_columns n cells) q r)
    unfolding above same_sign
    found_above e = sym (ap above e) ∙ found (ap (λ s. same_sign s nought) e)

    pub found_below : sign (coefficient n pair 0 j) ≡ negative → false ≡ above (pair_sign n (simplex_columns n cells) q r)
    unfolding above same_sign
    found_below e = sym (ap above e) ∙ found (ap (λ s. same_sign s nought) e)

  pub found_none : (j : ℕ) → n ≤ j → Passed j → false ≡ above (pair_sign n (simplex_columns n cells) q r)
  unfolding above
  found_none j h p = ap above (sym (pair_is ∙ p ∙ left_none n pair 0 j h))

-- ---- the comparison

pub stays_is : (n : ℕ) (us : List Column) (plus : Bool) (p q r : ℕ) {b : Bool} → b ≡ above (pair_sign n us q r)
    → stays n us plus p q r ≡ beq (beq b plus) (eqb ((q + r + p) % 2) 0)
unfolding stays
stays_is n us plus p q r e = ap (λ b. beq (beq b plus) (eqb ((q + r + p) % 2) 0)) (sym e)

-- ---- the vertices that are compared

-- the comparisons of the vertices before the k-th are made, and q is what was kept
pub record Comparing (n : ℕ) (us : List Column) (plus : Bool) (p q k : ℕ) : Type 0 where
  pub rest : compared_exit n us plus p ≡ kept_from n us plus p q k (n - k)
  pub low : q < skip p k
  pub inside : k ≤ n

module _ (n : ℕ) (us : List Column) (plus : Bool) (p : ℕ) where
  pub compare_begin : 0 < n → {q : ℕ} → q ≡ skip p 0 → Comparing n us plus p q 1
  unfolding compared_exit
  compare_begin l e = record {
    rest = ap (λ x. kept_from n us plus p x 1 (n - 1)) (sym e);
    low = omega (arith, e, skip_next p 0);
    inside = l;
  }

  pub compare_next :
      {q k : ℕ} → k < n → Comparing n us plus p q k → {x r : ℕ} → x ≡ skip p k → r ≡ cond (stays n us plus p q x) q x
      → Comparing n us plus p r (k + 1)
  unfolding kept_from
  compare_next {q} {k} l c {x} {r} is kept =
      let e : r ≡ cond (stays n us plus p q (skip p k)) q (skip p k) = kept ∙ ap (λ y. cond (stays n us plus p q y) q y) is in
      let more : n - k ≡ suc (n - (k + 1)) = omega arith in
      let next : suc k ≡ k + 1 = omega arith in
      record {
        rest =
            c.rest ∙ ap (kept_from n us plus p q k) more
            ∙ ap (λ x. kept_from n us plus p x (suc k) (n - (k + 1))) (sym e) ∙ ap (λ j. kept_from n us plus p r j (n - (k + 1))) next;
        low =
            subst (λ j. r < skip p j) next
            (subst (λ x. x < skip p (suc k)) (sym e)
            (cond_holds (λ x. x < skip p (suc k)) (stays n us plus p q (skip p k)) q (skip p k)
            (omega (arith, c.low, skip_next p k)) (skip_next p k)));
        inside = omega arith;
      }

  pub compare_end : {q k : ℕ} → n ≤ k → Comparing n us plus p q k → q ≡ compared_exit n us plus p
  unfolding kept_from
  compare_end {q} {k} l c =
      let none : n - k ≡ 0 = omega arith in
      sym (c.rest ∙ ap (kept_from n us plus p q k) none)
