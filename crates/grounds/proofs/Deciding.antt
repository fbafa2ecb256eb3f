-- The power that decides a vertex: the first coefficient that is not 0 has the vertex's sign, it is the only one that decides, and with D not 0
-- each vertex has one.
use Prim.Native.Nat.{ℕ, suc, zero, ◌+◌, ◌≤◌, ◌<◌}
use native.Mathlib.Omega.{arith}
use native.Mathlib.Decide.{ℕ_discrete}
use mathlib.Core.Path.{◌≡◌, refl, sym, ap, ◌∙◌}
use mathlib.Core.Logic.{◌≢◌}
use mathlib.Core.Bool.{Bool, true, false, cond}
use mathlib.Core.List.{List, map}
use lib.IntN.{ℤ}
use lib.Dec.{ltb}
use borrow.Author.Tests.{ltb-true, ltb-false}
use lib.ListN.{length}
use Rattle.exact.specs.Int.{0ℤ}
use Rattle.exact.specs.Sign.{Sign, nought, sign, lex_sign, same_sign}
use Rattle.exact.specs.Det.{Column, determinant, rows_from}
use Rattle.exact.specs.Crossed.{count_from, coefficient, coefficients}
use Rattle.exact.proofs.SignLaws.{sign_nought, sign_zero}
use Rattle.exact.proofs.LexSign.{signs_differ, same_nought, nonzero_sign, lex_sign_nought}
use Rattle.exact.proofs.CrossedTest.{FirstSign, lex_sign_first, lex_sign_of_first}
use Rattle.exact.proofs.DetSize.{det_other_length, length_rows_from}
use Rattle.exact.proofs.Coefficient.{coefficients_not_all_zero}
use Rattle.grounds.specs.Ground.{leading_zeros, deciding_power, Decides}

-- ---- numbers in front of the first that is not 0

-- z numbers are 0, from f k on, and the next is not
record Leads (f : ℕ → ℤ) (k m z : ℕ) : Type 0 where
  pub inside : z < m
  pub zeros : (i : ℕ) → k ≤ i → i < k + z → f i ≡ 0ℤ
  pub itself : f (k + z) ≢ 0ℤ

leads_tail : (f : ℕ → ℤ) (k m z : ℕ) → Leads f k (suc m) (suc z) → Leads f (suc k) m z
leads_tail f k m z w = record {
  inside = omega (arith, w.inside);
  zeros = λ i l u. w.zeros i (omega arith) (omega arith);
  itself = λ q. w.itself (ap f (omega arith) ∙ q);
}

-- then that many stand before the first that is not 0
leading_only : (f : ℕ → ℤ) (k m z : ℕ) → Leads f k m z → leading_zeros (map f (count_from k m)) ≡ z
unfolding leading_zeros count_from
leading_only f k zero z w = absurd (omega (arith, w.inside))
leading_only f k (suc m) zero w =
    ap (λ b. cond b (suc (leading_zeros (map f (count_from (suc k) m)))) 0)
    (signs_differ (sign (f k)) nought (λ e. w.itself (ap f (omega arith) ∙ sign_nought (f k) e)))
leading_only f k (suc m) (suc z) w =
    ap (λ b. cond b (suc (leading_zeros (map f (count_from (suc k) m)))) 0) (same_nought (f k) (w.zeros k (omega arith) (omega arith)))
    ∙ ap suc (leading_only f (suc k) m z (leads_tail f k m z w))

-- if all are 0, all stand before
leading_all : (f : ℕ → ℤ) (k m : ℕ) → ((i : ℕ) → k ≤ i → i < k + m → f i ≡ 0ℤ) → leading_zeros (map f (count_from k m)) ≡ m
unfolding leading_zeros count_from
leading_all f k zero h = refl
leading_all f k (suc m) h =
    ap (λ b. cond b (suc (leading_zeros (map f (count_from (suc k) m)))) 0) (same_nought (f k) (h k (omega arith) (omega arith)))
    ∙ ap suc (leading_all f (suc k) m (λ i l u. h i (omega arith) (omega arith)))

-- ---- the power that decides a vertex

-- a vertex is decided by one power, whatever its coefficients
pub one_power : {n : ℕ} {a : ℕ → ℤ} {j k : ℕ} → Decides n a j → Decides n a k → j ≡ k
one_power {j} {k} d e = go (ltb j k) refl (ltb k j) refl
  where
    go : (b : Bool) → ltb j k ≡ b → (c : Bool) → ltb k j ≡ c → j ≡ k
    go true less c more = absurd (d.itself (e.lower j (omega (arith, ltb-true j k less))))
    go false less true more = absurd (e.itself (d.lower k (omega (arith, ltb-true k j more))))
    go false less false more = omega (arith, ltb-false j k less, ltb-false k j more)

module _ (n : ℕ) (cs : List Column) (i : ℕ) where
  leads : {j : ℕ} → Decides n (coefficient n cs i) j → Leads (λ j. coefficient n cs i j) 0 n j
  leads d = record { inside = d.power; zeros = λ k l u. d.lower k (omega arith); itself = λ e. d.itself (ap (coefficient n cs i) (omega arith) ∙ e) }

  -- no other power decides
  pub decides_only : {j : ℕ} → Decides n (coefficient n cs i) j → deciding_power n cs i ≡ j
  unfolding deciding_power coefficients
  decides_only {j} d = leading_only (λ j. coefficient n cs i j) 0 n j (leads d)

  -- if no coefficient is other than 0, the count of powers stands for it
  pub decides_none : ((k : ℕ) → k < n → coefficient n cs i k ≡ 0ℤ) → deciding_power n cs i ≡ n
  unfolding deciding_power coefficients
  decides_none h = leading_all (λ j. coefficient n cs i j) 0 n (λ k l u. h k (omega arith))

  -- the coefficient has the vertex's sign
  pub decides_sign : {j : ℕ} → Decides n (coefficient n cs i) j → lex_sign (coefficients n cs i) ≡ sign (coefficient n cs i j)
  unfolding coefficients
  decides_sign {j} d =
      lex_sign_of_first (λ j. coefficient n cs i j) 0 n (sign (coefficient n cs i j)) (nonzero_sign (coefficient n cs i j) d.itself)
      j (omega arith) (omega (arith, d.power)) (λ k l u. d.lower k u) refl

  -- a vertex that has a sign is decided
  deciding : lex_sign (coefficients n cs i) ≢ nought → Decides n (coefficient n cs i) (deciding_power n cs i)
  unfolding coefficients
  deciding h =
      let f : FirstSign (coefficient n cs i) 0 n (lex_sign (coefficients n cs i)) = lex_sign_first (coefficient n cs i) 0 n _ h refl in
      let d : Decides n (coefficient n cs i) f.at =
      record {
        power = omega (arith, f.high);
        lower = λ k u. f.zeros k (omega arith) u;
        itself = λ e. h (sym f.has ∙ ap sign e ∙ sign_zero);
      } in
      rw (decides_only d) d

-- with D not 0 there are n columns
columns_count : (n : ℕ) (cs : List Column) → determinant n cs ≢ 0ℤ → length cs ≡ n
unfolding determinant
columns_count n cs h = go (ℕ_discrete (length cs) n)
  where
    go : Dec (length cs ≡ n) → length cs ≡ n
    go (yes e) = e
    go (no d) = absurd (h (det_other_length (rows_from 0 n) cs (λ e. d (sym e ∙ length_rows_from 0 n))))

-- with D not 0 each vertex has a sign, and so a power to name
has_sign : (n : ℕ) (cs : List Column) (i : ℕ) → determinant n cs ≢ 0ℤ → i < n → lex_sign (coefficients n cs i) ≢ nought
unfolding coefficients
has_sign n cs i h l e =
    let count : length cs ≡ n = columns_count n cs h in
    coefficients_not_all_zero n cs i (omega arith) h
    (λ j u. lex_sign_nought (λ j. coefficient n cs i j) 0 n e j (omega arith) (omega arith))

pub power_to_name : (n : ℕ) (cs : List Column) (i : ℕ) → determinant n cs ≢ 0ℤ → i < n → Decides n (coefficient n cs i) (deciding_power n cs i)
power_to_name n cs i h l = deciding n cs i (has_sign n cs i h l)
