-- The Boolean test `crossed` says the same as the statement `Crossed` of document 01: D is not 0, and for every vertex the
-- first coefficient that is not 0 has the sign of D.
use Prim.Native.Nat.{ℕ, suc, zero, ◌+◌, ◌≤◌, ◌<◌}
use native.Mathlib.Omega.{arith}
use native.Mathlib.Decide.{ℕ_discrete}
use mathlib.Core.Path.{◌≡◌, refl, sym, ap, ◌∙◌}
use mathlib.Core.Bool.{Bool, true, false, not, ◌&&◌, false≢true}
use mathlib.Core.Logic.{◌≢◌}
use mathlib.Core.List.{List, map}
use lib.IntN.{ℤ}
use Rattle.exact.specs.Int.{0ℤ}
use Rattle.exact.specs.Sign.{Sign, negative, nought, positive, sign, or_else, lex_sign, same_sign}
use Rattle.exact.specs.Det.{Column, determinant}
use Rattle.exact.specs.Crossed.{count_from, coefficient, coefficients, all_have_sign, crossed, Crossed}
use Rattle.exact.proofs.AndTests.{and_left, and_right}
use Rattle.exact.proofs.SignLaws.{sign_nought, sign_zero}
use Rattle.exact.proofs.LexSign.{same_sign_refl, same_sign_sound, signs_differ, nonzero_sign, sign_discrete}

-- ---- tests

and_intro : (a b : Bool) → a ≡ true → b ≡ true → (a && b) ≡ true
and_intro a b p q = rw (p, q)

-- ---- the first coefficient that is not 0

or_else_nought_left : (t u : Sign) → t ≡ nought → or_else t u ≡ u
unfolding or_else
or_else_nought_left t u h = rw h

or_else_left : (t u : Sign) → t ≢ nought → or_else t u ≡ t
unfolding or_else
or_else_left negative u h = refl
or_else_left nought u h = absurd (h refl)
or_else_left positive u h = refl

-- the numbers before j, from k on, are 0, and f j has the sign s
pub record FirstSign (f : ℕ → ℤ) (k m : ℕ) (s : Sign) : Type 0 where
  pub at : ℕ
  pub low : k ≤ at
  pub high : at < k + m
  pub zeros : (i : ℕ) → k ≤ i → i < at → f i ≡ 0ℤ
  pub has : sign (f at) ≡ s

-- the lexicographic sign of f k, .., f (k + m − 1), where it is not nought, is the sign of the first that is not 0
pub lex_sign_first : (f : ℕ → ℤ) (k m : ℕ) (s : Sign) → s ≢ nought → lex_sign (map f (count_from k m)) ≡ s → FirstSign f k m s
unfolding lex_sign count_from
lex_sign_first f k zero s h e = absurd (h (sym e))
lex_sign_first f k (suc m) s h e = go (sign_discrete (sign (f k)) nought) (lex_sign_first f (suc k) m s h)
  where
    go : Dec (sign (f k) ≡ nought) → (lex_sign (map f (count_from (suc k) m)) ≡ s → FirstSign f (suc k) m s) → FirstSign f k (suc m) s
    go (yes z) later =
        let w : FirstSign f (suc k) m s = later (sym (or_else_nought_left _ _ z) ∙ e) in
        record { at = w.at; low = omega (arith, w.low); high = omega (arith, w.high); zeros = zeros w; has = w.has }
      where
        zeros : (w : FirstSign f (suc k) m s) (i : ℕ) → k ≤ i → i < w.at → f i ≡ 0ℤ
        zeros w i l u = at (ℕ_discrete k i)
          where
            at : Dec (k ≡ i) → f i ≡ 0ℤ
            at (yes e) = ap f (sym e) ∙ sign_nought (f k) z
            at (no d) = w.zeros i (omega arith) u
    go (no d) later = record { at = k; low = omega arith; high = omega arith; zeros = λ i l u. absurd (omega arith); has = sym (or_else_left _ _ d) ∙ e }

-- and the other way round
pub lex_sign_of_first :
    (f : ℕ → ℤ) (k m : ℕ) (s : Sign) → s ≢ nought
    → (j : ℕ) → k ≤ j → j < k + m → ((i : ℕ) → k ≤ i → i < j → f i ≡ 0ℤ) → sign (f j) ≡ s
    → lex_sign (map f (count_from k m)) ≡ s
unfolding lex_sign count_from sign
lex_sign_of_first f k zero s h j l u zeros e = absurd (omega arith)
lex_sign_of_first f k (suc m) s h j l u zeros e =
    go (ℕ_discrete k j) (λ l' u'. lex_sign_of_first f (suc k) m s h j l' u' (λ i a b. zeros i (omega arith) b) e)
  where
    go :
        Dec (k ≡ j) → (suc k ≤ j → j < suc k + m → lex_sign (map f (count_from (suc k) m)) ≡ s)
        → or_else (sign (f k)) (lex_sign (map f (count_from (suc k) m))) ≡ s
    go (yes w) later = or_else_left _ _ (λ z. h (sym e ∙ ap (λ i. sign (f i)) (sym w) ∙ z)) ∙ ap (λ i. sign (f i)) w ∙ e
    go (no d) later = or_else_nought_left _ _ (ap sign (zeros k (omega arith) (omega arith))) ∙ later (omega arith) (omega arith)

-- ---- all vertices

pub all_have_sign_at :
    (n : ℕ) (cs : List Column) (s : Sign) (k m : ℕ) → all_have_sign n cs s (count_from k m) ≡ true → (i : ℕ) → k ≤ i
    → i < k + m → lex_sign (coefficients n cs i) ≡ s
unfolding all_have_sign count_from
all_have_sign_at n cs s k zero h i l u = absurd (omega arith)
all_have_sign_at n cs s k (suc m) h i l u = go (ℕ_discrete k i) (all_have_sign_at n cs s (suc k) m (and_right first rest h) i)
  where
    first : Bool
    first = same_sign (lex_sign (coefficients n cs k)) s

    rest : Bool
    rest = all_have_sign n cs s (count_from (suc k) m)

    go : Dec (k ≡ i) → (suc k ≤ i → i < suc k + m → lex_sign (coefficients n cs i) ≡ s) → lex_sign (coefficients n cs i) ≡ s
    go (yes e) later = ap (λ x. lex_sign (coefficients n cs x)) (sym e) ∙ same_sign_sound _ _ (and_left first rest h)
    go (no d) later = later (omega arith) (omega arith)

pub all_have_sign_all :
    (n : ℕ) (cs : List Column) (s : Sign) (k m : ℕ)
    → ((i : ℕ) → k ≤ i → i < k + m → lex_sign (coefficients n cs i) ≡ s) → all_have_sign n cs s (count_from k m) ≡ true
unfolding all_have_sign count_from
all_have_sign_all n cs s k zero h = refl
all_have_sign_all n cs s k (suc m) h =
    and_intro _ _ (ap (λ t. same_sign t s) (h k (omega arith) (omega arith)) ∙ same_sign_refl s)
    (all_have_sign_all n cs s (suc k) m (λ i l u. h i (omega arith) (omega arith)))

-- ---- the test, over signs

-- what the test computes: the sign of D is not nought, and the lexicographic sign of each vertex's coefficients is that of D
pub record SignsAgree (n : ℕ) (cs : List Column) : Type 0 where
  pub determined : sign (determinant n cs) ≢ nought
  pub agree : (i : ℕ) → i < n → lex_sign (coefficients n cs i) ≡ sign (determinant n cs)

not_nought : (s : Sign) → not (same_sign s nought) ≡ true → s ≢ nought
not_nought s h e = false≢true (sym (ap (λ t. not (same_sign t nought)) e ∙ ap not (same_sign_refl nought)) ∙ h)

pub crossed→signs : (n : ℕ) (cs : List Column) → crossed n cs ≡ true → SignsAgree n cs
unfolding crossed
crossed→signs n cs h =
    record {
      determined = not_nought (sign (determinant n cs)) (and_left first rest h);
      agree = λ i l. all_have_sign_at n cs (sign (determinant n cs)) 0 n (and_right first rest h) i (omega arith) (omega arith);
    }
  where
    first : Bool
    first = not (same_sign (sign (determinant n cs)) nought)

    rest : Bool
    rest = all_have_sign n cs (sign (determinant n cs)) (count_from 0 n)

pub signs→crossed : (n : ℕ) (cs : List Column) → SignsAgree n cs → crossed n cs ≡ true
unfolding crossed
signs→crossed n cs w = and_intro _ _ (ap not (signs_differ _ nought w.determined)) (all_have_sign_all n cs _ 0 n (λ i l u. w.agree i (omega arith)))

-- ---- the statement

pub crossed→Crossed : (n : ℕ) (cs : List Column) → crossed n cs ≡ true → Crossed n cs
unfolding coefficients
crossed→Crossed n cs h = record { determined = λ e. w.determined (ap sign e ∙ sign_zero); agree = agree }
  where
    w : SignsAgree n cs
    w = crossed→signs n cs h

    agree :
        (i : ℕ) → i < n
        → (j : ℕ) × (j < n) × ((k : ℕ) → k < j → coefficient n cs i k ≡ 0ℤ) × (sign (coefficient n cs i j) ≡ sign (determinant n cs))
    agree i l =
        let f : FirstSign (coefficient n cs i) 0 n (sign (determinant n cs)) = lex_sign_first (coefficient n cs i) 0 n _ w.determined (w.agree i l) in
        (f.at, omega (arith, f.high), (λ k u. f.zeros k (omega arith) u), f.has)

pub Crossed→crossed : (n : ℕ) (cs : List Column) → Crossed n cs → crossed n cs ≡ true
unfolding coefficients
Crossed→crossed n cs c = signs→crossed n cs (record { determined = determined; agree = agree })
  where
    determined : sign (determinant n cs) ≢ nought
    determined = nonzero_sign (determinant n cs) c.determined

    agree : (i : ℕ) → i < n → lex_sign (coefficients n cs i) ≡ sign (determinant n cs)
    agree i l =
        let (j, u, zeros, has) = c.agree i l in
        lex_sign_of_first (coefficient n cs i) 0 n _ determined j (omega arith) (omega arith) (λ k a b. zeros k b) has
