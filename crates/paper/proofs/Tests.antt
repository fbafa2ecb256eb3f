-- Boolean tests taken apart: a test that holds for each number of a range, and the range of the dimensions.
use mathlib.Core.Path.{◌≡◌, refl, sym, subst, ◌∙◌}
use mathlib.Core.Bool.{Bool, true, false, ◌||◌, true≢false}
use mathlib.Core.List.{map}
use Prim.Native.Nat.{ℕ, suc, zero, ◌+◌, ◌-◌, ◌≤◌, ◌<◌}
use native.Mathlib.Omega.{arith}
use lib.Dec.{eqb, leb, ltb}
use borrow.Author.Tests.{eqb-true, eqb-false, leb-true, ltb-false, le-ltb}
use Rattle.exact.proofs.AndTests.{and_left, and_right, and-true}
use Rattle.exact.specs.Crossed.{count_from}
use Rattle.curves.specs.Step.{every}
use Rattle.paper.specs.Limits.{dimension_ok}
use Rattle.paper.specs.Job.{all_from}

-- ---- every number of a range

-- the test holds at each number from k to k + m − 1
pub all_at : (t : ℕ → Bool) (k m i : ℕ) → all_from t k m ≡ true → k ≤ i → i < k + m → t i ≡ true
unfolding all_from
all_at t k zero i h l u = absurd (omega arith)
all_at t k (suc m) i h l u = go (all_at t (k + 1) m i (and_right (t k) (all_from t (k + 1) m) h)) (eqb k i) refl
  where
    go : (k + 1 ≤ i → i < k + 1 + m → t i ≡ true) → (b : Bool) → eqb k i ≡ b → t i ≡ true
    go later true e = subst (λ (x : ℕ). t x ≡ true) (eqb-true k i e) (and_left (t k) (all_from t (k + 1) m) h)
    go later false e = later (omega (arith, eqb-false k i e)) (omega arith)

-- and the other way round
pub all_from_lem : (t : ℕ → Bool) (k m : ℕ) → ((i : ℕ) → k ≤ i → i < k + m → t i ≡ true) → all_from t k m ≡ true
unfolding all_from
all_from_lem t k zero f = refl
all_from_lem t k (suc m) f =
    and-true (f k (omega arith) (omega arith)) (all_from_lem t (k + 1) m (λ i l u. f i (omega arith) (omega arith)))

-- a range that is not empty: the first number's test, then the rest
pub all_first : (t : ℕ → Bool) (k m : ℕ) → t k ≡ true → all_from t k (suc m) ≡ all_from t (k + 1) m
unfolding all_from
all_first t k m h = rw h

pub all_fails : (t : ℕ → Bool) (k m : ℕ) → t k ≡ false → all_from t k (suc m) ≡ false
unfolding all_from
all_fails t k m h = rw h

-- the first number of a range at which a test fails
pub record Failing (t : ℕ → Bool) (k m : ℕ) : Type 0 where
  pub at : ℕ
  pub from : k ≤ at
  pub under : at < k + m
  pub fails : t at ≡ false
  pub earlier : (i : ℕ) → k ≤ i → i < at → t i ≡ true

pub all_failing : (t : ℕ → Bool) (k m : ℕ) → all_from t k m ≡ false → Failing t k m
unfolding all_from
all_failing t k zero h = absurd (true≢false h)
all_failing t k (suc m) h = go (λ e. all_failing t (k + 1) m (sym (all_first t k m e) ∙ h)) (t k) refl
  where
    go : (t k ≡ true → Failing t (k + 1) m) → (b : Bool) → t k ≡ b → Failing t k (suc m)
    go later false e =
        record { at = k; from = omega arith; under = omega arith; fails = e; earlier = λ i l u. absurd (omega arith) }
    go later true e =
        let x = later e in
        record {
          at = x.at;
          from = omega (arith, x.from);
          under = omega (arith, x.under);
          fails = x.fails;
          earlier = λ i l u. first i l u (eqb k i) refl;
        }
      where
        first : (i : ℕ) → k ≤ i → i < (later e).at → (b : Bool) → eqb k i ≡ b → t i ≡ true
        first i l u true f = subst (λ (x : ℕ). t x ≡ true) (eqb-true k i f) e
        first i l u false f = (later e).earlier i (omega (arith, eqb-false k i f)) u

-- and the other way round: a range with such a number
pub all_fails_at : (t : ℕ → Bool) (k m i : ℕ) → k ≤ i → i < k + m → t i ≡ false → all_from t k m ≡ false
all_fails_at t k m i l u h = go (all_from t k m) refl
  where
    go : (b : Bool) → all_from t k m ≡ b → all_from t k m ≡ false
    go true e = absurd (true≢false (sym (all_at t k m i e l u) ∙ h))
    go false e = e

-- a test of the numbers from n on is one of all numbers that passes those under n
module _ (t : ℕ → Bool) (n m : ℕ) where
  abbrev under_or : ℕ → Bool
  under_or a = ltb a n || t a

  pub all_from_on : all_from t n (m - n) ≡ all_from under_or 0 m
  all_from_on = go (all_from t n (m - n)) (all_from under_or 0 m) refl refl
    where
      over : (a : ℕ) → under_or a ≡ false → n ≤ a
      over a h = go (ltb a n) refl
        where
          go : (p : Bool) → ltb a n ≡ p → n ≤ a
          go true e = absurd (true≢false (rw e at h))
          go false e = ltb-false a n e

      same : (a : ℕ) → n ≤ a → under_or a ≡ t a
      same a h = rw (le-ltb a n h)

      go : (p q : Bool) → all_from t n (m - n) ≡ p → all_from under_or 0 m ≡ q → all_from t n (m - n) ≡ all_from under_or 0 m
      go true true e f = e ∙ sym f
      go false false e f = e ∙ sym f
      go true false e f =
          let x = all_failing under_or 0 m f in
          let l = over x.at x.fails in
          absurd (true≢false (sym (all_at t n (m - n) x.at e l (omega (arith, l, x.under))) ∙ sym (same x.at l) ∙ x.fails))
      go false true e f =
          let x = all_failing t n (m - n) e in
          absurd (true≢false (sym (all_at under_or 0 m x.at f (omega arith) (omega (arith, x.from, x.under))) ∙ same x.at x.from ∙ x.fails))

-- tests that agree on the range agree on all of it
pub all_same : (t u : ℕ → Bool) (k m : ℕ) → ((i : ℕ) → k ≤ i → i < k + m → t i ≡ u i) → all_from t k m ≡ all_from u k m
unfolding all_from
all_same t u k zero f = refl
all_same t u k (suc m) f =
    rw (f k (omega arith) (omega arith), all_same t u (k + 1) m (λ i l h. f i (omega arith) (omega arith)))

-- every member of a list of a function's values
pub every_all :
    {A : Type 0} (t : A → Bool) (f : ℕ → A) (m : ℕ) → ((i : ℕ) → i < m → t (f i) ≡ true) → every t (map f (count_from 0 m)) ≡ true
unfolding every count_from
every_all t f m h = every_from 0 m (λ i l u. h i (omega arith))
  where
    every_from : (k m : ℕ) → ((i : ℕ) → k ≤ i → i < k + m → t (f i) ≡ true) → every t (map f (count_from k m)) ≡ true
    every_from k zero h = refl
    every_from k (suc m) h =
        and-true (h k (omega arith) (omega arith)) (every_from (suc k) m (λ i l u. h i (omega arith) (omega arith)))

-- ---- the dimensions

-- the range of the dimensions
pub record DimensionRange (n : ℕ) : Type 0 where
  pub low : 2 ≤ n
  pub high : n ≤ 4

pub dimension_range : (n : ℕ) → dimension_ok n ≡ true → DimensionRange n
unfolding dimension_ok
dimension_range n h =
    record { low = leb-true 2 n (and_left (leb 2 n) (leb n 4) h); high = leb-true n 4 (and_right (leb 2 n) (leb n 4) h) }
