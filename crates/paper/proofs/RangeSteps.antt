-- A loop that tests each number of a range: what one turn says of the whole range. `full` is the test of the whole range, and
-- the loop's invariant is that it is the test of what is left.
use mathlib.Core.Path.{◌≡◌, sym, ap, ◌∙◌}
use mathlib.Core.Bool.{Bool, true, false, not}
use Prim.Native.Nat.{ℕ, suc, ◌+◌, ◌-◌, ◌≤◌, ◌<◌}
use native.Mathlib.Omega.{arith}
use borrow.Author.Tests.{not-true, not-false}
use Rattle.paper.specs.Job.{all_from}
use Rattle.paper.proofs.Tests.{all_first, all_fails}

-- ---- a test that a call answered

pub test_failed : {r t : Bool} → r ≡ t → not r ≡ true → t ≡ false
test_failed {r} e h = sym e ∙ not-true r h

pub test_passed : {r t : Bool} → r ≡ t → not r ≡ false → t ≡ true
test_passed {r} e h = sym e ∙ not-false r h

-- ---- one turn

pub left_one : (k n : ℕ) → k < n → n - k ≡ suc (n - (k + 1))
left_one k n h = omega arith

pub all_next : {full : Bool} (t : ℕ → Bool) (k n : ℕ) → full ≡ all_from t k (n - k) → k < n → t k ≡ true
    → full ≡ all_from t (k + 1) (n - (k + 1))
all_next t k n e l h = e ∙ ap (all_from t k) (left_one k n l) ∙ all_first t k (n - (k + 1)) h

pub all_stops : {full : Bool} (t : ℕ → Bool) (k n : ℕ) → full ≡ all_from t k (n - k) → k < n → t k ≡ false → false ≡ full
all_stops t k n e l h = sym (e ∙ ap (all_from t k) (left_one k n l) ∙ all_fails t k (n - (k + 1)) h)

pub all_ends : {full : Bool} (t : ℕ → Bool) (k n : ℕ) → full ≡ all_from t k (n - k) → n ≤ k → true ≡ full
unfolding all_from
all_ends t k n e l = let none : n - k ≡ 0 = omega arith in sym (e ∙ ap (all_from t k) none)
