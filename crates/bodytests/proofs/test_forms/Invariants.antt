-- `bodytests::test_forms` meets its contract. The invariant: the test of all polynomials is the test of those that are left.
use Rattle.std.proofs.Common.{◌≡◌, ℕ, List, ◌-◌, ◌≤◌, Bor}
use Rattle.paper.specs.Job.{all_from, polynomial_ok}
use Rattle.bodytests.proofs.test_forms.Given as goal

abbrev pub invariant-loop-k : goal.invariant-loop-k
invariant-loop-k g l =
    (f : ℕ → List ℕ) → ((k : ℕ) (b : Bor (List ℕ)) → k ≤ l.n → goal.F-post g l.body k b → b.now ≡ f k)
    → all_from (λ j. polynomial_ok l.n (f j)) 1 (l.n - 1) ≡ all_from (λ j. polynomial_ok l.n (f j)) l.k (l.n - l.k)
