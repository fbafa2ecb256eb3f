-- One position of the list, as the code looks at it, and what it asks of those before.
use Rattle.std.specs.Prelude.{ℕ, suc, ◌+◌, ◌*◌, ◌≤◌, ◌<◌, ◌≡◌, Bool, cond, List, [], ◌∷◌, length, Option, Some, None}
use Rattle.paper.specs.Job.{refuse_if}
use Rattle.paper.specs.Operations.{point_refusal}
use Rattle.paper.specs.Pen.{place_bytes}
use Rattle.nesting.specs.Standing.{some}
use Rattle.nesting.specs.CutOrder.{same_loop, loop_inside, listed_at, first_listed}

-- ---- one position

-- the first member that passes a test, if any does, the list's first having position j
unfoldable pub first_from : {A : Type 0} → (A → Bool) → ℕ → List A → Option ℕ
first_from t j [] = None
first_from t j (x ∷ l) = cond (t x) (Some j) (first_from t (suc j) l)

-- the first position whose loop has that of position k inside it, if any
unfoldable pub outer_of : List ℕ → List ℕ → ℕ → Option ℕ
outer_of s ps k = first_from (loop_inside s (listed_at s ps k)) 0 (first_listed s ps k)

-- 18 if the loop already came
unfoldable pub compared_refusal : List ℕ → List ℕ → ℕ → ℕ
compared_refusal s ps k = refuse_if (some (same_loop s (listed_at s ps k)) (first_listed s ps k)) 18 0

-- ---- the positions before

-- position k lies within the list
abbrev pub Lists : List ℕ → ℕ → Type 0
Lists ps k = 6 * k + 6 ≤ length ps

-- Point refuses no place before position k
abbrev pub TakesUpTo : List ℕ → List ℕ → ℕ → Type 0
TakesUpTo s ps k = (i : ℕ) → i < k → point_refusal s (place_bytes s ps i) ≡ 0
