-- The refusals 3 and 5 to 8 by tests of the loose bodies alone: what opening the job from them would give (`opens_to`), before it is written.
use Rattle.std.specs.Prelude.{ℕ, ◌+◌, ◌-◌, Bool, not, List, length}
use Rattle.curves.specs.Grid.{place_ok}
use Rattle.paper.specs.Limits.{dimension_ok}
use Rattle.paper.specs.Job.{length_ok, box_ok, all_from, polynomial_ok, decode_place, refuse_if}

-- the length of each body is right for its kind
unfoldable pub lengths_ok : ℕ → (ℕ → List ℕ) → Bool
lengths_ok n f = all_from (λ k. length_ok n k (length (f k))) 0 (n + 1)

-- 5 a length, 6 the box, 7 a term or the order of terms, 8 the start's chain or side
unfoldable pub form_refusal : ℕ → (ℕ → List ℕ) → ℕ
form_refusal n f =
    refuse_if (not (lengths_ok n f)) 5
    (refuse_if (not (box_ok n (f 0))) 6
    (refuse_if (not (all_from (λ k. polynomial_ok n (f k)) 1 (n - 1))) 7
    (refuse_if (not (place_ok n (decode_place n (f n)))) 8 0)))

unfoldable pub loose_refusal : ℕ → (ℕ → List ℕ) → ℕ
loose_refusal n f = refuse_if (not (dimension_ok n)) 3 (form_refusal n f)
