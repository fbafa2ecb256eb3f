-- The refusals of Open that look at the contents and the bodies, 5 to 8, in dimension n: a part of the definition of
-- `open_refusal`, named because functions of their own test it.
use Rattle.std.specs.Prelude.{ℕ, ◌-◌, not, List}
use Rattle.curves.specs.Grid.{place_ok}
use Rattle.paper.specs.Job.{contents_ok, body, box_ok, all_from, polynomial_ok, decode_place, refuse_if}

-- 8, of the bodies by index
abbrev pub start_refusal : ℕ → (ℕ → List ℕ) → ℕ
start_refusal n f = refuse_if (not (place_ok n (decode_place n (f n)))) 8 0

-- 7, then 8
abbrev pub terms_refusal : ℕ → (ℕ → List ℕ) → ℕ
terms_refusal n f = refuse_if (not (all_from (λ k. polynomial_ok n (f k)) 1 (n - 1))) 7 (start_refusal n f)

-- 6, then the rest
abbrev pub forms_refusal : ℕ → (ℕ → List ℕ) → ℕ
forms_refusal n f = refuse_if (not (box_ok n (f 0))) 6 (terms_refusal n f)

-- 5, then the rest, of the bodies of a job
abbrev pub bodies_refusal : ℕ → List ℕ → ℕ
bodies_refusal n s = refuse_if (not (contents_ok n s)) 5 (forms_refusal n (body s))
