-- The small bench cutter: document 02, request 2.10. It opens and traces jobs by two entries of its own: the paper's Open and Trace, with all their
-- limits, and one more test behind Open's.
use Rattle.std.specs.Prelude.{ℕ, ◌-◌, ◌≤◌, ◌<◌, ◌≡◌, Bool, not, ◌&&◌, List, ℤ, pos, nat_abs, leb}
use Rattle.std.specs.Int.Signed.{le_z}
use Rattle.exact.specs.Int.{neg}
use Rattle.curves.specs.Grid.{Place}
use Rattle.curves.specs.Walk.{Trace, trace}
use Rattle.curves.specs.Step.{Stop}
use Rattle.paper.specs.Job.{dimension, body, low_end, high_end, all_from, term_count, refuse_if, open_refusal}
use Rattle.paper.specs.Operations.{Answer, answered, unless, first_refusal, polynomial_terms, open_values, opened, body_refusal, body_part, step_in, start_of, on_same_facet, trace_refusal, traced, space_of, verdict_and_count, buffer_after}

-- ---- what its controller takes

-- coordinates from − 64 to 64
unfoldable pub small_coordinate_limit : ℕ
small_coordinate_limit = 64

-- at most 16 terms a polynomial
unfoldable pub small_term_limit : ℕ
small_term_limit = 16

-- a box end lies from − 64 to 64
unfoldable pub end_small : ℤ → Bool
end_small z = le_z (neg (pos small_coordinate_limit)) z && le_z z (pos small_coordinate_limit)

unfoldable pub axis_small : List ℕ → ℕ → Bool
axis_small b a = end_small (low_end b a) && end_small (high_end b a)

unfoldable pub box_small : ℕ → List ℕ → Bool
box_small n b = all_from (axis_small b) 0 n

-- polynomial k has at most 16 terms
unfoldable pub terms_small : List ℕ → ℕ → Bool
terms_small s k = leb (polynomial_terms s k) small_term_limit

unfoldable pub job_small : List ℕ → Bool
job_small s = box_small (dimension s) (body s 0) && all_from (terms_small s) 1 (dimension s - 1)

-- ---- its two entries

-- Open's refusals, then 17
unfoldable pub small_refusal : List ℕ → ℕ
small_refusal s = first_refusal (open_refusal s) (refuse_if (not (job_small s)) 17 0)

unfoldable pub small_opened : List ℕ → Answer (List ℕ)
small_opened s = unless (small_refusal s) (open_values s)

-- these, then Trace's own: 9, 10, 11 for the job's start
unfoldable pub small_trace_refusal : List ℕ → ℕ
small_trace_refusal s = first_refusal (small_refusal s) (trace_refusal s)

unfoldable pub small_traced : List ℕ → ℕ → Answer (Trace Place Stop)
small_traced s space = unless (small_trace_refusal s) (trace (step_in s) on_same_facet (start_of s) space)

-- ---- why a job is answered 17

-- a box end is larger in size than 64, or a polynomial has over 16 terms
pub data TooLarge (s : List ℕ) : Type 0 where
  large_low_end : (a : ℕ) → a < dimension s → small_coordinate_limit < nat_abs (low_end (body s 0) a) → TooLarge s
  large_high_end : (a : ℕ) → a < dimension s → small_coordinate_limit < nat_abs (high_end (body s 0) a) → TooLarge s
  terms : (k : ℕ) → 0 < k → k < dimension s → small_term_limit < term_count (body s k) → TooLarge s

-- ---- what is said of both cutters

-- a job that the small one opens to the values v: the full one opens it to the same, and its Body gives each of the bodies that both go by
pub record TakenByFull (s v : List ℕ) : Type 0 where
  pub opens : opened s ≡ answered v
  pub index : (k : ℕ) → k ≤ dimension s → body_refusal s k ≡ 0
  pub bodies : (k : ℕ) → k ≤ dimension s → body_part s k ≡ body s k

-- both trace it alike: list and verdict, or refusal; what is answered of them; and what the buffer holds at exit
pub record TracedAlike (s buffer : List ℕ) : Type 0 where
  pub list : small_traced s (space_of s buffer) ≡ traced s (space_of s buffer)
  pub answer : verdict_and_count (small_traced s (space_of s buffer)) ≡ verdict_and_count (traced s (space_of s buffer))
  pub written : buffer_after (small_traced s (space_of s buffer)) buffer ≡ buffer_after (traced s (space_of s buffer)) buffer
