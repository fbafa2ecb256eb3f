-- The term check, request 2.3, as rows of one table in the form of the marked cases: each row holds by computation from the definitions.
use Prim.Native.Nat.{ℕ, ◌*◌, ◌-◌}
use mathlib.Core.Path.{refl}
use mathlib.Core.List.{List, [], ◌∷◌, ◌++◌, flatten}
use lib.IntN.{pos, negsuc}
use lib.ListN.{take, replicate}
use Rattle.paper.specs.Job.{vertex_bytes}
use Rattle.paper.proofs.Cases.{Row, refuses, body_offsets, AllHold, end, ◌also◌, all_hold}
use Rattle.paper.proofs.Jobs.{entries, job_of, double_word_bytes, term, constant_term, coordinate, flat_place, with_first}

-- ---- the jobs

-- the term 1, as a polynomial
unfoldable pub one : List ℕ
one = constant_term (pos 1)

-- the same job as `with_first n 0 p`, with p as its last polynomial
unfoldable pub with_last : ℕ → List ℕ → List ℕ
with_last n p =
    job_of n
    (vertex_bytes (take (2 * n) (pos 0 ∷ pos 1 ∷ pos 0 ∷ pos 1 ∷ pos 0 ∷ pos 1 ∷ pos 0 ∷ pos 1 ∷ []))
    ∷ (take (n - 2) (coordinate 1 ∷ coordinate 2 ∷ []) ++ (p ∷ flat_place n 0 ∷ [])))

-- ---- the table

unfoldable pub marked_cases_terms : List Row
marked_cases_terms =
    -- 1 + y + x rises
    refuses (with_first 2 0 (one ++ (coordinate 1 ++ coordinate 0))) 0
    ∷ refuses (with_first 3 0 (one ++ (coordinate 1 ++ coordinate 0))) 0
    ∷ refuses (with_first 4 0 (one ++ (coordinate 1 ++ coordinate 0))) 0
    -- a term like the one before it
    ∷ refuses (with_first 2 0 (one ++ one)) 7
    ∷ refuses (with_first 3 0 (one ++ one)) 7
    ∷ refuses (with_first 4 0 (one ++ one)) 7
    -- the last term is under the one before it, and above the one before that, which is the first
    ∷ refuses (with_first 2 0 (one ++ (coordinate 0 ++ coordinate 1))) 7
    ∷ refuses (with_first 3 0 (one ++ (coordinate 0 ++ coordinate 1))) 7
    ∷ refuses (with_first 4 0 (one ++ (coordinate 0 ++ coordinate 1))) 7
    -- the last term is under the two before it, and above the first
    ∷ refuses (with_first 3 0 (one ++ (coordinate 1 ++ (coordinate 0 ++ coordinate 2)))) 7
    ∷ refuses (with_first 4 0 (one ++ (coordinate 1 ++ (coordinate 0 ++ coordinate 2)))) 7
    -- the first axis on which exponents differ decides: y⁴ is under x
    ∷ refuses (with_first 2 0 (term (pos 1) (0 ∷ 4 ∷ 0 ∷ 0 ∷ []) ++ coordinate 0)) 0
    ∷ refuses (with_first 2 0 (coordinate 0 ++ term (pos 1) (0 ∷ 4 ∷ 0 ∷ 0 ∷ []))) 7
    -- coefficients
    ∷ refuses (with_first 2 0 (constant_term (pos 1048576))) 0
    ∷ refuses (with_first 2 0 (constant_term (pos 1048577))) 7
    ∷ refuses (with_first 2 0 (constant_term (negsuc 1048575))) 0
    ∷ refuses (with_first 2 0 (constant_term (negsuc 1048576))) 7
    ∷ refuses (with_first 2 0 (constant_term (pos 2147483647))) 7
    ∷ refuses (with_first 2 0 (constant_term (negsuc 2147483647))) 7
    ∷ refuses (with_first 2 0 (constant_term (pos 0))) 7
    -- in the last term, and in the last polynomial
    ∷ refuses (with_first 3 0 (one ++ (coordinate 1 ++ term (pos 0) (1 ∷ 0 ∷ 0 ∷ 0 ∷ [])))) 7
    ∷ refuses (with_last 3 (one ++ coordinate 0)) 0
    ∷ refuses (with_last 3 (coordinate 0 ++ one)) 7
    ∷ refuses (with_last 4 (one ++ coordinate 0)) 0
    ∷ refuses (with_last 4 (coordinate 0 ++ one)) 7
    -- exponents that sum to 256, and to 5
    ∷ refuses (with_first 4 0 (term (pos 1) (replicate 4 64))) 7
    ∷ refuses (with_first 2 0 (term (pos 1) (4 ∷ 1 ∷ 0 ∷ 0 ∷ []))) 7
    ∷ []

-- every row holds, by computation
pub marked_cases_terms_hold : AllHold marked_cases_terms
unfolding body_offsets flatten
    entries job_of double_word_bytes term constant_term coordinate flat_place with_first
    one with_last marked_cases_terms
marked_cases_terms_hold =
    all_hold {rs = marked_cases_terms} (
    -- order
    refl also refl also refl also refl also refl also refl also refl also refl also refl also refl also refl also refl also refl
    -- coefficients
    also refl also refl also refl also refl also refl also refl also refl
    -- the last term, the last polynomial, exponents
    also refl also refl also refl also refl also refl also refl also refl also end
    )
