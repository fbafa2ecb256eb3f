-- Points to the nearest step, request 2.5, as rows of one table in the form of the marked cases: each row holds by computation from the definitions.
use Prim.Native.Nat.{ℕ, suc, ◌-◌}
use Prim.Native.String.{String}
use mathlib.Core.Path.{refl}
use mathlib.Core.Bool.{true, false}
use mathlib.Core.List.{List, [], ◌∷◌, ◌++◌, flatten, flat_map}
use lib.IntN.{ℤ, pos, negsuc}
use lib.ListN.{length, take, set, replicate}
use lib.Ieee.{Float, fin}
use Rattle.curves.specs.Grid.{Vertex, Place}
use Rattle.paper.specs.Job.{vertex_bytes, encode_place}
use Rattle.paper.specs.Pen.{lift}
use Rattle.paper.proofs.Cases.{Row, points, prints, pens, place, body_offsets, AllHold, end, ◌also◌, all_hold}
use Rattle.paper.proofs.Jobs.{entries, job_of, double_word_bytes, term, constant_term}

-- ---- the jobs

-- the polynomials c·x + b, c·y + b, .. from axis a on, with c and b for each; in dimension 2 these are the jobs of `slope_job`
unfoldable pub slopes_from : ℕ → List (ℤ × ℤ) → List (List ℕ)
slopes_from a [] = []
slopes_from a (l ∷ ls) = (constant_term l.1 ++ term l.0 (set (0 ∷ 0 ∷ 0 ∷ 0 ∷ []) a 1)) ∷ slopes_from (suc a) ls

-- the place at v with masks 1, 3 and 7 and side 0: its facet has the points v + (x, y, .., 0) with x no less than y, and so on
unfoldable pub corner_place : Vertex → Place
corner_place v = place v (take (length v - 1) (1 ∷ 3 ∷ 7 ∷ [])) 0

-- these polynomials; box − 1 to 1; start `corner_place v`
unfoldable pub corner_job : List (ℤ × ℤ) → Vertex → List ℕ
corner_job ls v =
    job_of (length v)
    (flat_map vertex_bytes (replicate (length v) (negsuc 0 ∷ pos 1 ∷ [])) ∷ (slopes_from 0 ls ++ (encode_place (corner_place v) ∷ [])))

-- 2,048·y − x, which is 0 where y is x / 2,048, so that y grows by half a step from one grid line to the next; box − 4 to 4 on axis 1 and − 1 to 1 on
-- axis 2; start − 4 − 1, mask 2, side 0
unfoldable pub slant_place : Place
slant_place = place (negsuc 3 ∷ negsuc 0 ∷ []) (2 ∷ []) 0

unfoldable pub slant_job : List ℕ
slant_job =
    job_of 2
    (vertex_bytes (negsuc 3 ∷ pos 4 ∷ negsuc 0 ∷ pos 1 ∷ [])
    ∷ (term (pos 2048) (0 ∷ 1 ∷ 0 ∷ 0 ∷ []) ++ term (negsuc 0) (1 ∷ 0 ∷ 0 ∷ 0 ∷ []))
    ∷ encode_place slant_place ∷ [])

-- its lines: at the grid lines y is − 2, − 1.5, − 1, .. 2 steps
unfoldable pub lines_slant : List String
lines_slant =
    "2 edge 17"
    ∷ "-4 -1 2 -4096 -2"
    ∷ "-4 -1 3 -3074 -2"
    ∷ "-3 -1 2 -3072 -2"
    ∷ "-3 -1 3 -2049 -1"
    ∷ "-2 -1 2 -2048 -1"
    ∷ "-2 -1 3 -1025 -1"
    ∷ "-1 -1 2 -1024 0"
    ∷ "-1 0 1 0 0"
    ∷ "0 0 2 0 0"
    ∷ "0 0 3 0 0"
    ∷ "1 0 2 1024 0"
    ∷ "1 0 3 1025 1"
    ∷ "2 0 2 2048 1"
    ∷ "2 0 3 2049 1"
    ∷ "3 0 2 3072 2"
    ∷ "3 0 3 3074 2"
    ∷ "4 0 2 4096 2"
    ∷ []

-- vertices of dimension n: the origin, and − 1 on all axes but the last
abbrev zeros : ℕ → Vertex
zeros n = replicate n (pos 0)

abbrev minus_ones : ℕ → Vertex
minus_ones n = replicate (n - 1) (negsuc 0) ++ (pos 0 ∷ [])

-- ---- the rows

-- the point at the start of a `corner_job`, and the pen's move to it
abbrev point : List (ℤ × ℤ) → Vertex → List ℤ → Row
point ls v p = points (corner_job ls v) (encode_place (corner_place v)) p

abbrev move : List (ℤ × ℤ) → Vertex → List Float → Row
move ls v p = pens (corner_job ls v) (encode_place (corner_place v)) false 0 (lift p)

-- 2,048·x + b, which is 0 at − b halves of a step; with the opposite sign; and 1,048,576·x + b
abbrev rise : ℤ → ℤ × ℤ
rise b = (pos 2048, b)

abbrev fall : ℤ → ℤ × ℤ
fall b = (negsuc 2047, b)

abbrev steep : ℤ → ℤ × ℤ
steep b = (pos 1048576, b)

unfoldable pub marked_cases_nearest : List Row
marked_cases_nearest =
    -- 5 and 7 halves are 2 and 4, and as much under 0
    point (rise (negsuc 4) ∷ []) (zeros 2) (pos 2 ∷ pos 0 ∷ [])
    ∷ point (rise (negsuc 6) ∷ []) (zeros 2) (pos 4 ∷ pos 0 ∷ [])
    ∷ point (rise (pos 5) ∷ []) (minus_ones 2) (negsuc 1 ∷ pos 0 ∷ [])
    ∷ point (rise (pos 7) ∷ []) (minus_ones 2) (negsuc 3 ∷ pos 0 ∷ [])
    -- D under 0: 1, 3, − 1 and − 3 halves
    ∷ point (fall (pos 1) ∷ []) (zeros 2) (pos 0 ∷ pos 0 ∷ [])
    ∷ point (fall (pos 3) ∷ []) (zeros 2) (pos 2 ∷ pos 0 ∷ [])
    ∷ point (fall (negsuc 0) ∷ []) (minus_ones 2) (pos 0 ∷ pos 0 ∷ [])
    ∷ point (fall (negsuc 2) ∷ []) (minus_ones 2) (negsuc 1 ∷ pos 0 ∷ [])
    -- a little less than a half of a step and a little more, 511 / 1,024 and 513 / 1,024; the same under 0
    ∷ point (steep (negsuc 510) ∷ []) (zeros 2) (pos 0 ∷ pos 0 ∷ [])
    ∷ point (steep (negsuc 512) ∷ []) (zeros 2) (pos 1 ∷ pos 0 ∷ [])
    ∷ point (steep (pos 511) ∷ []) (minus_ones 2) (pos 0 ∷ pos 0 ∷ [])
    ∷ point (steep (pos 513) ∷ []) (minus_ones 2) (negsuc 0 ∷ pos 0 ∷ [])
    -- dimension 3: 3 and 1 halves, − 1 and − 3 halves; the same with D under 0
    ∷ point (rise (negsuc 2) ∷ rise (negsuc 0) ∷ []) (zeros 3) (pos 2 ∷ pos 0 ∷ pos 0 ∷ [])
    ∷ point (rise (pos 1) ∷ rise (pos 3) ∷ []) (minus_ones 3) (pos 0 ∷ negsuc 1 ∷ pos 0 ∷ [])
    ∷ point (rise (negsuc 2) ∷ fall (pos 1) ∷ []) (zeros 3) (pos 2 ∷ pos 0 ∷ pos 0 ∷ [])
    ∷ point (rise (pos 1) ∷ fall (negsuc 2) ∷ []) (minus_ones 3) (pos 0 ∷ negsuc 1 ∷ pos 0 ∷ [])
    -- dimension 4: 5, 3 and 1 halves, − 1, − 3 and − 5 halves; the same with D under 0
    ∷ point (rise (negsuc 4) ∷ rise (negsuc 2) ∷ rise (negsuc 0) ∷ []) (zeros 4) (pos 2 ∷ pos 2 ∷ pos 0 ∷ pos 0 ∷ [])
    ∷ point (rise (pos 1) ∷ rise (pos 3) ∷ rise (pos 5) ∷ []) (minus_ones 4) (pos 0 ∷ negsuc 1 ∷ negsuc 1 ∷ pos 0 ∷ [])
    ∷ point (fall (pos 5) ∷ rise (negsuc 2) ∷ rise (negsuc 0) ∷ []) (zeros 4) (pos 2 ∷ pos 2 ∷ pos 0 ∷ pos 0 ∷ [])
    ∷ point (fall (negsuc 0) ∷ rise (pos 3) ∷ rise (pos 5) ∷ []) (minus_ones 4) (pos 0 ∷ negsuc 1 ∷ negsuc 1 ∷ pos 0 ∷ [])
    -- the pen goes where the point is: 3 halves are 2 / 1,024; − 1 half is + 0 and − 3 halves are − 2 / 1,024
    ∷ move (rise (negsuc 2) ∷ []) (zeros 2) (fin false 1 (negsuc 8) ∷ fin false 0 (pos 0) ∷ fin false 0 (pos 0) ∷ [])
    ∷ move (rise (pos 1) ∷ rise (pos 3) ∷ []) (minus_ones 3) (fin false 0 (pos 0) ∷ fin true 1 (negsuc 8) ∷ fin false 0 (pos 0) ∷ [])
    -- and so does the listing
    ∷ prints slant_job lines_slant
    ∷ []

-- every row holds, by computation
pub marked_cases_nearest_hold : AllHold marked_cases_nearest
unfolding body_offsets flatten flat_map
    entries job_of double_word_bytes term constant_term
    slopes_from corner_place corner_job slant_place slant_job lines_slant marked_cases_nearest
marked_cases_nearest_hold =
    all_hold {rs = marked_cases_nearest} (
    -- dimension 2
    refl also refl also refl also refl also refl also refl also refl also refl also refl also refl also refl also refl
    -- dimensions 3 and 4
    also refl also refl also refl also refl also refl also refl also refl also refl
    -- the pen and the listing
    also refl also refl also refl also end
    )
