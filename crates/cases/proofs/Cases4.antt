-- Dimension 4, request 2.12, as rows of one table in the form of the marked cases: each row holds by computation from the
-- definitions. Where a limit depends on the dimension, rows of dimensions 2 and 3 stand beside those of 4.
use Prim.Native.Nat.{ℕ, zero, suc, ◌-◌}
use Prim.Native.String.{String}
use mathlib.Core.Path.{refl}
use mathlib.Core.Bool.{false}
use mathlib.Core.List.{List, [], ◌∷◌, ◌++◌, map, flatten, flat_map}
use lib.IntN.{pos, negsuc}
use lib.ListN.{take, set, replicate}
use lib.Ieee.{fin}
use Rattle.exact.specs.Crossed.{count_from}
use Rattle.curves.specs.Grid.{Vertex, Place}
use Rattle.curves.specs.Step.{edge, limit}
use Rattle.curves.specs.Walk.{loop, stopped, full}
use Rattle.paper.specs.Job.{vertex_bytes, encode_place, with_start}
use Rattle.paper.specs.Operations.{refused, answered}
use Rattle.paper.specs.Pen.{lift}
use Rattle.paper.proofs.Cases.{Row, bodies, refuses, judges, points, refuses_point, traces, prints, values, pens, place}
use Rattle.paper.proofs.Cases.{body_offsets, case_c, AllHold, end, ◌also◌, all_hold}
use Rattle.paper.proofs.Jobs.{entries, job_of, double_word_bytes, term, constant_term, square_term, linear_term, coordinate, flat_place, with_first, case_c4}

-- a vertex with no coordinate under 0
abbrev at : ℕ → ℕ → ℕ → ℕ → Vertex
at x y z w = pos x ∷ pos y ∷ pos z ∷ pos w ∷ []

abbrev origin : Vertex
origin = at 0 0 0 0

-- ---- the jobs

-- polynomials p, z and w; box − 1 to 1; start 0 0 0 0, masks 1 5 13, side 0: the curve lies in the plane of axes 1 and 2
unfoldable pub plane_job : List ℕ → List ℕ
plane_job p =
    job_of 4
    (flat_map vertex_bytes (replicate 4 (negsuc 0 ∷ pos 1 ∷ []))
    ∷ p ∷ coordinate 2 ∷ coordinate 3
    ∷ encode_place (place origin (1 ∷ 5 ∷ 13 ∷ []) 0) ∷ [])

-- A with n = 4: 2·x² + 2·y² − 1
unfoldable pub case_a4 : List ℕ
case_a4 = plane_job (constant_term (negsuc 0) ++ (term (pos 2) (0 ∷ 2 ∷ 0 ∷ 0 ∷ []) ++ square_term (pos 2)))

-- 1 − y² + x·y − x²: 1 at the vertex 0 0 of the plane, 0 at the six vertices next to it
unfoldable pub tied_loop : List ℕ
tied_loop =
    plane_job
    (constant_term (pos 1) ++ (term (negsuc 0) (0 ∷ 2 ∷ 0 ∷ 0 ∷ []) ++ (term (pos 1) (1 ∷ 1 ∷ 0 ∷ 0 ∷ []) ++ square_term (negsuc 0))))

-- the straight line from 0 0 0 0 to 1 2 3 4, the corners of the box: y − 2·x, z − 3·x and w − 4·x; start 0 0 0 0, masks 2 6 14, side 0
unfoldable pub line_job : List ℕ
line_job =
    job_of 4
    (vertex_bytes (pos 0 ∷ pos 1 ∷ pos 0 ∷ pos 2 ∷ pos 0 ∷ pos 3 ∷ pos 0 ∷ pos 4 ∷ [])
    ∷ (coordinate 1 ++ linear_term (negsuc 1)) ∷ (coordinate 2 ++ linear_term (negsuc 2)) ∷ (coordinate 3 ++ linear_term (negsuc 3))
    ∷ flat_place 4 0 ∷ [])

-- 8,192·x²·y, z and w; box 7 to 10 on axis 1 and 0 to 1 on the others; start 7 0 0 0, masks 2 6 14, side 0
unfoldable pub limit_job : List ℕ
limit_job =
    job_of 4
    (vertex_bytes (pos 7 ∷ pos 10 ∷ pos 0 ∷ pos 1 ∷ pos 0 ∷ pos 1 ∷ pos 0 ∷ pos 1 ∷ [])
    ∷ term (pos 8192) (2 ∷ 1 ∷ 0 ∷ 0 ∷ []) ∷ coordinate 2 ∷ coordinate 3
    ∷ flat_place 4 7 ∷ [])

-- the exponents on m axes whose sum is at most d, in rising order
unfoldable pub exponents : ℕ → ℕ → List (List ℕ)
exponents zero d = [] ∷ []
exponents (suc m) d = flat_map (λ e. map (λ es. e ∷ es) (exponents m (d - e))) (count_from 0 (suc d))

-- the polynomial with every term of dimension n, all with coefficient 1
unfoldable pub every_term : ℕ → List ℕ
every_term n = flat_map (λ es. term (pos 1) (es ++ replicate (4 - n) 0)) (exponents n 4)

-- the largest job of dimension n: each polynomial has every term
unfoldable pub largest_job : ℕ → List ℕ
largest_job n =
    job_of n
    (flat_map vertex_bytes (replicate n (pos 0 ∷ pos 1 ∷ []))
    ∷ (replicate (n - 1) (every_term n) ++ (flat_place n 0 ∷ [])))

-- ---- places and lines

-- C
unfoldable pub places_c4 : List Place
places_c4 =
    place origin (1 ∷ 3 ∷ 7 ∷ []) 0
    ∷ place origin (1 ∷ 3 ∷ 15 ∷ []) 1
    ∷ place origin (1 ∷ 11 ∷ 15 ∷ []) 1
    ∷ place origin (9 ∷ 11 ∷ 15 ∷ []) 1
    ∷ place (at 0 0 0 1) (1 ∷ 3 ∷ 7 ∷ []) 0
    ∷ []

unfoldable pub lines_c4 : List String
lines_c4 =
    "4 edge 5"
    ∷ "0 0 0 0 1 3 7 0 0 0 0"
    ∷ "0 0 0 0 1 3 15 0 0 0 0"
    ∷ "0 0 0 0 1 11 15 0 0 0 0"
    ∷ "0 0 0 0 9 11 15 0 0 0 0"
    ∷ "0 0 0 1 1 3 7 0 0 0 1024"
    ∷ []

-- A, and the loop with ties
unfoldable pub places_loop : List Place
places_loop =
    place origin (1 ∷ 5 ∷ 13 ∷ []) 0
    ∷ place origin (1 ∷ 5 ∷ 15 ∷ []) 0
    ∷ place origin (1 ∷ 7 ∷ 15 ∷ []) 0
    ∷ place origin (3 ∷ 7 ∷ 15 ∷ []) 1
    ∷ place origin (2 ∷ 7 ∷ 15 ∷ []) 1
    ∷ place origin (2 ∷ 6 ∷ 15 ∷ []) 1
    ∷ place origin (2 ∷ 6 ∷ 14 ∷ []) 1
    ∷ place (negsuc 0 ∷ pos 0 ∷ pos 0 ∷ pos 0 ∷ []) (1 ∷ 7 ∷ 15 ∷ []) 1
    ∷ place (negsuc 0 ∷ pos 0 ∷ pos 0 ∷ pos 0 ∷ []) (1 ∷ 5 ∷ 15 ∷ []) 1
    ∷ place (negsuc 0 ∷ pos 0 ∷ pos 0 ∷ pos 0 ∷ []) (1 ∷ 5 ∷ 13 ∷ []) 1
    ∷ place (negsuc 0 ∷ negsuc 0 ∷ pos 0 ∷ pos 0 ∷ []) (3 ∷ 7 ∷ 15 ∷ []) 0
    ∷ place (pos 0 ∷ negsuc 0 ∷ pos 0 ∷ pos 0 ∷ []) (2 ∷ 6 ∷ 14 ∷ []) 0
    ∷ place (pos 0 ∷ negsuc 0 ∷ pos 0 ∷ pos 0 ∷ []) (2 ∷ 6 ∷ 15 ∷ []) 0
    ∷ place (pos 0 ∷ negsuc 0 ∷ pos 0 ∷ pos 0 ∷ []) (2 ∷ 7 ∷ 15 ∷ []) 0
    ∷ []

-- the straight line
unfoldable pub lines_line : List String
lines_line =
    "4 edge 16"
    ∷ "0 0 0 0 2 6 14 0 0 0 0"
    ∷ "0 0 0 0 2 14 15 0 0 0 0"
    ∷ "0 0 0 0 10 14 15 0 0 0 0"
    ∷ "0 0 0 0 8 14 15 0 0 0 0"
    ∷ "0 0 0 1 4 6 7 256 512 768 1024"
    ∷ "0 0 1 1 2 3 11 341 683 1024 1365"
    ∷ "0 0 1 1 2 11 15 341 683 1024 1365"
    ∷ "0 1 1 1 8 9 13 512 1024 1536 2048"
    ∷ "0 1 1 1 8 13 15 512 1024 1536 2048"
    ∷ "0 1 1 2 4 5 7 512 1024 1536 2048"
    ∷ "0 1 1 2 4 5 15 512 1024 1536 2048"
    ∷ "0 1 2 2 1 9 11 683 1365 2048 2731"
    ∷ "0 1 2 2 9 11 15 683 1365 2048 2731"
    ∷ "0 1 2 3 1 3 7 768 1536 2304 3072"
    ∷ "0 1 2 3 3 7 15 1024 2048 3072 4096"
    ∷ "0 2 2 3 1 5 13 1024 2048 3072 4096"
    ∷ []

-- the curve that ends at the value limit
unfoldable pub places_limit : List Place
places_limit =
    place (at 7 0 0 0) (2 ∷ 6 ∷ 14 ∷ []) 0
    ∷ place (at 7 0 0 0) (2 ∷ 6 ∷ 15 ∷ []) 0
    ∷ place (at 7 0 0 0) (2 ∷ 7 ∷ 15 ∷ []) 0
    ∷ place (at 7 0 0 0) (3 ∷ 7 ∷ 15 ∷ []) 0
    ∷ place (at 8 0 0 0) (2 ∷ 6 ∷ 14 ∷ []) 0
    ∷ []

-- ---- the rows

unfoldable pub marked_cases4 : List Row
marked_cases4 =
    -- C: the job has five contents entries and 76 bytes and opens
    bodies case_c4 76 (24 ∷ 40 ∷ 48 ∷ 56 ∷ 64 ∷ [])
    -- C: the five facets, and the lines with four coordinates, three masks and four steps
    ∷ traces case_c4 16 (stopped edge) places_c4
    ∷ prints case_c4 lines_c4
    -- C: the point on each
    ∷ points case_c4 (encode_place (place origin (1 ∷ 3 ∷ 7 ∷ []) 0)) origin
    ∷ points case_c4 (encode_place (place origin (1 ∷ 3 ∷ 15 ∷ []) 1)) origin
    ∷ points case_c4 (encode_place (place origin (1 ∷ 11 ∷ 15 ∷ []) 1)) origin
    ∷ points case_c4 (encode_place (place origin (9 ∷ 11 ∷ 15 ∷ []) 1)) origin
    ∷ points case_c4 (encode_place (place (at 0 0 0 1) (1 ∷ 3 ∷ 7 ∷ []) 0)) (at 0 0 0 1024)
    -- D: C's start with side 1 is edge, 1
    ∷ traces (with_start case_c4 (place origin (1 ∷ 3 ∷ 7 ∷ []) 1)) 16 (stopped edge) (place origin (1 ∷ 3 ∷ 7 ∷ []) 1 ∷ [])
    -- E: C's facet with masks 2 3 7 is not crossed, and Point refuses it
    ∷ judges case_c4 (encode_place (place origin (2 ∷ 3 ∷ 7 ∷ []) 0)) (answered false)
    ∷ refuses_point case_c4 (encode_place (place origin (2 ∷ 3 ∷ 7 ∷ []) 0)) 11
    -- A: the 14 facets, with space for just as many; B: with space for 13 it is full with 13, for 0 full with 0
    ∷ traces case_a4 14 loop places_loop
    ∷ traces case_a4 13 full (take 13 places_loop)
    ∷ traces case_a4 0 full []
    -- a loop through vertices where all three polynomials are 0
    ∷ traces tied_loop 14 loop places_loop
    -- the straight line: its ends are vertices, and the points between them are rounded to the nearest step
    ∷ prints line_job lines_line
    -- its last point is 1 2 3 4; the pen goes to 1 2 3
    ∷ points line_job (encode_place (place (at 0 2 2 3) (1 ∷ 5 ∷ 13 ∷ []) 0)) (at 1024 2048 3072 4096)
    ∷ pens line_job (encode_place (place (at 0 2 2 3) (1 ∷ 5 ∷ 13 ∷ []) 0)) false 0 (lift (fin false 1 (pos 0) ∷ fin false 1 (pos 1) ∷ fin false 3 (pos 0) ∷ []))
    -- 8,192·x² is 524,288 at 8, which is readable, and more at 9, which is not; n = 3 reads it at 9
    ∷ judges (with_first 4 8 (square_term (pos 8192))) (flat_place 4 8) (answered false)
    ∷ judges (with_first 4 8 (square_term (pos 8192))) (flat_place 4 9) (refused 10)
    ∷ judges (with_first 3 8 (square_term (pos 8192))) (flat_place 3 9) (answered false)
    -- the same under 0
    ∷ judges (with_first 4 8 (square_term (negsuc 8191))) (flat_place 4 8) (answered false)
    ∷ judges (with_first 4 8 (square_term (negsuc 8191))) (flat_place 4 9) (refused 10)
    ∷ judges (with_first 3 8 (square_term (negsuc 8191))) (flat_place 3 9) (answered false)
    -- 524,289 and − 524,289 are not readable
    ∷ judges (with_first 4 8 (constant_term (pos 1) ++ square_term (pos 8192))) (flat_place 4 8) (refused 10)
    ∷ judges (with_first 4 8 (constant_term (negsuc 0) ++ square_term (negsuc 8191))) (flat_place 4 8) (refused 10)
    -- I with n = 3: 1,048,576·x² at 16 is readable, at 17 not
    ∷ judges (with_first 3 16 (square_term (pos 1048576))) (flat_place 3 16) (answered false)
    ∷ judges (with_first 3 16 (square_term (pos 1048576))) (flat_place 3 17) (refused 10)
    -- a curve that ends where 8,192·x²·y is not readable
    ∷ traces limit_job 16 (stopped limit) places_limit
    -- n = 4: three polynomials of 70 terms open; n = 3: two of 35; n = 2: one of 15
    ∷ bodies (largest_job 4) 1732 (24 ∷ 40 ∷ 600 ∷ 1160 ∷ 1720 ∷ [])
    ∷ bodies (largest_job 3) 601 (20 ∷ 32 ∷ 312 ∷ 592 ∷ [])
    ∷ bodies (largest_job 2) 150 (16 ∷ 24 ∷ 144 ∷ [])
    -- one term more is 5
    ∷ refuses (with_first 4 0 (every_term 4 ++ coordinate 0)) 5
    ∷ refuses (with_first 3 0 (every_term 3 ++ coordinate 0)) 5
    ∷ refuses (with_first 2 0 (every_term 2 ++ coordinate 0)) 5
    -- w is 1 at 0 0 0 1; for n = 3 it is 7
    ∷ values (with_first 4 0 (coordinate 3)) (at 0 0 0 1) (pos 1 ∷ pos 0 ∷ pos 0 ∷ [])
    ∷ refuses (with_first 4 0 (coordinate 3)) 0
    ∷ refuses (with_first 3 0 (coordinate 3)) 7
    -- x·y·z·w opens, x·y·z·w² is 7
    ∷ refuses (with_first 4 0 (term (pos 1) (1 ∷ 1 ∷ 1 ∷ 1 ∷ []))) 0
    ∷ refuses (with_first 4 0 (term (pos 1) (1 ∷ 1 ∷ 1 ∷ 2 ∷ []))) 7
    -- dimensions 1 and 5 are 3, four contents entries are 4
    ∷ refuses (set case_c4 1 1) 3
    ∷ refuses (set case_c4 1 5) 3
    ∷ refuses (set case_c4 2 4) 4
    -- a place of 9 bytes is 13
    ∷ judges case_c4 (flat_place 3 0) (refused 13)
    -- a start's mask with a bit for axis 5 is 8, and for n = 3 one with a bit for axis 4
    ∷ refuses (with_start case_c4 (place origin (1 ∷ 3 ∷ 19 ∷ []) 0)) 8
    ∷ refuses (with_start case_c (place (take 3 origin) (1 ∷ 9 ∷ []) 0)) 8
    ∷ []

-- every row holds, by computation
pub marked_cases_4_hold : AllHold marked_cases4
unfolding body_offsets flatten flat_map
    entries job_of double_word_bytes term constant_term square_term linear_term coordinate flat_place with_first
    case_c case_c4 plane_job case_a4 tied_loop line_job limit_job exponents every_term largest_job
    places_c4 lines_c4 places_loop lines_line places_limit marked_cases4
marked_cases_4_hold =
    all_hold {rs = marked_cases4} (
    -- C, D and E
    (refl, refl, refl) also refl also refl also refl also refl also refl also refl also refl also refl also refl also refl
    -- A and B, and the loop with ties
    also refl also refl also refl also refl
    -- the straight line
    also refl also refl also refl
    -- values
    also refl also refl also refl also refl also refl also refl also refl also refl also refl also refl also refl
    -- terms
    also (refl, refl, refl) also (refl, refl, refl) also (refl, refl, refl) also refl also refl also refl
    -- exponents
    also refl also refl also refl also refl also refl
    -- dimensions, entries, places and masks
    also refl also refl also refl also refl also refl also refl also end
    )
