-- Jobs from their parts, for cases that hold by computation from the definitions.
use Prim.Native.Nat.{ℕ, ◌+◌, ◌*◌, ◌-◌, ◌/◌, ◌%◌}
use mathlib.Core.List.{List, [], ◌∷◌, ◌++◌, flatten}
use lib.IntN.{ℤ, pos, negsuc}
use lib.ListN.{length, take, set}
use Rattle.curves.specs.Grid.{Place}
use Rattle.paper.specs.Bytes.{word_bytes}
use Rattle.paper.specs.Job.{contents_end, vertex_bytes, encode_place}
use Rattle.paper.proofs.Cases.{place}

-- the contents entries of bodies that stand one behind another from an offset on
unfoldable pub entries : ℕ → List (List ℕ) → List ℕ
entries at [] = []
entries at (b ∷ bs) = word_bytes (pos at) ++ (word_bytes (pos (length b)) ++ entries (at + length b) bs)

-- a job of dimension n with these bodies: box, polynomials, start
unfoldable pub job_of : ℕ → List (List ℕ) → List ℕ
job_of n bs = 1 ∷ n ∷ (n + 1) ∷ 0 ∷ (entries (contents_end n) bs ++ flatten bs)

-- 32 bits, lowest byte first
unfoldable pub double_word_bytes : ℕ → List ℕ
double_word_bytes u = u % 256 ∷ u / 256 % 256 ∷ u / 65536 % 256 ∷ u / 16777216 ∷ []

-- a term: its coefficient and its four exponents
unfoldable pub term : ℤ → List ℕ → List ℕ
term (pos a) es = double_word_bytes a ++ es
term (negsuc a) es = double_word_bytes (4294967295 - a) ++ es

-- the terms c, c·x² and c·x
unfoldable pub constant_term : ℤ → List ℕ
constant_term c = term c (0 ∷ 0 ∷ 0 ∷ 0 ∷ [])

unfoldable pub square_term : ℤ → List ℕ
square_term c = term c (2 ∷ 0 ∷ 0 ∷ 0 ∷ [])

unfoldable pub linear_term : ℤ → List ℕ
linear_term c = term c (1 ∷ 0 ∷ 0 ∷ 0 ∷ [])

-- the polynomial that is a coordinate: x for 0, w for 3
unfoldable pub coordinate : ℕ → List ℕ
coordinate a = term (pos 1) (set (0 ∷ 0 ∷ 0 ∷ 0 ∷ []) a 1)

-- the bytes of the place at x 0 0 .. with masks 2, 6 and 14 and side 0, cut to dimension n: its facet misses axis 1
unfoldable pub flat_place : ℕ → ℕ → List ℕ
flat_place n x = encode_place (place (take n (pos x ∷ pos 0 ∷ pos 0 ∷ pos 0 ∷ [])) (take (n - 1) (2 ∷ 6 ∷ 14 ∷ [])) 0)

-- dimension n, first polynomial p, the others y and z; box x to x + 1 on axis 1 and 0 to 1 on the others; start `flat_place n x`
unfoldable pub with_first : ℕ → ℕ → List ℕ → List ℕ
with_first n x p =
    job_of n
    (vertex_bytes (take (2 * n) (pos x ∷ pos (x + 1) ∷ pos 0 ∷ pos 1 ∷ pos 0 ∷ pos 1 ∷ pos 0 ∷ pos 1 ∷ []))
    ∷ p ∷ (take (n - 2) (coordinate 1 ∷ coordinate 2 ∷ []) ++ (flat_place n x ∷ [])))

-- C with n = 4: polynomials x, y and z; box 0 to 1; start 0 0 0 0, masks 1 3 7, side 0
unfoldable pub case_c4 : List ℕ
case_c4 =
    1 ∷ 4 ∷ 5 ∷ 0 ∷ 24 ∷ 0 ∷ 16 ∷ 0 ∷ 40 ∷ 0 ∷ 8 ∷ 0
    ∷ 48 ∷ 0 ∷ 8 ∷ 0 ∷ 56 ∷ 0 ∷ 8 ∷ 0 ∷ 64 ∷ 0 ∷ 12 ∷ 0
    ∷ 0 ∷ 0 ∷ 1 ∷ 0 ∷ 0 ∷ 0 ∷ 1 ∷ 0 ∷ 0 ∷ 0 ∷ 1 ∷ 0
    ∷ 0 ∷ 0 ∷ 1 ∷ 0 ∷ 1 ∷ 0 ∷ 0 ∷ 0 ∷ 1 ∷ 0 ∷ 0 ∷ 0
    ∷ 1 ∷ 0 ∷ 0 ∷ 0 ∷ 0 ∷ 1 ∷ 0 ∷ 0 ∷ 1 ∷ 0 ∷ 0 ∷ 0
    ∷ 0 ∷ 0 ∷ 1 ∷ 0 ∷ 0 ∷ 0 ∷ 0 ∷ 0 ∷ 0 ∷ 0 ∷ 0 ∷ 0
    ∷ 1 ∷ 3 ∷ 7 ∷ 0 ∷ []

-- 2·x⁴ − 6·x² + 16·y² + 1, and 16·z and 16·w where the dimension has them: − 3 at x = − 1 and x = 1, and 1 at the narrow waist x = 0
-- between them; box − 2 to 2 on axis 1 and − 1 to 1 on the others; the start's facet is that of 1 0 .. and masks 1, 5 and 13
unfoldable pub waist_place : ℕ → Place
waist_place n = place (take n (pos 1 ∷ pos 0 ∷ pos 0 ∷ pos 0 ∷ [])) (take (n - 1) (1 ∷ 5 ∷ 13 ∷ [])) 0

unfoldable pub waist : ℕ → List ℕ
waist n =
    job_of n
    (vertex_bytes (take (2 * n) (negsuc 1 ∷ pos 2 ∷ negsuc 0 ∷ pos 1 ∷ negsuc 0 ∷ pos 1 ∷ negsuc 0 ∷ pos 1 ∷ []))
    ∷ (constant_term (pos 1) ++ (term (pos 16) (0 ∷ 2 ∷ 0 ∷ 0 ∷ []) ++ (square_term (negsuc 5) ++ term (pos 2) (4 ∷ 0 ∷ 0 ∷ 0 ∷ []))))
    ∷ (take (n - 2) (term (pos 16) (0 ∷ 0 ∷ 1 ∷ 0 ∷ []) ∷ term (pos 16) (0 ∷ 0 ∷ 0 ∷ 1 ∷ []) ∷ []) ++ (encode_place (waist_place n) ∷ [])))
