-- The two reflection rules of document 002, section 5, on the vertices s_0 .. s_n of a simplex: which vertex comes in where s_i
-- goes. The neighbours in the grid are those of the P rule (proofs/PRule.antt). The R rule agrees with it between the two ends
-- and leads out of the grid at both (proofs/RRule.antt).
use Rattle.std.specs.Prelude.{ℕ, suc, zero, ◌+◌, ◌-◌, ◌%◌, cond, List, [], ◌∷◌, ◌++◌, length, get_or, set, eqb}
use Rattle.exact.specs.Int.{◌⊕◌, ◌⊖◌}
use Rattle.exact.specs.Crossed.{remove}
use Rattle.curves.specs.Grid.{Vertex, Incidence, vertices}

infixl 65 ◌⊞◌ ◌⊟◌
-- the sum and the difference of vectors, coordinate by coordinate
unfoldable pub ◌⊞◌ : Vertex → Vertex → Vertex
[] ⊞ w = []
(x ∷ v) ⊞ [] = []
(x ∷ v) ⊞ (y ∷ w) = (x ⊕ y) ∷ (v ⊞ w)

unfoldable pub ◌⊟◌ : Vertex → Vertex → Vertex
[] ⊟ w = []
(x ∷ v) ⊟ [] = []
(x ∷ v) ⊟ (y ∷ w) = (x ⊖ y) ∷ (v ⊟ w)

-- s_k
abbrev pub vertex_at : List Vertex → ℕ → Vertex
vertex_at s k = get_or s k []

-- s_k with k modulo the number of vertices
unfoldable pub cyclic : List Vertex → ℕ → Vertex
cyclic s k = vertex_at s (k % length s)

-- the P rule (*): s_(i−1) + s_(i+1) − s_i, indices modulo n + 1
unfoldable pub reflected_p : List Vertex → ℕ → Vertex
reflected_p s i = (cyclic s (i + length s - 1) ⊞ cyclic s (i + 1)) ⊟ cyclic s i

-- the R rule (**): 2·s_1 − s_0 for i = 0, 2·s_(n−1) − s_n for i = n, else s_(i−1) + s_(i+1) − s_i
unfoldable pub reflected_r : ℕ → List Vertex → ℕ → Vertex
reflected_r n s zero = (vertex_at s 1 ⊞ vertex_at s 1) ⊟ vertex_at s 0
reflected_r n s (suc i) =
    cond (eqb (suc i) n) ((vertex_at s (n - 1) ⊞ vertex_at s (n - 1)) ⊟ vertex_at s n)
    ((vertex_at s i ⊞ vertex_at s (suc (suc i))) ⊟ vertex_at s (suc i))

-- the vertices s_0 .. s_n with w for s_i: in the place of s_i where 0 < i < n, last for i = 0, first for i = n
unfoldable pub replaced : ℕ → List Vertex → ℕ → Vertex → List Vertex
replaced n s zero w = remove 0 s ++ (w ∷ [])
replaced n s (suc i) w = cond (eqb (suc i) n) (w ∷ remove n s) (set s (suc i) w)

-- the vertices of a simplex
unfoldable pub vertices_of : Incidence → List Vertex
vertices_of t = vertices t.corner t.order
