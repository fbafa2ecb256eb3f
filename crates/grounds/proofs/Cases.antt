-- The grounds of marked cases of document 01 and of ties in dimensions 3 and 4, as rows of one table: each holds by computation from the
-- definitions.
use Prim.Native.Nat.{ℕ}
use mathlib.Core.Path.{◌≡◌, refl}
use mathlib.Core.List.{List, [], ◌∷◌}
use lib.ListN.{set}
use Rattle.paper.specs.Operations.{Answer, refused, answered}
use Rattle.paper.proofs.Cases.{body_offsets, case_a, case_c, case_f, case_g, case_h, case_i, one_term_job, unit_box, unit_start}
use Rattle.paper.proofs.Jobs.{case_c4}
use Rattle.grounds.specs.Ground.{Ground, zero_determinant, vertex_against, all_with, leading_zeros, deciding_power, ground_from, ground}
use Rattle.grounds.specs.Judged.{place_columns, judged_by}

-- a job, a place in bytes, and what is answered
pub record Row : Type 0 where
  pub job : List ℕ
  pub place : List ℕ
  pub answer : Answer Ground

abbrev row : List ℕ → List ℕ → Answer Ground → Row
row s p a = record { job = s; place = p; answer = a }

-- every row of a table holds
infixr 5 ◌also◌
pub data AllHold : List Row → Type 0 where
  end : AllHold []
  ◌also◌ : {r : Row} {rs : List Row} → judged_by r.job r.place ≡ r.answer → AllHold rs → AllHold (r ∷ rs)

-- the places at the origin with these masks
abbrev edge : ℕ → List ℕ
edge m = 0 ∷ 0 ∷ 0 ∷ 0 ∷ m ∷ 0 ∷ []

abbrev triangle : ℕ → ℕ → List ℕ
triangle l m = 0 ∷ 0 ∷ 0 ∷ 0 ∷ 0 ∷ 0 ∷ l ∷ m ∷ 0 ∷ []

abbrev tetrahedron : ℕ → ℕ → ℕ → List ℕ
tetrahedron l m k = 0 ∷ 0 ∷ 0 ∷ 0 ∷ 0 ∷ 0 ∷ 0 ∷ 0 ∷ l ∷ m ∷ k ∷ 0 ∷ []

unfoldable pub marked_grounds : List Row
marked_grounds =
    -- A: values − 1 and 1. No tie: power 0 decides both vertices
    row case_a (edge 1) (answered (all_with (0 ∷ 0 ∷ [])))
    -- E: columns 1 0 0, 1 0 1 and 1 1 1, D is − 1. Vertex 0: − 1 0 1. Vertex 1: 0 1 − 1, so power 1 is against D
    ∷ row case_c (triangle 2 3) (answered (vertex_against 1 1))
    -- F: values 0 and 1, D is 1. Vertex 0: 1 − 1. Vertex 1: 0 1
    ∷ row case_f (edge 1) (answered (all_with (0 ∷ 1 ∷ [])))
    -- G: values 0 and − 1, D is − 1. Vertex 0: − 1 − 1. Vertex 1: 0 1
    ∷ row case_g (edge 1) (answered (vertex_against 1 1))
    -- H: values 0 and 0
    ∷ row case_h (edge 1) (answered zero_determinant)
    -- C's start: columns 1 0 0, 1 1 0 and 1 1 1, D is 1. Vertex 0: 1 − 1 0. Vertex 1: 0 1 − 1. Vertex 2: 0 0 1
    ∷ row case_c (triangle 1 3) (answered (all_with (0 ∷ 1 ∷ 2 ∷ [])))
    -- the same in dimension 4, and a vertex against D there
    ∷ row case_c4 (tetrahedron 1 3 7) (answered (all_with (0 ∷ 1 ∷ 2 ∷ 3 ∷ [])))
    ∷ row case_c4 (tetrahedron 2 3 7) (answered (vertex_against 1 1))
    ∷ row case_c4 (tetrahedron 1 5 7) (answered (vertex_against 2 2))
    -- a facet whose three vertices have two values alike
    ∷ row case_c (triangle 1 5) (answered zero_determinant)
    -- the refusals are Judge's: 13 the masks, 9 a vertex outside the box, 10 a value not readable, 2 from Open
    ∷ row case_f (edge 0) (refused 13)
    ∷ row case_f (set (edge 1) 0 1) (refused 9)
    ∷ row case_i (17 ∷ 0 ∷ 0 ∷ 0 ∷ 2 ∷ 0 ∷ []) (refused 10)
    ∷ row (set case_f 0 2) (edge 1) (refused 2)
    ∷ []

pub marked_grounds_hold : AllHold marked_grounds
unfolding body_offsets
    leading_zeros deciding_power ground_from ground place_columns judged_by
    case_a case_c case_f case_g case_h case_i case_c4 one_term_job unit_box unit_start marked_grounds
marked_grounds_hold =
    -- A, E, F, G, H
    refl also refl also refl also refl also refl
    -- dimensions 3 and 4
    also refl also refl also refl also refl also refl
    -- the refusals
    also refl also refl also refl also refl also end
