-- Crossed facets of some simplices, by computation. The three simplices of case C are those that its trace runs through, with the
-- polynomials x and y: each is entered and left through the facets that document 01 lists, though all the weights of power 0
-- that decide are 0.
use Prim.Native.Nat.{ℕ, suc, zero, ◌≤◌}
use native.Mathlib.Omega.{arith}
use mathlib.Core.Path.{◌≡◌, refl}
use mathlib.Core.Bool.{Bool, true, false}
use mathlib.Core.List.{List, [], ◌∷◌, map}
use lib.IntN.{pos, negsuc}
use lib.ListN.{get_or}
use Rattle.exact.specs.Int.{◌⊕◌, ◌⊖◌, ◌⊗◌, neg, 0ℤ, 1ℤ}
use Rattle.exact.specs.Sign.{sign, or_else, lex_sign, same_sign}
use Rattle.exact.specs.Det.{Column, laplace, if_none, det, rows_from, determinant}
use Rattle.exact.specs.Crossed.{count_from, unit_column, coefficient, coefficients, all_have_sign, crossed, remove, other_crossed, exit}
use Rattle.exact.specs.Simplex.{IsSimplex}

-- for each vertex, whether the facet without it is crossed; what this unfolds is all that the examples compute with
crossed_facets : ℕ → List Column → List Bool
unfolding crossed all_have_sign coefficients coefficient unit_column count_from lex_sign or_else sign same_sign determinant det rows_from laplace if_none ◌⊕◌ ◌⊖◌ ◌⊗◌ neg remove other_crossed exit
crossed_facets n us = map (λ p. crossed n (remove p us)) (count_from 0 (suc n))

-- the column of a vertex with two values
abbrev at : ℕ → ℕ → Column
at x y = 1ℤ ∷ pos x ∷ pos y ∷ []

-- n = 0: the one facet is crossed, and there is no other
crossed_nothing : crossed_facets 0 ((1ℤ ∷ []) ∷ []) ≡ (true ∷ [])
unfolding crossed_facets
crossed_nothing = refl

-- ---- n = 2: cases F, G and H, and a triangle with a value of 0

crossed_F : crossed 2 ((1ℤ ∷ 0ℤ ∷ []) ∷ (1ℤ ∷ 1ℤ ∷ []) ∷ []) ≡ true
unfolding crossed_facets
crossed_F = refl

crossed_G : crossed 2 ((1ℤ ∷ 0ℤ ∷ []) ∷ (1ℤ ∷ negsuc 0 ∷ []) ∷ []) ≡ false
unfolding crossed_facets
crossed_G = refl

crossed_H : crossed 2 ((1ℤ ∷ 0ℤ ∷ []) ∷ (1ℤ ∷ 0ℤ ∷ []) ∷ []) ≡ false
unfolding crossed_facets
crossed_H = refl

-- the values 0, 1 and −1
triangle : List Column
triangle = (1ℤ ∷ 0ℤ ∷ []) ∷ (1ℤ ∷ 1ℤ ∷ []) ∷ (1ℤ ∷ negsuc 0 ∷ []) ∷ []

triangle_is : IsSimplex 2 triangle
unfolding triangle
triangle_is = record { large = omega arith; size = refl; ones = ones }
  where
    ones : (p : ℕ) → p ≤ 2 → get_or (get_or triangle p []) 0 0ℤ ≡ 1ℤ
    ones zero l = refl
    ones (suc zero) l = refl
    ones (suc (suc zero)) l = refl
    ones (suc (suc (suc p))) l = absurd (omega arith)

triangle_crossed : crossed_facets 2 triangle ≡ (true ∷ false ∷ true ∷ [])
unfolding crossed_facets triangle
triangle_crossed = refl

triangle_exit : exit 2 triangle 0 ≡ 2
unfolding crossed_facets triangle
triangle_exit = refl

-- ---- n = 3: case C, and case E

-- 000, 100, 110, 111: entered without 111, left without 110
simplex_C1 : crossed_facets 3 (at 0 0 ∷ at 1 0 ∷ at 1 1 ∷ at 1 1 ∷ []) ≡ (false ∷ false ∷ true ∷ true ∷ [])
unfolding crossed_facets
simplex_C1 = refl

exit_C1 : exit 3 (at 0 0 ∷ at 1 0 ∷ at 1 1 ∷ at 1 1 ∷ []) 3 ≡ 2
unfolding crossed_facets
exit_C1 = refl

-- 000, 100, 101, 111: entered without 101, left without 100
simplex_C2 : crossed_facets 3 (at 0 0 ∷ at 1 0 ∷ at 1 0 ∷ at 1 1 ∷ []) ≡ (false ∷ true ∷ true ∷ false ∷ [])
unfolding crossed_facets
simplex_C2 = refl

-- 000, 001, 101, 111: entered without 001, left without 000
simplex_C3 : crossed_facets 3 (at 0 0 ∷ at 0 0 ∷ at 1 0 ∷ at 1 1 ∷ []) ≡ (true ∷ true ∷ false ∷ false ∷ [])
unfolding crossed_facets
simplex_C3 = refl

-- 000, 010, 110 is not crossed
crossed_E : crossed 3 (at 0 0 ∷ at 0 1 ∷ at 1 1 ∷ []) ≡ false
unfolding crossed_facets
crossed_E = refl

-- ---- n = 4, with the polynomials x, y and z at 0000, 1000, 1100, 1110, 1111

simplex_four :
    crossed_facets 4 ((1ℤ ∷ 0ℤ ∷ 0ℤ ∷ 0ℤ ∷ []) ∷ (1ℤ ∷ 1ℤ ∷ 0ℤ ∷ 0ℤ ∷ []) ∷ (1ℤ ∷ 1ℤ ∷ 1ℤ ∷ 0ℤ ∷ []) ∷ (1ℤ ∷ 1ℤ ∷ 1ℤ ∷ 1ℤ ∷ []) ∷ (1ℤ ∷ 1ℤ ∷ 1ℤ ∷ 1ℤ ∷ []) ∷ [])
    ≡ (false ∷ false ∷ false ∷ true ∷ true ∷ [])
unfolding crossed_facets
simplex_four = refl
