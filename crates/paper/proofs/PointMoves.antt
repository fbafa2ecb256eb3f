-- A drawing moved by whole units: a facet moved with the values at its vertices has its point moved by as many times 1024 steps. In the definition this is
-- plain, since it rounds the share alone; that this is the rounding of the whole coordinate is `coordinate_whole`.
use Prim.Native.Nat.{ℕ, suc, ◌/◌, ◌%◌}
use mathlib.Core.Path.{◌≡◌, refl, ap, ap₂, ◌∙◌}
use mathlib.Core.List.{List, [], ◌∷◌, map}
use lib.IntN.{ℤ, pos}
use Rattle.exact.specs.Int.{◌⊕◌, ◌⊗◌, 1ℤ}
use Rattle.exact.specs.Det.{Column, determinant}
use Rattle.exact.proofs.Ring.{add_assoc}
use Rattle.exact.proofs.Solver.{var, ◌:+◌, ◌:*◌, solve}
use Rattle.curves.specs.Grid.{Vertex, Facet, plus, facet_vertices}
use Rattle.curves.specs.Step.{Field, column, columns}
use Rattle.paper.specs.Limits.{steps_per_unit}
use Rattle.paper.specs.Values.{weight_sum, share_steps, coordinate_steps, point_from, point_of}
use Rattle.paper.specs.Nearest.{moved, moved_facet, unit_steps}

-- ---- a coordinate and a point, with the same columns

coordinate_moves : (k low num d : ℤ) → coordinate_steps (k ⊕ low) num d ≡ pos steps_per_unit ⊗ k ⊕ coordinate_steps low num d
unfolding coordinate_steps
coordinate_moves k low num d =
    solve (var 0 :* (var 1 :+ var 2) :+ var 3) (var 0 :* var 1 :+ (var 0 :* var 2 :+ var 3)) (pos steps_per_unit ∷ k ∷ low ∷ share_steps num d ∷ []) refl

points_move :
    (n : ℕ) (cs : List Column) (ms : List ℕ) (a : ℕ) (u : List ℤ) (v : Vertex)
    → point_from n cs ms a (moved u v) ≡ moved (unit_steps u) (point_from n cs ms a v)
unfolding point_from moved unit_steps
points_move n cs ms a [] v = refl
points_move n cs ms a (k ∷ u) [] = refl
points_move n cs ms a (k ∷ u) (x ∷ v) =
    ap₂ ◌∷◌ (coordinate_moves k x (weight_sum n cs 1 ms a) (determinant n cs)) (points_move n cs ms (suc a) u v)

-- ---- the vertices

plus_moved : (u : List ℤ) (v : Vertex) (m : ℕ) → plus (moved u v) m ≡ moved u (plus v m)
unfolding plus moved
plus_moved [] v m = refl
plus_moved (k ∷ u) [] m = refl
plus_moved (k ∷ u) (x ∷ v) m = ap₂ ◌∷◌ (add_assoc k x (pos (m % 2))) (plus_moved u v (m / 2))

-- φ's values at a vertex are ψ's at the vertex moved by u
module _ (φ ψ : Field) (u : List ℤ) (h : (v : Vertex) → ψ.value (moved u v) ≡ φ.value v) where
  columns_moved : (v : Vertex) (ms : List ℕ) → columns ψ (map (plus (moved u v)) ms) ≡ columns φ (map (plus v) ms)
  unfolding columns column
  columns_moved v [] = refl
  columns_moved v (m ∷ ms) =
      ap₂ ◌∷◌ (ap (λ z. 1ℤ ∷ z) (ap (λ w. ψ.value w) (plus_moved u v m) ∙ h (plus v m))) (columns_moved v ms)

  facet_moved : (f : Facet) → columns ψ (facet_vertices (moved_facet u f)) ≡ columns φ (facet_vertices f)
  unfolding facet_vertices moved_facet columns column
  facet_moved f = ap₂ ◌∷◌ (ap (λ z. 1ℤ ∷ z) (h f.low)) (columns_moved f.low f.masks)

  pub point_moves : (n : ℕ) (f : Facet) → point_of n ψ (moved_facet u f) ≡ moved (unit_steps u) (point_of n φ f)
  unfolding point_of moved_facet
  point_moves n f =
      ap (λ cs. point_from n cs f.masks 0 (moved u f.low)) (facet_moved f)
      ∙ points_move n (columns φ (facet_vertices f)) f.masks 0 u f.low
