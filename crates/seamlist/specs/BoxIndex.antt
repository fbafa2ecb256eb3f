-- The vertices of a box by number, in their order: the number counts steps on the last axis first. Nothing is assumed of the box.
use Rattle.std.specs.Prelude.{ℕ, ◌*◌, ◌/◌, ◌%◌, List, [], ◌∷◌, ℤ, pos}
use Rattle.exact.specs.Int.{◌⊕◌}
use Rattle.curves.specs.Grid.{Vertex}
use Rattle.curves.specs.Box.{span}

-- how many vertices a box has
unfoldable pub box_size : List ℤ → List ℤ → ℕ
box_size [] hs = 1
box_size (l ∷ ls) [] = 1
box_size (l ∷ ls) (h ∷ hs) = span l h * box_size ls hs

-- the vertex with a number
unfoldable pub numbered : List ℤ → List ℤ → ℕ → Vertex
numbered [] hs i = []
numbered (l ∷ ls) [] i = []
numbered (l ∷ ls) (h ∷ hs) i = (l ⊕ pos (i / box_size ls hs)) ∷ numbered ls hs (i % box_size ls hs)
