-- What a walk along the loop of one place tells of another, as the code answers it, and how it counts: not the edges passed that are facets of
-- the loop, but the facets of the loop that are edges passed.
use Rattle.std.specs.Prelude.{ℕ, Bool, true, false, not, cond, ◌&&◌, List, [], ◌∷◌}
use Rattle.std.specs.Int.Signed.{le_z}
use Rattle.curves.specs.Grid.{Vertex, Facet, Place, same_masks}
use Rattle.nesting.specs.Inside.{inside}
use Rattle.nesting.specs.CutOrder.{loop_of, same_loop, row_end}
use Rattle.loops.specs.declared.Past as Code

-- a vertex with the same y and no smaller x
unfoldable pub ahead_in_row : Vertex → Vertex → Bool
ahead_in_row [] w = false
ahead_in_row (x ∷ []) w = false
ahead_in_row (x ∷ y ∷ v) [] = false
ahead_in_row (x ∷ y ∷ v) (a ∷ []) = false
ahead_in_row (x ∷ y ∷ v) (a ∷ b ∷ w) = le_z x a && (le_z y b && le_z b y)

-- an edge along axis 1 that starts there
unfoldable pub edge_ahead : Vertex → Facet → Bool
edge_ahead v f = same_masks f.masks (1 ∷ []) && ahead_in_row v f.low

-- the other of two, if a test holds
unfoldable pub flips : Bool → Bool → Bool
flips true b = not b
flips false b = b

unfoldable pub beside : Bool → Code.Past
beside true = Code.TheVariants.Inside
beside false = Code.TheVariants.Outside

-- on the same loop, else inside or outside
unfoldable pub told : Bool → Bool → Code.Past
told same within = cond same Code.TheVariants.Same (beside within)

-- of the place p, from the loop of q
unfoldable pub told_of : List ℕ → Place → Place → Code.Past
told_of s p q = told (same_loop s p q) (inside (row_end s) (loop_of s q) p.facet.low)
