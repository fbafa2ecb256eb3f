-- The facets of the simplex with a row's order: masks and side of the place that leaves out one vertex. They do not depend on the
-- corner (`proofs.Anywhere`), so the empty vertex stands for it here.
use Rattle.std.specs.Prelude.{ℕ, ◌-◌, List, [], ◌∷◌}
use Rattle.exact.specs.Minors.{skip}
use Rattle.curves.specs.Grid.{place_at}
use Rattle.table.specs.Table.{order_at, vertex_mask}

-- the masks and the side of the facet without vertex `out`
unfoldable pub masks_at : ℕ → ℕ → ℕ → List ℕ
masks_at n row out = (place_at [] (order_at n row) out).facet.masks

unfoldable pub side_at : ℕ → ℕ → ℕ → ℕ
side_at n row out = (place_at [] (order_at n row) out).side

-- the difference of the facet's vertex i from its lowest; 0 where it has no such vertex
unfoldable pub facet_mask : ℕ → ℕ → ℕ → ℕ → ℕ
facet_mask n row out i = vertex_mask (order_at n row) (skip out i) - vertex_mask (order_at n row) (skip out 0)

-- the masks, of which the first n − 1 count
unfoldable pub facet_masks : ℕ → ℕ → ℕ → List ℕ
facet_masks n row out = facet_mask n row out 1 ∷ facet_mask n row out 2 ∷ facet_mask n row out 3 ∷ []
