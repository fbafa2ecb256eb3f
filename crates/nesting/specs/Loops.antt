-- What the theorems about loops speak of, over any field of dimension 2: the facets of a loop, how far it reaches along axis 1, and lists in
-- another order. Nothing here is computed by the operation.
use Rattle.std.specs.Prelude.{ℕ, ◌≡◌, true, cond, List, [], ◌∷◌, ◌++◌, map, ℤ}
use Rattle.std.specs.Int.Signed.{le_z}
use Rattle.exact.specs.Int.{0ℤ}
use Rattle.curves.specs.Grid.{Vertex, Facet, facet_vertices}
use Rattle.curves.specs.Curve.{◌∈◌}
use Rattle.curves.specs.Step.{Field}
use Rattle.curves.specs.Joined.{Joined, Closes}
use Rattle.seamlist.specs.Seams.{OnSeam}

-- the list has the facets of the loop of f: the curve of f closes, and the facets joined to f are those listed
pub record IsLoop (φ : Field) (f : Facet) (loop : List Facet) : Type 0 where
  pub on : OnSeam 2 φ f
  pub closes : Closes 2 φ f
  pub every : (g : Facet) → Joined 2 φ f g → g ∈ loop
  pub only : (g : Facet) → g ∈ loop → Joined 2 φ f g

-- no vertex in the box lies behind the high end of axis 1
abbrev pub EndsAt : Field → ℤ → Type 0
EndsAt φ high = (x y : ℤ) → φ.in_box (x ∷ y ∷ []) ≡ true → le_z x high ≡ true

-- ---- how far a loop reaches

-- the coordinate on axis 1
unfoldable pub first_of : Vertex → ℤ
first_of [] = 0ℤ
first_of (x ∷ v) = x

-- the greatest of some numbers, not under x
unfoldable pub greatest : ℤ → List ℤ → ℤ
greatest x [] = x
greatest x (y ∷ l) = greatest (cond (le_z x y) y x) l

-- the vertices of the facets of a list
unfoldable pub vertices_of : List Facet → List Vertex
vertices_of [] = []
vertices_of (f ∷ l) = facet_vertices f ++ vertices_of l

-- the greatest x of a vertex of a loop; a loop has a facet
unfoldable pub greatest_x : List Facet → ℤ
greatest_x [] = 0ℤ
greatest_x (f ∷ l) = greatest (first_of f.low) (map first_of (vertices_of (f ∷ l)))

-- ---- lists in another order

-- the second list is the first with x put in somewhere
pub data PutIn {A : Type 0} (x : A) : List A → List A → Type 0 where
  here : {l : List A} → PutIn x l (x ∷ l)
  later : {y : A} {l m : List A} → PutIn x l m → PutIn x (y ∷ l) (y ∷ m)

-- the second list is the first in another order
pub data Reordered {A : Type 0} : List A → List A → Type 0 where
  none : Reordered [] []
  put : {x : A} {l m k : List A} → Reordered l m → PutIn x m k → Reordered (x ∷ l) k

-- each is different from all that follow
pub data Apart {A : Type 0} (Different : A → A → Type 0) : List A → Type 0 where
  none : Apart Different []
  more : {x : A} {l : List A} → ((y : A) → y ∈ l → Different x y) → Apart Different l → Apart Different (x ∷ l)
