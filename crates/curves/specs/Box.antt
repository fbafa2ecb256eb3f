-- The facets with their lowest vertex in a box, in the order of request 2.4: lowest vertex first, axis 1 weighing most, then the masks as
-- numbers. Box and dimension are any.
use Rattle.std.specs.Prelude.{ℕ, suc, zero, ◌-◌, ◌^◌, Bool, true, false, cond, ◌&&◌, List, [], ◌∷◌, ◌++◌, map, ℤ, pos, negsuc}
use Rattle.std.specs.Int.Signed.{le_z}
use Rattle.exact.specs.Int.{◌⊕◌, ◌⊖◌, 1ℤ}
use Rattle.exact.specs.Crossed.{count_from}
use Rattle.curves.specs.Grid.{Vertex, Facet, chain}

-- ---- lists

-- the members that pass a test
unfoldable pub keep : {A : Type 0} → (A → Bool) → List A → List A
keep t [] = []
keep t (x ∷ l) = cond (t x) (x ∷ keep t l) (keep t l)

-- every way to join an element of one list with one of another, the first list's weighing most
unfoldable pub pairs : {A B C : Type 0} → (A → B → C) → List A → List B → List C
pairs f [] bs = []
pairs f (a ∷ as') bs = map (f a) bs ++ pairs f as' bs

-- all lists of k numbers under n
unfoldable pub lists_under : ℕ → ℕ → List (List ℕ)
lists_under n zero = [] ∷ []
lists_under n (suc k) = pairs (λ a l. a ∷ l) (count_from 0 n) (lists_under n k)

-- ---- the box

-- a vertex lies in the box: it has one coordinate for each axis of the box, and that is between the axis's ends
unfoldable pub within : List ℤ → List ℤ → Vertex → Bool
within [] [] [] = true
within [] [] (x ∷ v) = false
within [] (h ∷ hs) v = false
within (l ∷ ls) [] v = false
within (l ∷ ls) (h ∷ hs) [] = false
within (l ∷ ls) (h ∷ hs) (x ∷ v) = le_z l x && (le_z x h && within ls hs v)

-- a whole number as a count: 0 if it is negative
unfoldable pub counted : ℤ → ℕ
counted (pos a) = a
counted (negsuc a) = 0

-- how many whole numbers there are from l to h
unfoldable pub span : ℤ → ℤ → ℕ
span l h = counted (h ⊕ 1ℤ ⊖ l)

-- the whole numbers from l to h
unfoldable pub between : ℤ → ℤ → List ℤ
between l h = map (λ k. l ⊕ pos k) (count_from 0 (span l h))

-- the vertices of the box, axis 1 weighing most
unfoldable pub box_vertices : List ℤ → List ℤ → List Vertex
box_vertices [] hs = [] ∷ []
box_vertices (l ∷ ls) [] = [] ∷ []
box_vertices (l ∷ ls) (h ∷ hs) = pairs (λ x v. x ∷ v) (between l h) (box_vertices ls hs)

-- the chains of n − 1 masks of n axes
unfoldable pub chains : ℕ → List (List ℕ)
chains n = keep (chain n 0) (lists_under (2 ^ n) (n - 1))

unfoldable pub box_facets : ℕ → List ℤ → List ℤ → List Facet
box_facets n ls hs = pairs (λ v ms. record { low = v; masks = ms }) (box_vertices ls hs) (chains n)
