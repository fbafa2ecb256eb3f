-- How far a list of facets reaches along axis 1: the greatest x of its vertices is that of one of them, and a vertex inside lies before it.
use native.Mathlib.Omega.{arith}
use mathlib.Core.Path.{◌≡◌, refl, sym, ap, ◌∙◌, subst}
use mathlib.Core.Bool.{Bool, true, false, cond, false≢true}
use mathlib.Core.Logic.{⊎_elim}
use mathlib.Core.List.Memᴰ
use mathlib.Core.List.{List, [], ◌∷◌, map}
use lib.IntN.{ℤ}
use lib.ListN.{length}
use lib.Signed.{le_z, ◌≤ℤ◌, ◌<ℤ◌}
use Rattle.exact.specs.Int.{◌⊕◌, ◌⊖◌, 1ℤ}
use Rattle.exact.proofs.Linear.{split, linear}
use Rattle.curves.specs.Grid.{Vertex, Facet, facet_vertices, plus}
use Rattle.curves.specs.Curve.{◌∈◌}
use Rattle.curves.specs.Box.{keep, between}
use Rattle.curves.proofs.Listed.{keep_member}
use Rattle.curves.proofs.Finite.{between_member, test_le}
use Rattle.curves.proofs.SameFacet.{le_z_refl}
use Rattle.seamlist.proofs.FacetOrder.{less_le, not_le_less}
use Rattle.nesting.specs.Inside.{edge_from, edges_passed, among, odd, inside}
use Rattle.nesting.specs.Loops.{first_of, greatest, vertices_of, greatest_x}
use Rattle.nesting.proofs.WholeOrder.{le_trans}
use Rattle.nesting.proofs.LoopBoundary.{among_member}

-- ---- the greatest of some numbers

-- of two numbers the greater is taken
step_up : (x y : ℤ) → (x ≤ℤ cond (le_z x y) y x) × (y ≤ℤ cond (le_z x y) y x)
step_up x y = go (le_z x y) refl
  where
    go : (b : Bool) → le_z x y ≡ b → (x ≤ℤ cond b y x) × (y ≤ℤ cond b y x)
    go true e = (test_le x y e, test_le y y (le_z_refl y))
    go false e = (test_le x x (le_z_refl x), test_le y x (less_le y x (not_le_less y x e)))

-- none is above it
pub greatest_above : (x : ℤ) (l : List ℤ) {y : ℤ} → y ∈ (x ∷ l) → y ≤ℤ greatest x l
unfolding greatest
greatest_above x [] {y} i = ⊎_elim (λ e. subst (λ z. z ≤ℤ x) (sym e) (test_le x x (le_z_refl x))) (λ j. absurd (Memᴰ.not-nil j)) (Memᴰ.cases_cons i)
greatest_above x (z ∷ l) {y} i =
    let m : ℤ = cond (le_z x z) z x in
    let up : m ≤ℤ greatest m l = greatest_above m l (Memᴰ.head refl) in
    ⊎_elim
    (λ e. subst (λ a. a ≤ℤ greatest m l) (sym e) (le_trans x m (greatest m l) (step_up x z).0 up))
    (λ j.
    ⊎_elim (λ e. subst (λ a. a ≤ℤ greatest m l) (sym e) (le_trans z m (greatest m l) (step_up x z).1 up))
    (λ k. greatest_above m l (Memᴰ.tail k))
    (Memᴰ.cases_cons j))
    (Memᴰ.cases_cons i)

-- and it is one of them
pub greatest_member : (x : ℤ) (l : List ℤ) → greatest x l ∈ (x ∷ l)
unfolding greatest
greatest_member x [] = Memᴰ.head refl
greatest_member x (z ∷ l) = go (le_z x z) (greatest_member z l) (greatest_member x l)
  where
    go : (b : Bool) → greatest z l ∈ (z ∷ l) → greatest x l ∈ (x ∷ l) → greatest (cond b z x) l ∈ (x ∷ z ∷ l)
    go true i j = Memᴰ.tail i
    go false i j = ⊎_elim (λ e. Memᴰ.head e) (λ k. Memᴰ.tail (Memᴰ.tail k)) (Memᴰ.cases_cons j)

-- ---- the vertices of some facets

-- a vertex of a facet of the list is among them
pub vertices_listed : (l : List Facet) {f : Facet} {v : Vertex} → f ∈ l → v ∈ facet_vertices f → v ∈ vertices_of l
unfolding vertices_of
vertices_listed [] i j = absurd (Memᴰ.not-nil i)
vertices_listed (g ∷ l) {f} {v} i j =
    ⊎_elim
    (λ e. Memᴰ.append_left (vertices_of l) (subst (λ (h : Facet). v ∈ facet_vertices h) e j))
    (λ k. Memᴰ.append_right (facet_vertices g) (vertices_listed l k j))
    (Memᴰ.cases_cons i)

-- a vertex of a facet of the list
pub record VertexOf (l : List Facet) (v : Vertex) : Type 0 where
  pub facet : Facet
  pub listed : facet ∈ l
  pub corner : v ∈ facet_vertices facet

-- and each of them is such a vertex
pub vertices_member : (l : List Facet) {v : Vertex} → v ∈ vertices_of l → VertexOf l v
unfolding vertices_of
vertices_member [] i = absurd (Memᴰ.not-nil i)
vertices_member (g ∷ l) {v} i =
    ⊎_elim
    (λ j. record { facet = g; listed = Memᴰ.head refl; corner = j })
    (λ j. later (vertices_member l j))
    (Memᴰ.append_cases (facet_vertices g) i)
  where
    later : VertexOf l v → VertexOf (g ∷ l) v
    later w = record { facet = w.facet; listed = Memᴰ.tail w.listed; corner = w.corner }

-- ---- the greatest x

-- no vertex of the list lies behind it
pub reach_above : (l : List Facet) {f : Facet} {v : Vertex} → f ∈ l → v ∈ facet_vertices f → first_of v ≤ℤ greatest_x l
unfolding greatest_x
reach_above [] i j = absurd (Memᴰ.not-nil i)
reach_above (g ∷ l) i j =
    greatest_above (first_of g.low) (map first_of (vertices_of (g ∷ l))) (Memᴰ.tail (Memᴰ.map first_of (vertices_listed (g ∷ l) i j)))

-- and a vertex of the list has it
pub reach_vertex : (l : List Facet) {f : Facet} → f ∈ l → (v : Vertex) × VertexOf l v × (first_of v ≡ greatest_x l)
unfolding greatest_x facet_vertices
reach_vertex [] i = absurd (Memᴰ.not-nil i)
reach_vertex (g ∷ l) i =
    ⊎_elim
    (λ e. (g.low, record { facet = g; listed = Memᴰ.head refl; corner = Memᴰ.head refl }, sym e))
    (λ j. let w = Memᴰ.of_map first_of (vertices_of (g ∷ l)) j in (w.0, vertices_member (g ∷ l) w.1, w.2))
    (Memᴰ.cases_cons (greatest_member (first_of g.low) (map first_of (vertices_of (g ∷ l)))))

-- ---- inside

-- an odd number of members is not none
odd_some : {A : Type 0} (l : List A) → odd (length l) ≡ true → (x : A) × (x ∈ l)
unfolding odd
odd_some [] e = absurd (false≢true e)
odd_some (x ∷ l) e = (x, Memᴰ.head refl)

-- an edge that begins no earlier than x ends behind x
edge_ahead_lem : (x z r : ℤ) → x ≤ℤ z → z ⊕ 1ℤ ≤ℤ r → x <ℤ r
edge_ahead_lem x z r = rw (split x, split z, split r) (simp linear (omega arith))

-- an edge of the list ends no farther on than the greatest x
edge_reach : (l : List Facet) (y z : ℤ) → edge_from y z ∈ l → z ⊕ 1ℤ ≤ℤ greatest_x l
unfolding first_of facet_vertices edge_from plus
edge_reach l y z i = reach_above l {v = plus (z ∷ y ∷ []) 1} i (Memᴰ.tail (Memᴰ.head refl))

-- a vertex inside lies before the greatest x: an edge ahead of it is in the list, and ends farther on
pub inside_before : (high : ℤ) (l : List Facet) (v : Vertex) → inside high l v ≡ true → first_of v <ℤ greatest_x l
unfolding inside edges_passed first_of odd keep
inside_before high l [] e = absurd (false≢true e)
inside_before high l (x ∷ []) e = absurd (false≢true e)
inside_before high l (x ∷ y ∷ v) e =
    let row : List ℤ = between x (high ⊖ 1ℤ) in
    let w = odd_some (keep (among l) (map (edge_from y) row)) e in
    let k = keep_member (among l) (map (edge_from y) row) w.1 in
    let u = Memᴰ.of_map (edge_from y) row k.0 in
    let listed : edge_from y u.0 ∈ l = among_member l (edge_from y u.0) (ap (among l) u.2 ∙ k.1) in
    edge_ahead_lem x u.0 (greatest_x l) (test_le x u.0 (between_member x (high ⊖ 1ℤ) u.1).0) (edge_reach l y u.0 listed)
