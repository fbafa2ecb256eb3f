-- For a loop and any other curve, closed or not: all vertices of all facets of that curve are inside the loop, or none is.
use Prim.Native.Nat.{ℕ, zero, suc, ◌≤◌, ◌<◌}
use native.Mathlib.Omega.{arith}
use mathlib.Core.Path.{◌≡◌, refl, sym, ap, ◌∙◌, subst}
use mathlib.Core.Bool.{Bool, true, false, not, ◌&&◌}
use mathlib.Core.Logic.{⊎_elim}
use mathlib.Core.List.Memᴰ
use mathlib.Core.List.{List, [], ◌∷◌}
use lib.IntN.{ℤ}
use lib.ListN.{length}
use lib.Dec.{ltb, eqb}
use borrow.Author.Tests.{ltb-true, eqb-false, not-true}
use Rattle.exact.specs.Crossed.{remove}
use Rattle.exact.proofs.AndTests.{and_left, and_right}
use Rattle.curves.specs.Grid.{Vertex, Facet, holds, chain, vertices, facet_vertices}
use Rattle.curves.specs.Curve.{◌∈◌, itself, onward}
use Rattle.curves.specs.Step.{Field}
use Rattle.curves.specs.Joined.{IsFacetOf, Shares, Joined}
use Rattle.curves.proofs.OrderTests.{order_length}
use Rattle.curves.proofs.Vertices.{length_vertices, facet_vertices_lem}
use Rattle.curves.proofs.IncidenceOf.{Formed, place_formed}
use Rattle.curves.proofs.GridStep.{accepted}
use Rattle.curves.proofs.JoinedLaws.{joined_trans, joined_sym}
use Rattle.seamlist.specs.Seams.{front, OnSeam}
use Rattle.seamlist.proofs.SeamList.{joined_on}
use Rattle.nesting.specs.Inside.{among, inside}
use Rattle.nesting.specs.Loops.{IsLoop, EndsAt}
use Rattle.nesting.proofs.Strip.{edge, edge_off}
use Rattle.nesting.proofs.LoopBoundary.{loop_joined, loop_boundary}

-- ---- the facets of dimension 2

-- the facet is an edge from (x, y), with a mask of two axes
pub record IsEdge (g : Facet) : Type 0 where
  pub x : ℤ
  pub y : ℤ
  pub mask : ℕ
  pub mask_under : mask < 4
  pub mask_some : ¬ (mask ≡ 0)
  pub is : g ≡ edge mask x y

-- a chain of one mask of two axes: the mask is 1, 2 or 3
mask_tests : (m : ℕ) → chain 2 0 (m ∷ []) ≡ true → (m < 4) × (¬ (m ≡ 0))
unfolding chain
mask_tests m e =
    let a : Bool = ltb m 4 in
    let b : Bool = holds 2 m 0 in
    let c : Bool = not (eqb m 0) in
    let rest : c && true ≡ true = and_right b (c && true) (and_right a (b && (c && true)) e) in
    (ltb-true m 4 (and_left a (b && (c && true)) e), eqb-false m 0 (not-true (eqb m 0) (and_left c true rest)))

-- two coordinates and such a mask are an edge
edge_form : (v : Vertex) (ms : List ℕ) → length v ≡ 2 → suc (length ms) ≡ 2 → chain 2 0 ms ≡ true → IsEdge record { low = v; masks = ms }
edge_form (x ∷ y ∷ []) (m ∷ []) p q e =
    let w = mask_tests m e in
    record { x = x; y = y; mask = m; mask_under = w.0; mask_some = w.1; is = refl }
edge_form [] ms p q e = absurd (omega arith)
edge_form (x ∷ []) ms p q e = absurd (omega arith)
edge_form (x ∷ y ∷ z ∷ v) ms p q e = absurd (omega arith)
edge_form (x ∷ y ∷ []) [] p q e = absurd (omega arith)
edge_form (x ∷ y ∷ []) (m ∷ l ∷ ms) p q e = absurd (omega arith)

-- a facet on a seam is an edge
pub seam_edge : (φ : Field) (g : Facet) → OnSeam 2 φ g → IsEdge g
unfolding front
seam_edge φ g o =
    let t : Formed 2 (front g) = place_formed 2 (front g) (accepted 2 φ (front g) o).form in
    edge_form g.low g.masks t.low_length t.masks_length t.masks_chain

-- ---- two facets of a simplex

module _ {A : Type 0} where
  -- a list of three or more without its first element has a member that the list without some one element has
  common_later : (a b c : A) (l : List A) (k : ℕ) → (d : A) × (d ∈ (b ∷ c ∷ l)) × (d ∈ remove k (a ∷ b ∷ c ∷ l))
  unfolding remove
  common_later a b c l zero = (b, Memᴰ.head refl, Memᴰ.head refl)
  common_later a b c l (suc zero) = (c, Memᴰ.tail (Memᴰ.head refl), Memᴰ.tail (Memᴰ.head refl))
  common_later a b c l (suc (suc k)) = (b, Memᴰ.head refl, Memᴰ.tail (Memᴰ.head refl))

  -- a list of three or more without one element and the same list without one element have a common member
  common_member : (l : List A) (i k : ℕ) → 3 ≤ length l → (a : A) × (a ∈ remove i l) × (a ∈ remove k l)
  unfolding remove
  common_member [] i k h = absurd (omega arith)
  common_member (a ∷ []) i k h = absurd (omega arith)
  common_member (a ∷ b ∷ []) i k h = absurd (omega arith)
  common_member (a ∷ b ∷ c ∷ l) zero k h = common_later a b c l k
  common_member (a ∷ b ∷ c ∷ l) (suc i) zero h = let w = common_later a b c l (suc i) in (w.0, w.2, w.1)
  common_member (a ∷ b ∷ c ∷ l) (suc i) (suc k) h = (a, Memᴰ.head refl, Memᴰ.head refl)

-- two facets that share a triangle share a vertex
pub shared_vertex : {φ : Field} {g h : Facet} → Shares 2 φ g h → (v : Vertex) × (v ∈ facet_vertices g) × (v ∈ facet_vertices h)
shared_vertex {φ} {g} {h} s =
    let w = common_member (vertices s.corner s.order) s.first.out s.second.out long in (
      w.0,
      subst (λ (l : List Vertex). w.0 ∈ l) (sym (without_one g s.first)) w.1,
      subst (λ (l : List Vertex). w.0 ∈ l) (sym (without_one h s.second)) w.2,
    )
  where
    long : 3 ≤ length (vertices s.corner s.order)
    long = omega (arith, length_vertices s.corner s.order, order_length 2 s.order s.simplex.order_ok)

    without_one : (d : Facet) (t : IsFacetOf 2 s.corner s.order d) → facet_vertices d ≡ remove t.out (vertices s.corner s.order)
    without_one d t = ap facet_vertices t.same ∙ facet_vertices_lem 2 s.corner s.order t.out s.simplex.order_ok (omega arith)

-- ---- inside a loop

module _ {φ : Field} {high : ℤ} {f : Facet} {loop : List Facet} (ends : EndsAt φ high) (l : IsLoop φ f loop) where
  -- a facet that is not joined does not stand in the list
  not_among : (g : Facet) → ¬ Joined 2 φ f g → (b : Bool) → among loop g ≡ b → among loop g ≡ false
  not_among g n true e = absurd (n (loop_joined l g e))
  not_among g n false e = e

  -- a vertex of an edge that is not one of the loop is inside exactly if the lowest vertex of that edge is
  edge_low_kind : (m : ℕ) (x y : ℤ) → m < 4 → ¬ (m ≡ 0) → ¬ Joined 2 φ f (edge m x y)
      → (v : Vertex) → v ∈ facet_vertices (edge m x y) → inside high loop v ≡ inside high loop (x ∷ y ∷ [])
  unfolding facet_vertices
  edge_low_kind m x y u z n v i =
      ⊎_elim (λ e. ap (inside high loop) e)
      (λ j.
      ap (inside high loop) (Memᴰ.eq_of_singleton j)
      ∙ sym (edge_off (loop_boundary ends l) m x y u z (not_among (edge m x y) n _ refl)))
      (Memᴰ.cases_cons i)

  -- the same of a facet on a seam
  facet_low_kind : (g : Facet) → OnSeam 2 φ g → ¬ Joined 2 φ f g
      → (v : Vertex) → v ∈ facet_vertices g → inside high loop v ≡ inside high loop g.low
  facet_low_kind g o =
      let t : IsEdge g = seam_edge φ g o in
      subst
      (λ (d : Facet). ¬ Joined 2 φ f d → (v : Vertex) → v ∈ facet_vertices d → inside high loop v ≡ inside high loop d.low)
      (sym t.is) (edge_low_kind t.mask t.x t.y t.mask_under t.mask_some)

  -- the same of all facets of a curve and the lowest vertex of one
  curve_low_kind : (k : Facet) → OnSeam 2 φ k → ¬ Joined 2 φ f k
      → {g : Facet} → Joined 2 φ k g → (v : Vertex) → v ∈ facet_vertices g → inside high loop v ≡ inside high loop k.low
  curve_low_kind k o n itself v i = facet_low_kind k o n v i
  curve_low_kind k o n (onward {g = g} {h = h} j s) v i =
      let w = shared_vertex s in
      let q : Joined 2 φ k h = onward j s in
      let on : OnSeam 2 φ h = joined_on 2 φ (omega arith) k h o q in
      let off : ¬ Joined 2 φ f h = λ r. n (joined_trans r (joined_sym q)) in
      facet_low_kind h on off v i ∙ sym (facet_low_kind h on off w.0 w.2) ∙ curve_low_kind k o n j w.0 w.1

-- all vertices of all facets of a curve that is not the loop are inside the loop, or none is
pub inside_steady : {φ : Field} {high : ℤ} {f : Facet} {loop : List Facet} → EndsAt φ high → IsLoop φ f loop
    → (k : Facet) → OnSeam 2 φ k → ¬ Joined 2 φ f k
    → (g h : Facet) → Joined 2 φ k g → Joined 2 φ k h
    → (v w : Vertex) → v ∈ facet_vertices g → w ∈ facet_vertices h → inside high loop v ≡ inside high loop w
inside_steady ends l k o n g h p q v w i j = curve_low_kind ends l k o n p v i ∙ sym (curve_low_kind ends l k o n q w j)
