-- Inside a list of facets of which each triangle of the plane has an even number, and which has none at or behind the high end of axis 1: an
-- edge stands in the list exactly if one of its two vertices is inside and the other is not. No field is in it, and no curve.
use Prim.Native.Nat.{ℕ, zero, suc, ◌<◌}
use native.Mathlib.Omega.{arith}
use mathlib.Core.Path.{◌≡◌, refl, sym, ap, ap₂, ◌∙◌}
use mathlib.Core.Bool.{Bool, true, false, not, cond}
use mathlib.Core.List.{List, [], ◌∷◌, map}
use lib.IntN.{ℤ, pos, negsuc}
use lib.ListN.{length}
use lib.Signed.{le_z, ◌<ℤ◌}
use Rattle.exact.specs.Int.{◌⊕◌, ◌⊖◌, neg, 0ℤ, 1ℤ}
use Rattle.exact.specs.Crossed.{count_from}
use Rattle.exact.proofs.Ring.{add-zero}
use Rattle.exact.proofs.Linear.{split, linear}
use Rattle.exact.proofs.CountFrom.{map_count_from_ext, map_count_from_suc}
use Rattle.curves.specs.Grid.{Vertex, Facet, plus}
use Rattle.curves.specs.Box.{keep, counted, span, between}
use Rattle.seamlist.proofs.FacetOrder.{not_le_less}
use Rattle.nesting.specs.Inside.{edge_from, edges_passed, among, odd, inside}

-- ---- two Booleans that differ

-- one holds and the other does not
unfoldable pub differ : Bool → Bool → Bool
differ true b = not b
differ false b = b

-- none differs from itself
pub differ_self : (a : Bool) → differ a a ≡ false
unfolding differ
differ_self true = refl
differ_self false = refl

-- two that do not differ are equal
pub differ_equal : (a b : Bool) → differ a b ≡ false → a ≡ b
unfolding differ
differ_equal true true e = refl
differ_equal true false e = e
differ_equal false b e = sym e

-- `differ` is a sum: false is its zero, and order and brackets do not matter
differ_false : (a : Bool) → differ a false ≡ a
unfolding differ
differ_false true = refl
differ_false false = refl

differ_comm : (a b : Bool) → differ a b ≡ differ b a
unfolding differ
differ_comm true true = refl
differ_comm true false = refl
differ_comm false b = sym (differ_false b)

differ_assoc : (a b c : Bool) → differ (differ a b) c ≡ differ a (differ b c)
unfolding differ
differ_assoc true true true = refl
differ_assoc true true false = refl
differ_assoc true false c = refl
differ_assoc false b c = refl

differ_left : (a b c : Bool) → differ a (differ b c) ≡ differ b (differ a c)
differ_left a b c = sym (differ_assoc a b c) ∙ ap (λ (d : Bool). differ d c) (differ_comm a b) ∙ differ_assoc b a c

-- what is added twice is gone
differ_back : (a b : Bool) → differ (differ a b) b ≡ a
differ_back a b = differ_assoc a b b ∙ ap (differ a) (differ_self b) ∙ differ_false a

-- a difference by way of a third
differ_through : (a b c : Bool) → differ (differ a b) (differ b c) ≡ differ a c
unfolding differ
differ_through a b c =
    differ_assoc a b (differ b c) ∙ ap (differ a) (sym (differ_assoc b b c) ∙ ap (λ (d : Bool). differ d c) (differ_self b))

-- two triangles with the edge t in common, the other edges b, c of one and a, d of the other: what is known of c is known of a
two_triangles : (t a b c d p q : Bool) → t ≡ differ b c → t ≡ differ a d → c ≡ differ p q → a ≡ differ (differ b p) (differ d q)
two_triangles t a b c d p q e f h =
    sym (differ_back a d) ∙ ap (λ (z : Bool). differ z d) (sym f ∙ e ∙ ap (differ b) h) ∙ simp (differ_assoc, differ_comm, differ_left)

-- ---- the way to the high end

-- a number that is counted, and not as 0, is its count
counted_suc : (z : ℤ) (k : ℕ) → counted z ≡ suc k → z ≡ pos (suc k)
unfolding counted
counted_suc (pos a) k e = ap pos e
counted_suc (negsuc a) k e = absurd (omega arith)

-- a number above 0 is not counted as 0
counted_more : (z : ℤ) → 0ℤ <ℤ z → counted z ≡ 0 → ⊥
unfolding counted
counted_more (pos zero) h e = h.lt
counted_more (pos (suc a)) h e = omega arith
counted_more (negsuc a) h e = h.lt

-- the difference of a greater number and a less is above 0
less_room : (x y : ℤ) → x <ℤ y → 0ℤ <ℤ y ⊖ x
less_room x y = rw (split x, split y) (simp linear (omega arith))

-- no way is left at the high end and behind it
way_ends : (high x : ℤ) → counted (high ⊖ x) ≡ 0 → le_z high x ≡ true
way_ends high x e = go (le_z high x) refl
  where
    go : (b : Bool) → le_z high x ≡ b → le_z high x ≡ true
    go true h = h
    go false h = absurd (counted_more (high ⊖ x) (less_room x high (not_le_less x high h)) e)

-- the difference after one step
step_less : (x y : ℤ) (k : ℕ) → y ⊖ x ≡ pos (suc k) → y ⊖ (x ⊕ 1ℤ) ≡ pos k
step_less x y k = rw (split x, split y) (simp linear (omega arith))

-- after one step the way is shorter by 1
way_next : (high x : ℤ) (k : ℕ) → counted (high ⊖ x) ≡ suc k → counted (high ⊖ (x ⊕ 1ℤ)) ≡ k
unfolding counted
way_next high x k e = ap counted (step_less x high k (counted_suc (high ⊖ x) k e))

-- a number with no count has none with 1 taken off
counted_less : (z : ℤ) → counted z ≡ 0 → counted (z ⊖ 1ℤ) ≡ 0
unfolding counted ◌⊖◌ ◌⊕◌ neg
counted_less (pos zero) e = refl
counted_less (pos (suc a)) e = absurd (omega arith)
counted_less (negsuc a) e = refl

-- a step takes 1 off the difference
one_off : (x y : ℤ) → y ⊖ (x ⊕ 1ℤ) ≡ y ⊖ x ⊖ 1ℤ
one_off x y = rw (split x, split y) (simp linear (omega arith))

-- if none is left, none is after one step
way_over : (high x : ℤ) → counted (high ⊖ x) ≡ 0 → counted (high ⊖ (x ⊕ 1ℤ)) ≡ 0
way_over high x e = ap counted (one_off x high) ∙ counted_less (high ⊖ x) e

-- ---- the numbers from x to the high end less 1

-- the number of numbers is the length of the way
one_less : (x y : ℤ) → y ⊖ 1ℤ ⊕ 1ℤ ⊖ x ≡ y ⊖ x
one_less x y = rw (split x, split y) (simp linear (omega arith))

span_way : (high x : ℤ) → span x (high ⊖ 1ℤ) ≡ counted (high ⊖ x)
unfolding span
span_way high x = ap counted (one_less x high)

-- a sum from the next number on
one_after : (x : ℤ) (k : ℕ) → x ⊕ pos (suc k) ≡ x ⊕ 1ℤ ⊕ pos k
one_after x k = rw (split x) (simp linear (omega arith))

-- there is none at or behind the high end
between_ends : (high x : ℤ) → counted (high ⊖ x) ≡ 0 → between x (high ⊖ 1ℤ) ≡ []
unfolding between count_from
between_ends high x e = ap (λ (k : ℕ). map (λ i. x ⊕ pos i) (count_from 0 k)) (span_way high x ∙ e)

-- before it x comes first
between_next : (high x : ℤ) (k : ℕ) → counted (high ⊖ x) ≡ suc k → between x (high ⊖ 1ℤ) ≡ x ∷ between (x ⊕ 1ℤ) (high ⊖ 1ℤ)
unfolding between count_from
between_next high x k e =
    ap (λ (m : ℕ). map (λ i. x ⊕ pos i) (count_from 0 m)) (span_way high x ∙ e)
    ∙ ap₂ (λ (y : ℤ) (l : List ℤ). y ∷ l) (add-zero x)
    (map_count_from_suc (λ i. x ⊕ pos i) 0 k
    ∙ map_count_from_ext _ _ 0 k (λ i low up. one_after x i)
    ∙ ap (λ (m : ℕ). map (λ i. x ⊕ 1ℤ ⊕ pos i) (count_from 0 m)) (sym (span_way high (x ⊕ 1ℤ) ∙ way_next high x k e)))

-- ---- the number of edges passed

-- one more member changes the parity of those kept if it is kept
odd_keep : {A : Type 0} (t : A → Bool) (a : A) (l : List A) → odd (length (keep t (a ∷ l))) ≡ differ (t a) (odd (length (keep t l)))
unfolding keep odd differ
odd_keep t a l = go (t a)
  where
    go : (b : Bool) → odd (length (cond b (a ∷ keep t l) (keep t l))) ≡ differ b (odd (length (keep t l)))
    go true = refl
    go false = refl

-- the edge from (x, y) with a mask: 1 along axis 1, 2 along axis 2, 3 along both
abbrev pub edge : ℕ → ℤ → ℤ → Facet
edge m x y = record { low = x ∷ y ∷ []; masks = m ∷ [] }

module _ (high : ℤ) (loop : List Facet) where
  -- no vertex at or behind the high end is inside
  pub inside_ends : (x y : ℤ) (v : Vertex) → counted (high ⊖ x) ≡ 0 → inside high loop (x ∷ y ∷ v) ≡ false
  unfolding inside edges_passed keep odd
  inside_ends x y v e = ap (λ (l : List ℤ). odd (length (keep (among loop) (map (edge_from y) l)))) (between_ends high x e)

  -- before it the first edge and the rest decide
  pub inside_next : (x y : ℤ) (v : Vertex) (k : ℕ) → counted (high ⊖ x) ≡ suc k
      → inside high loop (x ∷ y ∷ v) ≡ differ (among loop (edge 1 x y)) (inside high loop ((x ⊕ 1ℤ) ∷ y ∷ v))
  unfolding inside edges_passed edge_from
  inside_next x y v k e =
      ap (λ (l : List ℤ). odd (length (keep (among loop) (map (edge_from y) l)))) (between_next high x k e)
      ∙ odd_keep (among loop) (edge_from y x) (map (edge_from y) (between (x ⊕ 1ℤ) (high ⊖ 1ℤ)))

-- ---- the strip between two rows

-- of the edges of each triangle an even number stands in the list, and none along an axis that begins at or behind the high end
pub record Boundary (high : ℤ) (loop : List Facet) : Type 0 where
  pub lower : (x y : ℤ) → among loop (edge 3 x y) ≡ differ (among loop (edge 1 x y)) (among loop (edge 2 (x ⊕ 1ℤ) y))
  pub upper : (x y : ℤ) → among loop (edge 3 x y) ≡ differ (among loop (edge 2 x y)) (among loop (edge 1 x (y ⊕ 1ℤ)))
  pub ends_along : (x y : ℤ) → le_z high x ≡ true → among loop (edge 1 x y) ≡ false
  pub ends_across : (x y : ℤ) → le_z high x ≡ true → among loop (edge 2 x y) ≡ false

module _ {high : ℤ} {loop : List Facet} (b : Boundary high loop) where
  -- the vertex (x, y) is inside
  abbrev pub inside_at : ℤ → ℤ → Bool
  inside_at x y = inside high loop (x ∷ y ∷ [])

  -- by induction on the way from x to the high end
  across_from : (k : ℕ) (x y : ℤ) → counted (high ⊖ x) ≡ k → among loop (edge 2 x y) ≡ differ (inside_at x y) (inside_at x (y ⊕ 1ℤ))
  across_from zero x y e =
      b.ends_across x y (way_ends high x e)
      ∙ sym (ap₂ differ (inside_ends high loop x y [] e) (inside_ends high loop x (y ⊕ 1ℤ) [] e) ∙ differ_self false)
  across_from (suc k) x y e =
      two_triangles _ _ _ _ _ (inside_at (x ⊕ 1ℤ) y) (inside_at (x ⊕ 1ℤ) (y ⊕ 1ℤ)) (b.lower x y) (b.upper x y)
      (across_from k (x ⊕ 1ℤ) y (way_next high x k e))
      ∙ sym (ap₂ differ (inside_next high loop x y [] k e) (inside_next high loop x (y ⊕ 1ℤ) [] k e))

  -- an edge along axis 2 stands in the list exactly if one of its vertices is inside and the other not
  pub edge_across : (x y : ℤ) → among loop (edge 2 x y) ≡ differ (inside_at x y) (inside_at x (y ⊕ 1ℤ))
  edge_across x y = across_from _ x y refl

  -- so does one along axis 1
  pub edge_along : (x y : ℤ) → among loop (edge 1 x y) ≡ differ (inside_at x y) (inside_at (x ⊕ 1ℤ) y)
  edge_along x y = go (counted (high ⊖ x)) refl
    where
      go : (k : ℕ) → counted (high ⊖ x) ≡ k → among loop (edge 1 x y) ≡ differ (inside_at x y) (inside_at (x ⊕ 1ℤ) y)
      go zero e =
          b.ends_along x y (way_ends high x e)
          ∙ sym (ap₂ differ (inside_ends high loop x y [] e) (inside_ends high loop (x ⊕ 1ℤ) y [] (way_over high x e)) ∙ differ_self false)
      go (suc k) e =
          sym (differ_back _ (inside_at (x ⊕ 1ℤ) y)) ∙ ap (λ (z : Bool). differ z (inside_at (x ⊕ 1ℤ) y)) (sym (inside_next high loop x y [] k e))

  -- and one along both
  pub edge_slant : (x y : ℤ) → among loop (edge 3 x y) ≡ differ (inside_at x y) (inside_at (x ⊕ 1ℤ) (y ⊕ 1ℤ))
  edge_slant x y =
      b.lower x y ∙ ap₂ differ (edge_along x y) (edge_across (x ⊕ 1ℤ) y)
      ∙ differ_through (inside_at x y) (inside_at (x ⊕ 1ℤ) y) (inside_at (x ⊕ 1ℤ) (y ⊕ 1ℤ))

  -- an edge that does not stand in the list joins two vertices of one kind: both are inside, or neither is
  pub edge_off : (m : ℕ) (x y : ℤ) → m < 4 → ¬ (m ≡ 0) → among loop (edge m x y) ≡ false
      → inside_at x y ≡ inside high loop (plus (x ∷ y ∷ []) m)
  unfolding plus
  edge_off zero x y l n e = absurd (n refl)
  edge_off (suc zero) x y l n e =
      differ_equal (inside_at x y) (inside_at (x ⊕ 1ℤ) y) (sym (edge_along x y) ∙ e) ∙ ap (λ (z : ℤ). inside_at (x ⊕ 1ℤ) z) (sym (add-zero y))
  edge_off (suc (suc zero)) x y l n e =
      differ_equal (inside_at x y) (inside_at x (y ⊕ 1ℤ)) (sym (edge_across x y) ∙ e) ∙ ap (λ (z : ℤ). inside_at z (y ⊕ 1ℤ)) (sym (add-zero x))
  edge_off (suc (suc (suc zero))) x y l n e = differ_equal (inside_at x y) (inside_at (x ⊕ 1ℤ) (y ⊕ 1ℤ)) (sym (edge_slant x y) ∙ e)
  edge_off (suc (suc (suc (suc m)))) x y l n e = absurd (omega arith)
