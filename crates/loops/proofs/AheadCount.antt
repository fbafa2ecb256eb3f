-- Inside by one walk along the loop: the edges passed that are facets of the loop are as many as the facets of the loop that are edges ahead in
-- the row. No facet stands twice in either list, and no edge of the loop leaves the box.
use Prim.Native.Nat.{ℕ, ◌≤◌}
use native.Mathlib.Omega.{arith}
use mathlib.Core.Path.{◌≡◌, refl, sym, ap, subst, ◌∙◌}
use mathlib.Core.Bool.{Bool, true, false, cond, ◌&&◌}
use mathlib.Core.List.Memᴰ
use mathlib.Core.List.{List, [], ◌∷◌, map}
use lib.IntN.{ℤ, pos}
use lib.ListN.{length}
use lib.Signed.{le_z}
use Rattle.exact.specs.Int.{◌⊕◌, ◌⊖◌, 1ℤ}
use Rattle.exact.proofs.AndTests.{and_left, and_right, and-true}
use Rattle.exact.proofs.Linear.{split, linear}
use Rattle.curves.specs.Grid.{Vertex, Facet, same_masks}
use Rattle.curves.specs.Curve.{◌∈◌, NoDup, none, more}
use Rattle.curves.specs.Box.{keep, between, span}
use Rattle.curves.proofs.Finite.{between_listed, between_member}
use Rattle.curves.proofs.Orders.{count_from_differ}
use Rattle.curves.proofs.Listed.{keep_member, keep_listed, keep_differ}
use Rattle.curves.proofs.SameFacet.{le_z_refl, le_z_antisym, facet_path, same_masks_sound, same_masks_refl}
use Rattle.curves.proofs.WalkLists.{no_dup_length}
use Rattle.nesting.proofs.LoopBoundary.{among_listed, among_member}
use Rattle.nesting.specs.Inside.{edge_from, edges_passed, among, odd, inside}
use Rattle.loops.specs.Past.{ahead_in_row, edge_ahead}

-- ---- two lists

-- the members of one list in another are as many as those of the other in the one
keep_both : {a b : List Facet} → NoDup a → NoDup b → length (keep (among b) a) ≡ length (keep (among a) b)
keep_both {a} {b} da db =
    let there : length (keep (among b) a) ≤ length (keep (among a) b) = no_dup_length (keep_differ (among b) da) (over a b) in
    let back : length (keep (among a) b) ≤ length (keep (among b) a) = no_dup_length (keep_differ (among a) db) (over b a) in
    omega (arith, there, back)
  where
    over : (a b : List Facet) (x : Facet) → x ∈ keep (among b) a → x ∈ keep (among a) b
    over a b x i =
        let m = keep_member (among b) a i in
        keep_listed (among a) b (among_member b x m.1) (among_listed a x m.0)

-- tests that agree on a list keep the same of it
keep_same : {A : Type 0} (t u : A → Bool) (l : List A) → ((x : A) → x ∈ l → t x ≡ u x) → keep t l ≡ keep u l
unfolding keep
keep_same t u [] h = refl
keep_same t u (x ∷ l) h =
    ap (λ b. cond b (x ∷ keep t l) (keep t l)) (h x (Memᴰ.head refl))
    ∙ ap (λ m. cond (u x) (x ∷ m) m) (keep_same t u l (λ y i. h y (Memᴰ.tail i)))

-- ---- no edge is passed twice

map_differ : {A B : Type 0} (f : A → B) → ((x y : A) → f x ≡ f y → x ≡ y) → {l : List A} → NoDup l → NoDup (map f l)
map_differ f inj none = none
map_differ f inj (more {x = x} {l = l} out rest) =
    more {x = f x} {l = map f l} (λ i. let w = Memᴰ.of_map f l i in out (Memᴰ.cast (sym (inj w.0 x w.2)) w.1)) (map_differ f inj rest)

add_injective : (x : ℤ) (k m : ℕ) → x ⊕ pos k ≡ x ⊕ pos m → k ≡ m
add_injective x k m = rw (split x) (simp linear (omega arith))

edge_injective : (y a b : ℤ) → edge_from y a ≡ edge_from y b → a ≡ b
unfolding edge_from
edge_injective y a b e = ap first (ap (λ (f : Facet). f.low) e)
  where
    first : Vertex → ℤ
    first [] = a
    first (x ∷ v) = x

passed_differ : (high x y : ℤ) → NoDup (edges_passed high (x ∷ y ∷ []))
unfolding edges_passed between
passed_differ high x y =
    map_differ (edge_from y) (edge_injective y) (map_differ (λ k. x ⊕ pos k) (add_injective x) (count_from_differ 0 (span x (high ⊖ 1ℤ))))

-- ---- the edges passed are the edges ahead in the row

-- a facet of the plane; if it is an edge along axis 1, that ends within the box
pub record Within (high : ℤ) (f : Facet) : Type 0 where
  pub x : ℤ
  pub y : ℤ
  pub low : f.low ≡ x ∷ y ∷ []
  pub ends : f.masks ≡ 1 ∷ [] → le_z x (high ⊖ 1ℤ) ≡ true

-- Booleans that are true together are equal
both_ways : (a b : Bool) → (a ≡ true → b ≡ true) → (b ≡ true → a ≡ true) → a ≡ b
both_ways true b there back = sym (there refl)
both_ways false true there back = back refl
both_ways false false there back = refl

module _ (high x y : ℤ) where
  ahead_edge : (e : ℤ) → le_z x e ≡ true → edge_ahead (x ∷ y ∷ []) (edge_from y e) ≡ true
  unfolding edge_ahead ahead_in_row edge_from
  ahead_edge e h = and-true (same_masks_refl (1 ∷ [])) (and-true h (and-true (le_z_refl y) (le_z_refl y)))

  passed_ahead : (f : Facet) → f ∈ edges_passed high (x ∷ y ∷ []) → edge_ahead (x ∷ y ∷ []) f ≡ true
  unfolding edges_passed
  passed_ahead f m =
      let w = Memᴰ.of_map (edge_from y) (between x (high ⊖ 1ℤ)) m in
      subst (λ g. edge_ahead (x ∷ y ∷ []) g ≡ true) w.2 (ahead_edge w.0 (between_member x (high ⊖ 1ℤ) w.1).0)

  ahead_passed : (f : Facet) → Within high f → edge_ahead (x ∷ y ∷ []) f ≡ true → f ∈ edges_passed high (x ∷ y ∷ [])
  unfolding edges_passed edge_ahead ahead_in_row edge_from
  ahead_passed f w e =
      let masks : f.masks ≡ 1 ∷ [] = same_masks_sound f.masks (1 ∷ []) (and_left _ (ahead_in_row (x ∷ y ∷ []) f.low) e) in
      let row : ahead_in_row (x ∷ y ∷ []) (w.x ∷ w.y ∷ []) ≡ true =
      subst (λ v. ahead_in_row (x ∷ y ∷ []) v ≡ true) w.low (and_right (same_masks f.masks (1 ∷ [])) _ e) in
      let same : le_z y w.y && le_z w.y y ≡ true = and_right (le_z x w.x) _ row in
      let is_y : y ≡ w.y = le_z_antisym y w.y (and_left _ (le_z w.y y) same) (and_right (le_z y w.y) _ same) in
      let is : edge_from y w.x ≡ f = facet_path _ f (ap (λ b. w.x ∷ b ∷ []) is_y ∙ sym w.low) (sym masks) in
      Memᴰ.cast (sym is)
      (Memᴰ.map (edge_from y) (between_listed x (high ⊖ 1ℤ) w.x (and_left _ (le_z y w.y && le_z w.y y) row) (w.ends masks)))

  same_test : (f : Facet) → Within high f → among (edges_passed high (x ∷ y ∷ [])) f ≡ edge_ahead (x ∷ y ∷ []) f
  same_test f w =
      both_ways _ _
      (λ e. passed_ahead f (among_member (edges_passed high (x ∷ y ∷ [])) f e))
      (λ e. among_listed (edges_passed high (x ∷ y ∷ [])) f (ahead_passed f w e))

  pub inside_by_walk : (loop : List Facet) → NoDup loop → ((f : Facet) → f ∈ loop → Within high f)
      → inside high loop (x ∷ y ∷ []) ≡ odd (length (keep (edge_ahead (x ∷ y ∷ [])) loop))
  unfolding inside
  inside_by_walk loop d w =
      ap odd
      (keep_both (passed_differ high x y) d
      ∙ ap length (keep_same (among (edges_passed high (x ∷ y ∷ []))) (edge_ahead (x ∷ y ∷ [])) loop (λ f i. same_test f (w f i))))
