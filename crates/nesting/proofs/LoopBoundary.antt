-- In dimension 2 each triangle, in the box or out of it, has no edge of a loop or two of them, and no edge of a loop begins at or behind the high
-- end of axis 1.
use Prim.Native.Nat.{ℕ, suc, zero, ◌≤◌}
use native.Mathlib.Omega.{arith}
use mathlib.Core.Path.{◌≡◌, refl, sym, ap, ◌∙◌}
use mathlib.Core.Bool.{Bool, true, false, ◌&&◌, ◌||◌, false≢true}
use mathlib.Core.Logic.{⊎_elim}
use mathlib.Core.List.Memᴰ
use mathlib.Core.List.{List, [], ◌∷◌}
use lib.IntN.{ℤ}
use lib.Signed.{le_z, ◌≤ℤ◌, ◌<ℤ◌}
use Rattle.exact.specs.Int.{◌⊕◌, 1ℤ}
use Rattle.exact.specs.Crossed.{remove}
use Rattle.exact.specs.Simplex.{OnlyOther}
use Rattle.exact.proofs.AndTests.{and_left, and_right}
use Rattle.exact.proofs.Linear.{split, linear}
use Rattle.curves.specs.Grid.{Vertex, Facet, Incidence, up, vertices, absent, distinct, under, is_order, masks_from, same_facet, place_at, place_of}
use Rattle.curves.specs.Curve.{◌∈◌}
use Rattle.curves.specs.Step.{Field, every, readable_all}
use Rattle.curves.specs.Joined.{Joined}
use Rattle.curves.proofs.SameFacet.{same_facet_sound, same_facet_complete}
use Rattle.curves.proofs.IncidenceOf.{Valid}
use Rattle.curves.proofs.GridStep.{AllReadable, without}
use Rattle.seamlist.proofs.FacetOrder.{less_not_le}
use Rattle.nesting.specs.Inside.{among}
use Rattle.nesting.specs.Loops.{IsLoop, EndsAt}
use Rattle.nesting.proofs.LoopSimplex.{curve_readable, curve_only_other}
use Rattle.nesting.proofs.Strip.{differ, Boundary}

-- ---- listed facets

-- one of two tests holds if the second does
or_right : (a : Bool) {b : Bool} → b ≡ true → (a || b) ≡ true
or_right true e = refl
or_right false e = e

-- the test `among` holds of the members of the list ..
pub among_listed : (l : List Facet) (f : Facet) → f ∈ l → among l f ≡ true
unfolding among
among_listed [] f i = absurd (Memᴰ.not-nil i)
among_listed (g ∷ l) f i =
    ⊎_elim (λ e. ap (λ (b : Bool). b || among l f) (same_facet_complete g f (sym e))) (λ j. or_right (same_facet g f) (among_listed l f j))
    (Memᴰ.cases_cons i)

-- .. and of no others
pub among_member : (l : List Facet) (f : Facet) → among l f ≡ true → f ∈ l
unfolding among
among_member [] f e = absurd (false≢true e)
among_member (g ∷ l) f e = go (same_facet g f) refl e (among_member l f)
  where
    go : (b : Bool) → same_facet g f ≡ b → (b || among l f) ≡ true → (among l f ≡ true → f ∈ l) → f ∈ (g ∷ l)
    go true h k rest = Memᴰ.head (sym (same_facet_sound g f h))
    go false h k rest = Memᴰ.tail (rest k)

-- ---- three tests

-- what holds of 0, 1 and 2 holds of each number up to 2
each_three : (P : ℕ → Type 0) → P 0 → P 1 → P 2 → (i : ℕ) → i ≤ 2 → P i
each_three P a b c zero l = a
each_three P a b c (suc zero) l = b
each_three P a b c (suc (suc zero)) l = c
each_three P a b c (suc (suc (suc i))) l = absurd (omega arith)

-- if with each of three tests that holds exactly one other does, then an even number of them holds
even_three : (t : ℕ → Bool) → ((i : ℕ) → i ≤ 2 → t i ≡ true → (k : ℕ) × OnlyOther 2 (λ j. t j ≡ true) i k)
    → t 1 ≡ differ (t 2) (t 0)
unfolding differ
even_three t pair = go (t 0) (t 1) (t 2) refl refl refl
  where
    lone : (i : ℕ) → i ≤ 2 → t i ≡ true → ((j : ℕ) → j ≤ 2 → ¬ (i ≡ j) → t j ≡ false) → ⊥
    lone i l e none =
        let w = pair i l e in
        false≢true (sym (none w.0 w.1.low w.1.other) ∙ w.1.crosses)

    go : (a b c : Bool) → t 0 ≡ a → t 1 ≡ b → t 2 ≡ c → b ≡ differ c a
    go false false false d e f = refl
    go false true true d e f = refl
    go true false true d e f = refl
    go true true false d e f = refl
    go true false false d e f =
        absurd (lone 0 (omega arith) d (each_three (λ j. ¬ (0 ≡ j) → t j ≡ false) (λ n. absurd (n refl)) (λ n. e) (λ n. f)))
    go false true false d e f =
        absurd (lone 1 (omega arith) e (each_three (λ j. ¬ (1 ≡ j) → t j ≡ false) (λ n. d) (λ n. absurd (n refl)) (λ n. f)))
    go false false true d e f =
        absurd (lone 2 (omega arith) f (each_three (λ j. ¬ (2 ≡ j) → t j ≡ false) (λ n. d) (λ n. e) (λ n. absurd (n refl))))
    go true true true d e f =
        let w = pair 0 (omega arith) d in
        let one : 1 ≡ w.0 = w.1.only 1 (omega arith) (λ h. omega arith) e in
        let two : 2 ≡ w.0 = w.1.only 2 (omega arith) (λ h. omega arith) f in
        absurd (let bad : ⊥ = omega arith in bad)

-- ---- the triangles of the plane

-- the triangle under the slant edge from (x, y), and the one above it
abbrev under_slant : ℤ → ℤ → Incidence
under_slant x y = record { corner = x ∷ y ∷ []; order = 0 ∷ 1 ∷ []; out = 0 }

abbrev above_slant : ℤ → ℤ → Incidence
above_slant x y = record { corner = x ∷ y ∷ []; order = 1 ∷ 0 ∷ []; out = 0 }

-- both are triangles
under_valid : (x y : ℤ) → Valid 2 (under_slant x y)
unfolding is_order under distinct absent
under_valid x y = record { order_is = refl; corner_length = refl; out_bound = omega arith }

above_valid : (x y : ℤ) → Valid 2 (above_slant x y)
unfolding is_order under distinct absent
above_valid x y = record { order_is = refl; corner_length = refl; out_bound = omega arith }

-- a number from the high end on, with 1 added, is behind it
behind_end : (h x : ℤ) → h ≤ℤ x → h <ℤ x ⊕ 1ℤ
behind_end h x = rw (split h, split x) (simp linear (omega arith))

module _ {φ : Field} {f : Facet} {loop : List Facet} (l : IsLoop φ f loop) where
  -- a facet of the list is joined ..
  pub loop_joined : (g : Facet) → among loop g ≡ true → Joined 2 φ f g
  loop_joined g e = l.only g (among_member loop g e)

  -- .. and the other way
  pub joined_loop : (g : Facet) → Joined 2 φ f g → among loop g ≡ true
  joined_loop g j = among_listed loop g (l.every g j)

  -- the edge of a triangle without vertex i stands in the list
  abbrev listed_at : Incidence → ℕ → Bool
  listed_at t i = among loop (place_of (without t i)).facet

  -- with each edge of a triangle that is one of the loop, exactly one other is
  triangle_pair : (t : Incidence) → Valid 2 t → (i : ℕ) → i ≤ 2 → listed_at t i ≡ true → (k : ℕ) × OnlyOther 2 (λ j. listed_at t j ≡ true) i k
  triangle_pair t v i m e =
      let o = curve_only_other 2 φ (omega arith) f l.on l.closes t v i m (loop_joined _ e) in (
        _,
        record {
          low = o.low;
          other = o.other;
          crosses = joined_loop _ o.crosses;
          only = λ r r≤ apart c. o.only r r≤ apart (loop_joined _ c);
        },
      )

  -- so an even number of its edges is of the loop
  triangle_even : (t : Incidence) → Valid 2 t → listed_at t 1 ≡ differ (listed_at t 2) (listed_at t 0)
  triangle_even t v = even_three (listed_at t) (triangle_pair t v)

  -- a triangle that is not readable has no edge of the loop
  triangle_none : (t : Incidence) → Valid 2 t → ¬ AllReadable φ t → (b : Bool) → listed_at t 2 ≡ b → listed_at t 2 ≡ false
  triangle_none t v bad false e = e
  triangle_none t v bad true e =
      absurd (bad (curve_readable 2 φ (omega arith) f l.on l.closes t v 2 (omega arith) (loop_joined _ e)))

-- a triangle that begins at or behind the high end is not readable
triangle_behind : (φ : Field) (high : ℤ) → EndsAt φ high → (x y : ℤ) (v : Vertex) → le_z high x ≡ true
    → ¬ (readable_all φ ((x ∷ y ∷ []) ∷ v ∷ ((x ⊕ 1ℤ) ∷ (y ⊕ 1ℤ) ∷ []) ∷ []) ≡ true)
unfolding readable_all every
triangle_behind φ high ends x y v e r =
    let a : Bool = φ.in_box (x ∷ y ∷ []) in
    let b : Bool = φ.in_box v in
    let c : Bool = φ.in_box ((x ⊕ 1ℤ) ∷ (y ⊕ 1ℤ) ∷ []) in
    let all : a && (b && (c && true)) ≡ true = and_left (a && (b && (c && true))) _ r in
    let far : c ≡ true = and_left c true (and_right b (c && true) (and_right a (b && (c && true)) all)) in
    false≢true (sym (less_not_le high (x ⊕ 1ℤ) (behind_end high x (record { le = rw e tt }))) ∙ ends (x ⊕ 1ℤ) (y ⊕ 1ℤ) far)

-- what the strips between rows need of the facets of a loop
pub loop_boundary : {φ : Field} {high : ℤ} {f : Facet} {loop : List Facet} → EndsAt φ high → IsLoop φ f loop → Boundary high loop
unfolding place_of place_at masks_from remove up vertices
loop_boundary {φ} {high} ends l = record {
  lower = λ x y. triangle_even l (under_slant x y) (under_valid x y);
  upper = λ x y. triangle_even l (above_slant x y) (above_valid x y);
  ends_along = λ x y e. triangle_none l (under_slant x y) (under_valid x y) (triangle_behind φ high ends x y _ e) _ refl;
  ends_across = λ x y e. triangle_none l (above_slant x y) (above_valid x y) (triangle_behind φ high ends x y _ e) _ refl;
}
