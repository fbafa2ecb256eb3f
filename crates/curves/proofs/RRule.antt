-- The R rule of document 002, section 5, is no rule of this grid. Between the two ends of the order it is the P rule. At either
-- end, in every dimension from 2 on, its vertex is not the P rule's, and the simplex that it gives is none of the grid.
-- The idea: of two vertices of a simplex in the grid one is at least the other on every axis. At the first end the R rule's vertex
-- is above s_n on the first axis and below it on the second; at the last end it is below s_0 on the last axis and above it on the
-- first.
use Prim.Native.Nat.{ℕ, suc, zero, ◌-◌, ◌<◌, ◌≤◌}
use mathlib.Core.Path.{◌≡◌, refl, sym, ap, ◌∙◌, subst}
use mathlib.Core.Bool.{true}
use mathlib.Core.Logic.{◌⊎◌, ⊎_elim}
use mathlib.Core.List.Memᴰ
use mathlib.Core.List.{List, [], ◌∷◌, ◌++◌}
use native.Mathlib.Omega.{arith}
use lib.ListN.{length, get_or-append}
use lib.Seq.{get_or_at}
use borrow.Author.Tests.{eq-eqb, ne_eqb}
use Rattle.curves.specs.Grid.{Vertex, Incidence, up, down, vertices, absent, under, is_order, last_axis, but_last, pivot}
use Rattle.curves.specs.Curve.{◌∈◌}
use Rattle.curves.specs.Reflection.{reflected_p, reflected_r, replaced, vertices_of}
use Rattle.curves.proofs.OrderTests.{order_length, order_under, under_head, under_tail, order_distinct, order_snoc, distinct_head, absent_head, length_snoc}
use Rattle.curves.proofs.Vertices.{length_up, length_vertices}
use Rattle.curves.proofs.IncidenceOf.{Valid}
use Rattle.curves.proofs.Pivot.{snoc_last}
use Rattle.curves.proofs.VerticesChain.{at, up_at, up_other, down_at, down_other, ups_other, ups_more, one_more, one_less, apart, corner_listed, top_listed}
use Rattle.curves.proofs.PRule.{ups, length_ups, vertices_corner, vertices_top, vertices_snoc, behind_corner, remove_last, sum_up, sum_down, reflected_inner, p_rule}

-- ---- what is stated

-- all of these are vertices of the simplex with a corner and an order
abbrev pub AllOf : List Vertex → Vertex → List ℕ → Type 0
AllOf vs c o = (v : Vertex) → v ∈ vs → v ∈ vertices c o

-- the vertices that the R rule gives where s_i goes
unfoldable pub given_by_r : ℕ → List Vertex → ℕ → List Vertex
given_by_r n s i = replaced n s i (reflected_r n s i)

-- they are the vertices of no simplex of the grid: whatever the corner and the axes, not all of them are among its vertices
abbrev pub OutsideGrid : List Vertex → Type 0
OutsideGrid vs = (c : Vertex) (o : List ℕ) → ¬ AllOf vs c o

-- the vertex left out is the first or the last
abbrev pub AtEnd : ℕ → ℕ → Type 0
AtEnd n i = (i ≡ 0) ⊎ (i ≡ n)

-- ---- the first end: 2·s_1 − s_0 beside s_n

r_first : (n : ℕ) (c : Vertex) (a : ℕ) (o : List ℕ) → reflected_r n (vertices c (a ∷ o)) 0 ≡ up a (up a c)
unfolding reflected_r vertices
r_first n c a o = rw (vertices_corner (up a c) o) (sum_up a (up a c) c (length_up a c))

first_given : (n : ℕ) (c : Vertex) (a : ℕ) (o : List ℕ) → given_by_r n (vertices c (a ∷ o)) 0 ≡ vertices (up a c) o ++ (up a (up a c) ∷ [])
unfolding given_by_r replaced
first_given n c a o = rw (r_first n c a o, behind_corner c a o)

first_outside : (n : ℕ) (c : Vertex) (o : List ℕ) → 2 ≤ n → is_order n o ≡ true → length c ≡ n → OutsideGrid (given_by_r n (vertices c o) 0)
first_outside n c [] h e l d p all = absurd (omega (arith, order_length n [] e))
first_outside n c (a ∷ []) h e l d p all = absurd (omega (arith, order_length n (a ∷ []) e))
first_outside n c (a ∷ b ∷ o) h e l d p all =
    let v : Vertex = up a c in
    let given : AllOf (vertices v (b ∷ o) ++ (up a v ∷ [])) d p = rw first_given at all in
    let out : absent a (b ∷ o) ≡ true = distinct_head a (b ∷ o) (order_distinct n (a ∷ b ∷ o) e) in
    let u : under n (a ∷ b ∷ o) ≡ true = order_under n (a ∷ b ∷ o) e in
    let s : length v ≡ n = length_up a c ∙ l in
    apart (ups (b ∷ o) v) (up a v) a b
    (rw (ups_other (b ∷ o) a v out, up_at a v (omega (arith, under_head n a (b ∷ o) u))) (one_more (at v a)))
    (rw (up_other a b v (absent_head a b o out)) (ups_more b o v (omega (arith, under_head n b o (under_tail n a (b ∷ o) u)))))
    d p
    (given (ups (b ∷ o) v) (Memᴰ.append_left (up a v ∷ []) (top_listed v (b ∷ o))))
    (given (up a v) (Memᴰ.append_right (vertices v (b ∷ o)) (Memᴰ.head refl)))

-- ---- the last end: 2·s_(n−1) − s_n beside s_0

r_last : (c : Vertex) (a : ℕ) (o : List ℕ) → reflected_r (suc (length o)) (vertices c (o ++ (a ∷ []))) (suc (length o)) ≡ down a (ups o c)
unfolding reflected_r
r_last c a o =
    let top : List Vertex = up a (ups o c) ∷ [] in
    let l : length (vertices c o) ≡ suc (length o) = length_vertices c o in
    let back : suc (length o) - 1 ≡ length o = omega arith in
    rw (eq-eqb (suc (length o)) (suc (length o)) refl, back, vertices_snoc c a o, get_or-append (vertices c o) top [] (length o) (omega arith), get_or_at (vertices c o) (up a (ups o c)) [] [] (suc (length o)) l, vertices_top c o)
    (sum_down a (ups o c) (ups o c) refl)

last_given : (c : Vertex) (a : ℕ) (o : List ℕ) →
    given_by_r (suc (length o)) (vertices c (o ++ (a ∷ []))) (suc (length o)) ≡ down a (ups o c) ∷ vertices c o
unfolding given_by_r replaced
last_given c a o =
    rw (r_last c a o, eq-eqb (suc (length o)) (suc (length o)) refl, vertices_snoc c a o, remove_last (vertices c o) (up a (ups o c)) (suc (length o)) (length_vertices c o))

last_axis_outside : (c : Vertex) (a : ℕ) (o : List ℕ) → 0 < length o → is_order (suc (length o)) (a ∷ o) ≡ true → length c ≡ suc (length o) →
    OutsideGrid (given_by_r (suc (length o)) (vertices c (o ++ (a ∷ []))) (suc (length o)))
last_axis_outside c a [] h e l d p all = absurd (omega arith)
last_axis_outside c a (b ∷ o) h e l d p all =
    let n : ℕ = suc (length (b ∷ o)) in
    let v : Vertex = ups (b ∷ o) c in
    let given : AllOf (down a v ∷ vertices c (b ∷ o)) d p = rw last_given at all in
    let out : absent a (b ∷ o) ≡ true = distinct_head a (b ∷ o) (order_distinct n (a ∷ b ∷ o) e) in
    let u : under n (a ∷ b ∷ o) ≡ true = order_under n (a ∷ b ∷ o) e in
    let s : length v ≡ n = length_ups (b ∷ o) c ∙ l in
    apart (down a v) c a b
    (rw (down_at a v (omega (arith, under_head n a (b ∷ o) u)), ups_other (b ∷ o) a c out) (one_less (at c a)))
    (rw (down_other a b v (absent_head a b o out)) (ups_more b o c (omega (arith, under_head n b o (under_tail n a (b ∷ o) u)))))
    d p
    (given (down a v) (Memᴰ.head refl))
    (given c (Memᴰ.tail (corner_listed c (b ∷ o))))

last_outside : (n : ℕ) (c : Vertex) (o : List ℕ) → 2 ≤ n → is_order n o ≡ true → length c ≡ n → OutsideGrid (given_by_r n (vertices c o) n)
last_outside n c o h e l =
    let p : List ℕ = but_last o in
    let a : ℕ = last_axis o in
    let s : p ++ (a ∷ []) ≡ o = snoc_last o (omega (arith, order_length n o e)) in
    let k : suc (length p) ≡ n = sym (length_snoc a p) ∙ ap length s ∙ order_length n o e in
    let f : is_order n (a ∷ p) ≡ true = sym (order_snoc n a p) ∙ ap (is_order n) s ∙ e in
    subst (λ x. OutsideGrid (given_by_r n (vertices c x) n)) s
    (subst (λ m. OutsideGrid (given_by_r m (vertices c (p ++ (a ∷ []))) m)) k
    (last_axis_outside c a p (omega arith) (subst (λ m. is_order m (a ∷ p) ≡ true) (sym k) f) (l ∙ sym k)))

-- ---- the theorem

-- between the two ends the R rule is the P rule
pub r_rule_inner : (n : ℕ) (t : Incidence) → Valid n t → 0 < t.out → t.out < n → reflected_r n (vertices_of t) t.out ≡ reflected_p (vertices_of t) t.out
unfolding reflected_r vertices_of
r_rule_inner n t v h k = inner t.out h k
  where
    inner : (i : ℕ) → 0 < i → i < n → reflected_r n (vertices t.corner t.order) i ≡ reflected_p (vertices t.corner t.order) i
    inner zero h k = absurd (omega arith)
    inner (suc i) h k =
        let s : List Vertex = vertices t.corner t.order in
        let l : length s ≡ suc n = length_vertices t.corner t.order ∙ ap suc (order_length n t.order v.order_is) in
        rw (ne_eqb (suc i) n (omega arith), reflected_inner s i (omega arith))

module _ (n : ℕ) (t : Incidence) (large : 2 ≤ n) (v : Valid n t) (end : AtEnd n t.out) where
  -- at either end the vertices that the R rule gives are those of no simplex of the grid ..
  pub r_rule_outside : OutsideGrid (given_by_r n (vertices_of t) t.out)
  unfolding vertices_of
  r_rule_outside = ⊎_elim first last end
    where
      s : List Vertex
      s = vertices t.corner t.order

      first : t.out ≡ 0 → OutsideGrid (given_by_r n s t.out)
      first e = rw e (first_outside n t.corner t.order large v.order_is v.corner_length)

      last : t.out ≡ n → OutsideGrid (given_by_r n s t.out)
      last e = rw e (last_outside n t.corner t.order large v.order_is v.corner_length)

  -- .. so that its vertex is not the P rule's, which with the others is the simplex on the other side
  pub r_rule_not_p_rule : ¬ (reflected_r n (vertices_of t) t.out ≡ reflected_p (vertices_of t) t.out)
  unfolding given_by_r vertices_of
  r_rule_not_p_rule e =
      let same : vertices_of (pivot t) ≡ replaced n (vertices_of t) t.out (reflected_r n (vertices_of t) t.out) =
      p_rule n t (omega arith) v ∙ ap (replaced n (vertices_of t) t.out) (sym e)
      in
      r_rule_outside (pivot t).corner (pivot t).order (λ w m. subst (λ (vs : List Vertex). w ∈ vs) (sym same) m)
