-- The pivot is the P rule of document 002, section 5: with indices modulo n + 1, vertex s_i becomes s_(i−1) + s_(i+1) − s_i and the
-- others stay. Where 0 < i < n the new vertex stands in the place of the old one, for i = 0 it stands last, for i = n first.
use Prim.Native.Nat.{ℕ, suc, zero, ◌+◌, ◌-◌, ◌<◌, ◌≤◌}
use mathlib.Core.Path.{◌≡◌, refl, sym, ap, ◌∙◌}
use mathlib.Core.List.{List, [], ◌∷◌, ◌++◌}
use native.Mathlib.Omega.{arith}
use native.Mathlib.Nat.{mod-eq_of_lt, add-mod_right}
use lib.IntN.{ℤ}
use lib.ListN.{length, length-append, get_or, set, get_or-append}
use lib.Seq.{get_or_at}
use borrow.Author.Tests.{eq-eqb, ne_eqb}
use Rattle.exact.specs.Int.{◌⊕◌, ◌⊖◌, neg, 1ℤ}
use Rattle.exact.specs.Crossed.{remove}
use Rattle.exact.proofs.Ring.{add-zero, zero-add, add_neg, neg_sum, add_assoc, add_comm, sub_eq}
use Rattle.curves.specs.Grid.{Vertex, Incidence, up, down, vertices, exchange, pivot_at, pivot}
use Rattle.curves.specs.Reflection.{◌⊞◌, ◌⊟◌, vertex_at, cyclic, reflected_p, replaced, vertices_of}
use Rattle.curves.proofs.OrderTests.{length_snoc, order_length}
use Rattle.curves.proofs.Vertices.{up_down, length_up, length_vertices}
use Rattle.curves.proofs.IncidenceOf.{Valid}
use Rattle.curves.proofs.Pivot.{pivot_first_lem, pivot_last_lem, pivot_middle, pivot_cases}

-- ---- one up or down, as a sum and a difference
stay : (x y : ℤ) → (x ⊕ y) ⊖ y ≡ x
stay x y = rw (sub_eq, add_assoc, add_neg, add-zero)

stay_right : (x y : ℤ) → (x ⊕ y) ⊖ x ≡ y
stay_right x y = ap (λ z. z ⊖ x) (add_comm x y) ∙ stay y x

step_up : (x y : ℤ) → (x ⊕ (y ⊕ 1ℤ)) ⊖ y ≡ x ⊕ 1ℤ
step_up x y = rw (add_comm y 1ℤ, ← add_assoc x 1ℤ y) (stay (x ⊕ 1ℤ) y)

step_down : (x y : ℤ) → (x ⊕ y) ⊖ (x ⊕ 1ℤ) ≡ y ⊖ 1ℤ
step_down x y =
    rw (sub_eq (x ⊕ y) (x ⊕ 1ℤ), neg_sum x 1ℤ, add_comm x y, add_assoc y x (neg x ⊕ neg 1ℤ), ← add_assoc x (neg x) (neg 1ℤ), add_neg x, zero-add (neg 1ℤ), sub_eq y 1ℤ)

sum_stay : (v w : Vertex) → length v ≡ length w → (v ⊞ w) ⊟ w ≡ v
unfolding ◌⊞◌ ◌⊟◌
sum_stay [] w h = refl
sum_stay (x ∷ v) [] h = absurd (omega arith)
sum_stay (x ∷ v) (y ∷ w) h = rw (stay x y, sum_stay v w (omega arith))

sum_stay_right : (v w : Vertex) → length v ≡ length w → (v ⊞ w) ⊟ v ≡ w
unfolding ◌⊞◌ ◌⊟◌
sum_stay_right [] [] h = refl
sum_stay_right [] (y ∷ w) h = absurd (omega arith)
sum_stay_right (x ∷ v) [] h = absurd (omega arith)
sum_stay_right (x ∷ v) (y ∷ w) h = rw (stay_right x y, sum_stay_right v w (omega arith))

pub sum_up : (a : ℕ) (v w : Vertex) → length v ≡ length w → (v ⊞ up a w) ⊟ w ≡ up a v
unfolding ◌⊞◌ ◌⊟◌ up
sum_up a [] w h = refl
sum_up a (x ∷ v) [] h = absurd (omega arith)
sum_up zero (x ∷ v) (y ∷ w) h = rw (step_up x y, sum_stay v w (omega arith))
sum_up (suc a) (x ∷ v) (y ∷ w) h = rw (stay x y, sum_up a v w (omega arith))

pub sum_down : (a : ℕ) (v w : Vertex) → length v ≡ length w → (v ⊞ w) ⊟ up a v ≡ down a w
unfolding ◌⊞◌ ◌⊟◌ up down
sum_down a [] [] h = refl
sum_down a [] (y ∷ w) h = absurd (omega arith)
sum_down a (x ∷ v) [] h = absurd (omega arith)
sum_down zero (x ∷ v) (y ∷ w) h = rw (step_down x y, sum_stay_right v w (omega arith))
sum_down (suc a) (x ∷ v) (y ∷ w) h = rw (stay_right x y, sum_down a v w (omega arith))

-- ---- vertices by their index
cyclic_in : (s : List Vertex) (k : ℕ) → k < length s → cyclic s k ≡ get_or s k []
unfolding cyclic
cyclic_in s k h = rw (mod-eq_of_lt h)

cyclic_around : (s : List Vertex) (k : ℕ) → k < length s → cyclic s (k + length s) ≡ get_or s k []
unfolding cyclic
cyclic_around s k h = rw (add-mod_right, mod-eq_of_lt h)

-- the rule with plain indices
module _ (s : List Vertex) where
  reflected_by : (i : ℕ) (u v w : Vertex) → cyclic s (i + length s - 1) ≡ u → cyclic s (i + 1) ≡ v → cyclic s i ≡ w → reflected_p s i ≡ (u ⊞ v) ⊟ w
  unfolding reflected_p
  reflected_by i u v w before behind here = cc

  reflected_first : (k : ℕ) → length s ≡ suc (suc k) → reflected_p s 0 ≡ (vertex_at s (suc k) ⊞ vertex_at s 1) ⊟ vertex_at s 0
  reflected_first k l =
      let back : 0 + length s - 1 ≡ suc k = omega arith in
      reflected_by 0 (vertex_at s (suc k)) (vertex_at s 1) (vertex_at s 0) (ap (cyclic s) back ∙ cyclic_in s (suc k) (omega arith))
      (cyclic_in s 1 (omega arith)) (cyclic_in s 0 (omega arith))

  reflected_last : (k : ℕ) → length s ≡ suc (suc k) → reflected_p s (suc k) ≡ (vertex_at s k ⊞ vertex_at s 0) ⊟ vertex_at s (suc k)
  reflected_last k l =
      let back : suc k + length s - 1 ≡ k + length s = omega arith in
      let next : suc k + 1 ≡ 0 + length s = omega arith in
      reflected_by (suc k) (vertex_at s k) (vertex_at s 0) (vertex_at s (suc k)) (ap (cyclic s) back ∙ cyclic_around s k (omega arith))
      (ap (cyclic s) next ∙ cyclic_around s 0 (omega arith)) (cyclic_in s (suc k) (omega arith))

  pub reflected_inner : (i : ℕ) → suc (suc i) < length s → reflected_p s (suc i) ≡ (vertex_at s i ⊞ vertex_at s (suc (suc i))) ⊟ vertex_at s (suc i)
  reflected_inner i h =
      let back : suc i + length s - 1 ≡ i + length s = omega arith in
      let next : suc i + 1 ≡ suc (suc i) = omega arith in
      reflected_by (suc i) (vertex_at s i) (vertex_at s (suc (suc i))) (vertex_at s (suc i))
      (ap (cyclic s) back ∙ cyclic_around s i (omega arith)) (ap (cyclic s) next ∙ cyclic_in s (suc (suc i)) h) (cyclic_in s (suc i) (omega arith))

-- the last vertex: 1 added on each axis of a list
unfoldable pub ups : List ℕ → Vertex → Vertex
ups [] v = v
ups (a ∷ o) v = ups o (up a v)

pub length_ups : (o : List ℕ) (v : Vertex) → length (ups o v) ≡ length v
unfolding ups
length_ups [] v = refl
length_ups (a ∷ o) v = length_ups o (up a v) ∙ length_up a v

pub vertices_corner : (c : Vertex) (o : List ℕ) → get_or (vertices c o) 0 [] ≡ c
unfolding vertices
vertices_corner c [] = refl
vertices_corner c (a ∷ o) = refl

pub vertices_top : (c : Vertex) (o : List ℕ) → get_or (vertices c o) (length o) [] ≡ ups o c
unfolding vertices ups
vertices_top c [] = refl
vertices_top c (a ∷ o) = vertices_top (up a c) o

pub vertices_snoc : (c : Vertex) (a : ℕ) (o : List ℕ) → vertices c (o ++ (a ∷ [])) ≡ vertices c o ++ (up a (ups o c) ∷ [])
unfolding vertices ups
vertices_snoc c a [] = refl
vertices_snoc c a (b ∷ o) = ap (λ l. c ∷ l) (vertices_snoc (up b c) a o)

pub behind_corner : (c : Vertex) (a : ℕ) (o : List ℕ) → remove 0 (vertices c (a ∷ o)) ≡ vertices (up a c) o
unfolding vertices remove
behind_corner c a o = refl

pub remove_last : {A : Type 0} (xs : List A) (y : A) (k : ℕ) → length xs ≡ k → remove k (xs ++ (y ∷ [])) ≡ xs
unfolding remove
remove_last [] y zero h = refl
remove_last [] y (suc k) h = absurd (omega arith)
remove_last (x ∷ xs) y zero h = absurd (omega arith)
remove_last (x ∷ xs) y (suc k) h = ap (λ l. x ∷ l) (remove_last xs y k (omega arith))

up_up : (a b : ℕ) (v : Vertex) → up a (up b v) ≡ up b (up a v)
unfolding up
up_up a b [] = refl
up_up zero zero (x ∷ v) = refl
up_up zero (suc b) (x ∷ v) = refl
up_up (suc a) zero (x ∷ v) = refl
up_up (suc a) (suc b) (x ∷ v) = ap (λ w. x ∷ w) (up_up a b v)

-- ---- the three cases of the pivot

-- vertex 0: the new one stands last
rotated_first : (c : Vertex) (a : ℕ) (o : List ℕ) → reflected_p (vertices c (a ∷ o)) 0 ≡ up a (ups o (up a c))
unfolding vertices ups
rotated_first c a o =
    reflected_first (vertices c (a ∷ o)) (length o) (length_vertices c (a ∷ o)) ∙
    rw (vertices_top (up a c) o, vertices_corner (up a c) o) (sum_up a (ups o (up a c)) c (length_ups (a ∷ o) c))

p_rule_first : (c : Vertex) (a : ℕ) (o : List ℕ) →
    vertices (up a c) (o ++ (a ∷ [])) ≡ remove 0 (vertices c (a ∷ o)) ++ (reflected_p (vertices c (a ∷ o)) 0 ∷ [])
p_rule_first c a o = rw (rotated_first c a o, vertices_snoc (up a c) a o, behind_corner c a o)

-- vertex n: the new one stands first
rotated_last : (c : Vertex) (a : ℕ) (o : List ℕ) → reflected_p (vertices c o ++ (up a (ups o c) ∷ [])) (suc (length o)) ≡ down a c
rotated_last c a o =
    let top : List Vertex = up a (ups o c) ∷ [] in
    let l : length (vertices c o) ≡ suc (length o) = length_vertices c o in
    reflected_last (vertices c o ++ top) (length o) (omega (arith, length-append (vertices c o) top)) ∙
    rw (get_or-append (vertices c o) top [] (length o) (omega arith), get_or-append (vertices c o) top [] 0 (omega arith), get_or_at (vertices c o) (up a (ups o c)) [] [] (suc (length o)) l, vertices_top c o, vertices_corner c o)
    (sum_down a (ups o c) c (length_ups o c))

p_rule_last : (c : Vertex) (a : ℕ) (o : List ℕ) →
    vertices (down a c) (a ∷ o) ≡ reflected_p (vertices c (o ++ (a ∷ []))) (suc (length o)) ∷ remove (suc (length o)) (vertices c (o ++ (a ∷ [])))
unfolding vertices
p_rule_last c a o =
    rw (vertices_snoc c a o, rotated_last c a o, remove_last (vertices c o) (up a (ups o c)) (suc (length o)) (length_vertices c o), up_down a c)

-- any other: two neighbours of the order that change places move the vertex between them
exchange_moves : (c : Vertex) (o : List ℕ) (i : ℕ) → suc i < length o →
    vertices c (exchange i o) ≡
    set (vertices c o) (suc i) ((get_or (vertices c o) i [] ⊞ get_or (vertices c o) (suc (suc i)) []) ⊟ get_or (vertices c o) (suc i) [])
unfolding vertices exchange
exchange_moves c [] i h = absurd (omega arith)
exchange_moves c (a ∷ []) zero h = absurd (omega arith)
exchange_moves c (a ∷ b ∷ o) zero h =
    rw (vertices_corner (up b (up a c)) o, sum_up b c (up a c) (sym (length_up a c)), up_up a b c)
exchange_moves c (a ∷ o) (suc i) h = ap (λ l. c ∷ l) (exchange_moves (up a c) o i (omega arith))

p_rule_inner : (c : Vertex) (o : List ℕ) (i : ℕ) → suc i < length o →
    vertices c (exchange i o) ≡ set (vertices c o) (suc i) (reflected_p (vertices c o) (suc i))
p_rule_inner c o i h = rw (reflected_inner (vertices c o) i (omega (arith, length_vertices c o))) (exchange_moves c o i h)

-- ---- the P rule
p_rule_at : (c : Vertex) (o : List ℕ) (i : ℕ) → 0 < length o → i ≤ length o →
    vertices_of (pivot_at c o i) ≡ replaced (length o) (vertices c o) i (reflected_p (vertices c o) i)
unfolding vertices_of replaced
p_rule_at = pivot_cases P first last middle
  where
    P : Vertex → List ℕ → ℕ → Type 0
    P c o i = vertices_of (pivot_at c o i) ≡ replaced (length o) (vertices c o) i (reflected_p (vertices c o) i)

    first : (c : Vertex) (a : ℕ) (o : List ℕ) → P c (a ∷ o) 0
    first c a o = rw (pivot_first_lem c a o) (p_rule_first c a o)

    last : (c : Vertex) (a : ℕ) (o : List ℕ) → P c (o ++ (a ∷ [])) (suc (length o))
    last c a o = rw (pivot_last_lem c a o, length_snoc a o, eq-eqb (suc (length o)) (suc (length o)) refl) (p_rule_last c a o)

    middle : (c : Vertex) (o : List ℕ) (i : ℕ) → suc i < length o → P c o (suc i)
    middle c o i h = rw (pivot_middle c o i (omega arith), ne_eqb (suc i) (length o) (omega arith)) (p_rule_inner c o i h)

-- the vertices of the neighbour are those of the simplex with s_(i−1) + s_(i+1) − s_i for s_i
pub p_rule : (n : ℕ) (t : Incidence) → 0 < n → Valid n t → vertices_of (pivot t) ≡ replaced n (vertices_of t) t.out (reflected_p (vertices_of t) t.out)
unfolding pivot vertices_of
p_rule n t p w =
    let l : length t.order ≡ n = order_length n t.order w.order_is in
    rw l at (p_rule_at t.corner t.order t.out (omega arith) (omega (arith, w.out_bound)))
