-- The vertices of a simplex are a chain: of any two one is at most the other on every axis (`vertices_chain`). The corner is the
-- first of them and `ups` gives the last.
use Prim.Native.Nat.{ℕ, suc, zero, ◌<◌}
use mathlib.Core.Path.{◌≡◌, refl, sym, ap, ◌∙◌, subst}
use mathlib.Core.Bool.{true}
use mathlib.Core.Logic.{◌⊎◌, inl, inr, ⊎_elim}
use mathlib.Core.List.Memᴰ
use mathlib.Core.List.{List, [], ◌∷◌}
use native.Mathlib.Omega.{arith}
use lib.IntN.{ℤ}
use lib.ListN.{length, get_or}
use lib.Signed.{◌≤ℤ◌, ◌<ℤ◌, ≤ℤ_refl, <ℤ-≤ℤ_trans, clash_ℤ}
use Rattle.exact.specs.Int.{◌⊕◌, ◌⊖◌, 0ℤ, 1ℤ}
use Rattle.exact.proofs.Linear.{split, linear}
use Rattle.curves.specs.Grid.{Vertex, up, down, vertices, absent}
use Rattle.curves.specs.Curve.{◌∈◌}
use Rattle.curves.proofs.OrderTests.{absent_head, absent_tail}
use Rattle.curves.proofs.PRule.{ups}

-- ---- one coordinate of a vertex

-- coordinate k
abbrev pub at : Vertex → ℕ → ℤ
at v k = get_or v k 0ℤ

pub up_at : (a : ℕ) (v : Vertex) → a < length v → at (up a v) a ≡ at v a ⊕ 1ℤ
unfolding up
up_at a [] h = absurd (omega arith)
up_at zero (x ∷ v) h = refl
up_at (suc a) (x ∷ v) h = up_at a v (omega arith)

pub up_other : (a k : ℕ) (v : Vertex) → (a ≡ k → ⊥) → at (up a v) k ≡ at v k
unfolding up
up_other a k [] h = refl
up_other zero zero (x ∷ v) h = absurd (h refl)
up_other zero (suc k) (x ∷ v) h = refl
up_other (suc a) zero (x ∷ v) h = refl
up_other (suc a) (suc k) (x ∷ v) h = up_other a k v (λ e. h (ap suc e))

pub down_at : (a : ℕ) (v : Vertex) → a < length v → at (down a v) a ≡ at v a ⊖ 1ℤ
unfolding down
down_at a [] h = absurd (omega arith)
down_at zero (x ∷ v) h = refl
down_at (suc a) (x ∷ v) h = down_at a v (omega arith)

pub down_other : (a k : ℕ) (v : Vertex) → (a ≡ k → ⊥) → at (down a v) k ≡ at v k
unfolding down
down_other a k [] h = refl
down_other zero zero (x ∷ v) h = absurd (h refl)
down_other zero (suc k) (x ∷ v) h = refl
down_other (suc a) zero (x ∷ v) h = refl
down_other (suc a) (suc k) (x ∷ v) h = down_other a k v (λ e. h (ap suc e))

pub ups_other : (o : List ℕ) (k : ℕ) (v : Vertex) → absent k o ≡ true → at (ups o v) k ≡ at v k
unfolding ups
ups_other [] k v h = refl
ups_other (a ∷ o) k v h = ups_other o k (up a v) (absent_tail k a o h) ∙ up_other a k v (λ e. absent_head k a o h (sym e))

-- ---- the vertices of a simplex are a chain

pub one_more : (x : ℤ) → x <ℤ x ⊕ 1ℤ
one_more x = rw (split x) (simp linear (omega arith))

pub one_less : (x : ℤ) → x ⊖ 1ℤ <ℤ x
one_less x = rw (split x) (simp linear (omega arith))

le_more : (x : ℤ) → x ≤ℤ x ⊕ 1ℤ
le_more x = rw (split x) (simp linear (omega arith))

le_trans : (x y z : ℤ) → x ≤ℤ y → y ≤ℤ z → x ≤ℤ z
le_trans x y z = rw (split x, split y, split z) (simp linear (omega arith))

-- v is at most w on every axis
infix 50 ◌⊑◌
abbrev pub ◌⊑◌ : Vertex → Vertex → Type 0
v ⊑ w = (k : ℕ) → at v k ≤ℤ at w k

up_above : (a : ℕ) (v : Vertex) → v ⊑ up a v
unfolding up
up_above a [] k = ≤ℤ_refl 0ℤ
up_above zero (x ∷ v) zero = le_more x
up_above zero (x ∷ v) (suc k) = ≤ℤ_refl (at v k)
up_above (suc a) (x ∷ v) zero = ≤ℤ_refl x
up_above (suc a) (x ∷ v) (suc k) = up_above a v k

ups_above : (o : List ℕ) (v : Vertex) → v ⊑ ups o v
unfolding ups
ups_above [] v k = ≤ℤ_refl (at v k)
ups_above (a ∷ o) v k = le_trans (at v k) (at (up a v) k) (at (ups o (up a v)) k) (up_above a v k) (ups_above o (up a v) k)

-- 1 added on some axes is more on the first of them
pub ups_more : (b : ℕ) (o : List ℕ) (v : Vertex) → b < length v → at v b <ℤ at (ups (b ∷ o) v) b
unfolding ups
ups_more b o v h = <ℤ-≤ℤ_trans (rw (up_at b v h) (one_more (at v b))) (ups_above o (up b v) b)

-- the corner is the least of them
corner_least : (c : Vertex) (o : List ℕ) (w : Vertex) → w ∈ vertices c o → c ⊑ w
unfolding vertices
corner_least c [] w m k = subst (λ (v : Vertex). at c k ≤ℤ at v k) (sym (Memᴰ.eq_of_singleton m)) (≤ℤ_refl (at c k))
corner_least c (a ∷ o) w m k =
    ⊎_elim
    (λ (e : w ≡ c). subst (λ (v : Vertex). at c k ≤ℤ at v k) (sym e) (≤ℤ_refl (at c k)))
    (λ (i : w ∈ vertices (up a c) o). le_trans (at c k) (at (up a c) k) (at w k) (up_above a c k) (corner_least (up a c) o w i k))
    (Memᴰ.cases_cons m)

pub vertices_chain : (c : Vertex) (o : List ℕ) (v w : Vertex) → v ∈ vertices c o → w ∈ vertices c o → (v ⊑ w) ⊎ (w ⊑ v)
unfolding vertices
vertices_chain c [] v w i j = inl (subst (λ (u : Vertex). u ⊑ w) (sym (Memᴰ.eq_of_singleton i)) (corner_least c [] w j))
vertices_chain c (a ∷ o) v w i j =
    ⊎_elim
    (λ (e : v ≡ c). inl (subst (λ (u : Vertex). u ⊑ w) (sym e) (corner_least c (a ∷ o) w j)))
    (λ (k : v ∈ vertices (up a c) o).
    ⊎_elim
    (λ (e : w ≡ c). inr (subst (λ (u : Vertex). u ⊑ v) (sym e) (corner_least c (a ∷ o) v i)))
    (λ (l : w ∈ vertices (up a c) o). vertices_chain (up a c) o v w k l)
    (Memᴰ.cases_cons j))
    (Memᴰ.cases_cons i)

-- two vertices of which each is below the other on some axis are not both in one simplex
pub apart : (v w : Vertex) (a b : ℕ) → at v a <ℤ at w a → at w b <ℤ at v b → (c : Vertex) (o : List ℕ) → v ∈ vertices c o → w ∈ vertices c o → ⊥
apart v w a b h k c o i j =
    ⊎_elim
    (λ (l : v ⊑ w). clash_ℤ k (l b))
    (λ (l : w ⊑ v). clash_ℤ h (l a))
    (vertices_chain c o v w i j)

-- ---- the corner and the last vertex are listed

pub corner_listed : (c : Vertex) (o : List ℕ) → c ∈ vertices c o
unfolding vertices
corner_listed c [] = Memᴰ.head refl
corner_listed c (a ∷ o) = Memᴰ.head refl

pub top_listed : (c : Vertex) (o : List ℕ) → ups o c ∈ vertices c o
unfolding vertices ups
top_listed c [] = Memᴰ.head refl
top_listed c (a ∷ o) = Memᴰ.tail (top_listed (up a c) o)
