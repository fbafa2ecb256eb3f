-- Moved vertices: a step added on each axis of a mask, coordinate by coordinate; up and down as the definitions have them; and how far a
-- coordinate grows.
use Rattle.std.proofs.Common.{ℕ, suc, zero, ◌+◌, ◌/◌, ◌%◌, ◌^◌, ◌≤◌, ◌<◌, ◌≡◌, refl, sym, ap, ap₂, ◌∙◌, subst, arith, List, [], ◌∷◌, ◌++◌, ℤ, pos, negsuc, ◌+ℤ◌, ◌*ℤ◌, length, get_or, set, take, drop}
use Rattle.std.proofs.lemmas.List.{take_more, take_more_set, take_all, drop-set-lt, get_or-drop}
use Rattle.std.proofs.lemmas.Grind.{drop_more_same}
use Rattle.std.proofs.lemmas.Nat.{and_mask}
use Rattle.std.proofs.Math.Nat.{div-one, div-div-eq-div-mul, pow-succ'}
use lib.Bits.{bit_and}
use lib.Dec.{lit≤}
use mir.Syntax.{w64}
use mir.Val.{SFits, to_z}
use mir.ValLaws.{to_z_pos}
use Rattle.exact.specs.Int.{◌⊕◌, ◌⊗◌, 0ℤ, 1ℤ}
use Rattle.exact.specs.Size.{Size, Is}
use Rattle.exact.proofs.Ring.{one_mul}
use Rattle.exact.proofs.Solver.{var, con, ◌:+◌, ◌:*◌, solve}
use Rattle.exact.proofs.SizeLaws.{size_pos, size_weaken, size_add, size_mul}
use Rattle.exact.proofs.Bits.{holds, back, back_is, fits_add, holds_add, holds_mul}
use Rattle.curves.specs.Grid.{plus}
use Rattle.curves.specs.Grid as Grid
use Rattle.paper.specs.declared.Vertex.{Vertex}
use Rattle.places.specs.Held.{vertex_as, VertexSize}
use Rattle.lattice.specs.Moves.{move_limit, moved_by, Shifted, Lowered}

-- ---- a coordinate of a moved vertex

length_moved : (s : ℤ) (v : Grid.Vertex) (m : ℕ) → length (moved_by s v m) ≡ length v
unfolding moved_by
length_moved s [] m = refl
length_moved s (x ∷ v) m = ap suc (length_moved s v (m / 2))

moved_at : (s : ℤ) (v : Grid.Vertex) (m a : ℕ) → a < length v → get_or (moved_by s v m) a 0ℤ ≡ get_or v a 0ℤ ⊕ (s ⊗ pos (m / 2 ^ a % 2))
unfolding moved_by
moved_at s [] m a h = absurd (omega arith)
moved_at s (x ∷ v) m zero h = ap (λ k. x ⊕ (s ⊗ pos (k % 2))) (sym (div-one m))
moved_at s (x ∷ v) m (suc a) h =
    moved_at s v (m / 2) a (omega arith)
    ∙ ap (λ k. get_or v a 0ℤ ⊕ (s ⊗ pos (k % 2))) (div-div-eq-div-mul m 2 (2 ^ a) ∙ ap (λ k. m / k) (sym (pow-succ' 2 a)))

-- ---- one coordinate, as the code moves it

-- a step passed as its bits
step_back : {step : ℤ} → Size 1 step → back step ≡ step
step_back s = back_is s (lit≤ tt)

module _ (v l : List ℤ) (step : ℤ) (mask a : ℕ) (near : (k : ℕ) → Size move_limit (get_or v k 0ℤ)) (s : Size 1 step) (rest : drop a l ≡ drop a v) where
  same : get_or l a 0ℤ ≡ get_or v a 0ℤ
  same =
      let here : a + 0 ≡ a = omega arith in
      ap (λ k. get_or l k 0ℤ) (sym here) ∙ sym (get_or-drop a l 0 0ℤ) ∙ ap (λ r. get_or r 0 0ℤ) rest ∙ get_or-drop a v 0 0ℤ ∙ ap (λ k. get_or v k 0ℤ) here

  bit_is : Is 1 (pos (mask / 2 ^ a % 2)) (to_z w64 (bit_and (mask / 2 ^ a) 1))
  bit_is = record {
    is = ap (to_z w64) (and_mask (mask / 2 ^ a) 1) ∙ to_z_pos w64 (mask / 2 ^ a % 2) (omega arith);
    size = size_weaken (size_pos (mask / 2 ^ a % 2)) (omega arith);
  }

  turn_is : Is 1 (step ⊗ pos (mask / 2 ^ a % 2)) (back (back step *ℤ to_z w64 (bit_and (mask / 2 ^ a) 1)))
  turn_is = holds_mul (holds s (lit≤ tt)) bit_is (lit≤ tt)

  number : Is move_limit (get_or v a 0ℤ) (back (get_or l a 0ℤ))
  unfolding move_limit
  number = subst (λ z. Is move_limit (get_or v a 0ℤ) (back z)) (sym same) (holds (near a) (lit≤ tt))

  pub sum_fits : SFits w64 (back (get_or l a 0ℤ) +ℤ back (back step *ℤ to_z w64 (bit_and (mask / 2 ^ a) 1)))
  unfolding move_limit
  sum_fits = fits_add number turn_is (lit≤ tt)

  -- one coordinate more is moved, and those behind it are as they were
  module _ (h : a < length v) (count : length l ≡ length v) where
    abbrev next : ℤ
    next = back (back (get_or l a 0ℤ) +ℤ back (back step *ℤ to_z w64 (bit_and (mask / 2 ^ a) 1)))

    next_is : next ≡ get_or (moved_by step v mask) a 0ℤ
    unfolding move_limit
    next_is = (holds_add number turn_is (lit≤ tt)).is ∙ sym (moved_at step v mask a h)

    pub moved_more : take a l ≡ take a (moved_by (back step) v mask) → take (a + 1) (set l a next) ≡ take (a + 1) (moved_by (back step) v mask)
    moved_more e =
        take_more_set l a next (omega arith)
        ∙ ap₂ (λ t z. t ++ (z ∷ [])) (e ∙ ap (λ z. take a (moved_by z v mask)) (step_back s)) next_is
        ∙ sym (take_more (moved_by step v mask) a 0ℤ (omega (arith, length_moved step v mask)))
        ∙ ap (λ z. take (a + 1) (moved_by z v mask)) (sym (step_back s))

    pub rest_more : drop (a + 1) (set l a next) ≡ drop (a + 1) v
    rest_more = drop-set-lt (a + 1) l a next (omega arith) ∙ drop_more_same l v a rest

-- all are moved
pub all_moved : (l v : List ℤ) (s : ℤ) (m : ℕ) → length l ≡ 4 → length v ≡ 4 → Size 1 s → take 4 l ≡ take 4 (moved_by (back s) v m) → l ≡ moved_by s v m
all_moved l v s m c d t e =
    sym (take_all 4 l (omega arith)) ∙ e ∙ ap (λ z. take 4 (moved_by z v m)) (step_back t) ∙ take_all 4 (moved_by s v m) (omega (arith, length_moved s v m))

-- ---- up and down

up_is : (v : Grid.Vertex) (m : ℕ) → moved_by 1ℤ v m ≡ plus v m
unfolding moved_by plus
up_is [] m = refl
up_is (x ∷ v) m = ap₂ (λ z w. (x ⊕ z) ∷ w) (one_mul (pos (m % 2))) (up_is v (m / 2))

down_is : (v : Grid.Vertex) (m : ℕ) → plus (moved_by (negsuc 0) v m) m ≡ v
unfolding moved_by plus
down_is [] m = refl
down_is (x ∷ v) m = ap₂ (λ z w. z ∷ w) (back_up x (pos (m % 2))) (down_is v (m / 2))
  where
    back_up : (x d : ℤ) → (x ⊕ (negsuc 0 ⊗ d)) ⊕ d ≡ x
    back_up x d = solve ((var 0 :+ (con (negsuc 0) :* var 1)) :+ var 1) (var 0) (x ∷ d ∷ []) refl

take_plus : (n m : ℕ) (v : Grid.Vertex) → take n (plus v m) ≡ plus (take n v) m
unfolding plus
take_plus zero m v = refl
take_plus (suc n) m [] = refl
take_plus (suc n) m (x ∷ v) = ap (λ w. (x ⊕ pos (m % 2)) ∷ w) (take_plus n (m / 2) v)

-- a coordinate grows by at most 1
moved_grows : {m : ℕ} {s : ℤ} (v : Grid.Vertex) (mask : ℕ) → Size 1 s → ((a : ℕ) → Size m (get_or v a 0ℤ))
    → (a : ℕ) → Size (m + 1) (get_or (moved_by s v mask) a 0ℤ)
unfolding moved_by
moved_grows [] mask t h a = record { size = omega arith }
moved_grows {m} {s} (x ∷ v) mask t h zero = size_add (h 0) (size_weaken (size_mul t (size_pos (mask % 2))) (omega arith))
moved_grows {m} {s} (x ∷ v) mask t h (suc a) = moved_grows v (mask / 2) t (λ k. h (suc k)) a

module _ {v r : Vertex} (mask : ℕ) (c : length v.coordinates ≡ 4) {s : ℤ} (t : Size 1 s) (e : r.coordinates ≡ moved_by s v.coordinates mask) where
  size_moved : (m : ℕ) → VertexSize m v → VertexSize (m + 1) r
  size_moved m h = record {
    count = ap length e ∙ length_moved s v.coordinates mask ∙ c;
    each = λ a. subst (λ l. Size (m + 1) (get_or l a 0ℤ)) (sym e) (moved_grows v.coordinates mask t h.each a);
  }

pub vertex_wider : {m k : ℕ} {v : Vertex} → VertexSize m v → m ≤ k → VertexSize k v
vertex_wider s h = record { count = s.count; each = λ a. size_weaken (s.each a) h }

-- ---- vertices

pub shifted_is : {v r : Vertex} (mask : ℕ) → length v.coordinates ≡ 4 → r.coordinates ≡ moved_by 1ℤ v.coordinates mask → Shifted v mask r
unfolding vertex_as
shifted_is {v} {r} mask c e = record {
  is = λ n. ap (take n) (e ∙ up_is v.coordinates mask) ∙ take_plus n mask v.coordinates;
  size = size_moved mask c (record { size = omega arith }) e;
}

pub lowered_is : {v r : Vertex} (mask : ℕ) → length v.coordinates ≡ 4 → r.coordinates ≡ moved_by (negsuc 0) v.coordinates mask → Lowered v mask r
unfolding vertex_as
lowered_is {v} {r} mask c e = record {
  is = λ n. ap (take n) (sym (down_is v.coordinates mask) ∙ ap (λ w. plus w mask) (sym e)) ∙ take_plus n mask r.coordinates;
  size = size_moved mask c (record { size = omega arith }) e;
}
