-- The rounding of request 2.5. A coordinate of a point is the number of steps that is nearest to the exact coordinate, and the even one of two that are as
-- near (`coordinate_nearest`, `point_nearest`, `pointed_nearest`); there is no other such number (`nearest_unique`).
-- The definition rounds the share alone. That is the same as to round the whole coordinate (`coordinate_whole`), since a unit has an even number of steps:
-- to add an even number of steps leaves a half a half, and an even count even (`round_moves`).
use Prim.Native.Nat.{ℕ, suc, zero, ◌+◌, ◌*◌, ◌-◌, ◌/◌, ◌%◌, ◌≤◌, ◌<◌}
use mathlib.Core.Path.{◌≡◌, refl, sym, ap, ap₂, ◌∙◌, subst}
use mathlib.Core.Bool.{Bool, true, false, cond}
use mathlib.Core.Logic.{◌≢◌, ◌↔◌, ◌⊎◌, inl, inr}
use mathlib.Core.List.{List, [], ◌∷◌}
use native.Mathlib.Nat.{div-add-mod, mod-lt, le_of_mul-le-mul_right}
use native.Mathlib.Omega.{arith}
use borrow.Author.Tests.{ltb-true, ltb-false, eqb-true, eqb-false, not-false}
use lib.IntN.{ℤ, pos, negsuc, nat_abs}
use lib.ListN.{length, get_or}
use lib.Seq.{ext_get_or}
use lib.Dec.{ltb, eqb}
use Rattle.exact.specs.Int.{◌⊕◌, ◌⊖◌, ◌⊗◌, neg, 0ℤ}
use Rattle.exact.specs.Sign.{sign}
use Rattle.exact.specs.Size.{Size}
use Rattle.exact.specs.Det.{Column, determinant}
use Rattle.exact.proofs.Linear.{diff, up, down, split, linear, diff_add, diff_eq, pos_diff, negsuc_diff}
use Rattle.exact.proofs.Solver.{var, con, ◌:+◌, ◌:-◌, ◌:*◌, :neg, solve}
use Rattle.exact.proofs.Ring.{add-zero}
use Rattle.exact.proofs.SizeLaws.{nat_abs_add, nat_abs_neg, nat_abs_zero, nat_abs_mul}
use Rattle.exact.proofs.SignLaws.{sign_zero}
use Rattle.exact.proofs.Weights.{crossed_nonzero}
use Rattle.curves.specs.Grid.{Vertex, Facet, facet_vertices}
use Rattle.curves.specs.Step.{Field, columns, crossed_facet}
use Rattle.paper.specs.Limits.{steps_per_unit}
use Rattle.paper.specs.Job.{dimension, decode_place}
use Rattle.paper.specs.Values.{field_of, nearest_steps, round_steps, weight_sum, over_size, share_steps, coordinate_steps, point_from, point_of}
use Rattle.paper.specs.Operations.{answered, crossed_in, facet_of, point_refusal, pointed}
use Rattle.paper.specs.Nearest.{IsNearest, facet_d, exact_steps, NearestPoint}
use Rattle.paper.proofs.Refusals.{neither_refused, not_refused, unless_answered, answered_inv}
use Rattle.paper.proofs.Encode.{decoded_low_length}

-- ---- a quotient and its rest

even_or_odd : (q : ℕ) → (q % 2 ≡ 0) ⊎ (q % 2 ≡ 1)
even_or_odd q = go (eqb (q % 2) 0) refl
  where
    go : (t : Bool) → eqb (q % 2) 0 ≡ t → (q % 2 ≡ 0) ⊎ (q % 2 ≡ 1)
    go true e = inl (eqb-true (q % 2) 0 e)
    go false e = let odd : q % 2 ≡ 0 → ⊥ = eqb-false (q % 2) 0 e in inr (omega (arith, odd))

-- a is den times q and a rest of at most den
module _ (a den q rest : ℕ) (e : den * q + rest ≡ a) (h : rest ≤ den) where
  -- a is this far from q times den, and from q + 1 times den
  above : pos a ⊖ pos q ⊗ pos den ≡ pos rest
  above = simp linear (omega arith)

  below : pos a ⊖ pos (suc q) ⊗ pos den ≡ neg (pos (den - rest))
  below = simp linear (omega arith)

  lower_nearest : 2 * rest ≤ den → (2 * rest ≡ den → q % 2 ≡ 0) → IsNearest (pos a) (pos den) (pos q)
  lower_nearest l t = record { near = rw above l; even = rw above t }

  upper_nearest : den ≤ 2 * rest → (2 * rest ≡ den → suc q % 2 ≡ 0) → IsNearest (pos a) (pos den) (pos (suc q))
  upper_nearest l t = record {
    near = rw (below, nat_abs_neg (pos (den - rest))) (omega arith);
    even = rw (below, nat_abs_neg (pos (den - rest))) (λ k. t (omega arith));
  }

  -- less than a half, more, and a half
  pub less_nearest : 2 * rest < den → IsNearest (pos a) (pos den) (pos q)
  less_nearest l = lower_nearest (omega arith) (λ k. absurd (omega arith))

  pub more_nearest : den < 2 * rest → IsNearest (pos a) (pos den) (pos (suc q))
  more_nearest l = upper_nearest (omega arith) (λ k. absurd (omega arith))

  pub half_nearest : 2 * rest ≡ den → IsNearest (pos a) (pos den) (pos (q + q % 2))
  half_nearest l = go (even_or_odd q)
    where
      go : (q % 2 ≡ 0) ⊎ (q % 2 ≡ 1) → IsNearest (pos a) (pos den) (pos (q + q % 2))
      go (inl t) =
          let same : q ≡ q + q % 2 = omega arith in
          subst (λ z. IsNearest (pos a) (pos den) (pos z)) same (lower_nearest (omega arith) (λ k. omega arith))
      go (inr t) =
          let same : suc q ≡ q + q % 2 = omega arith in
          subst (λ z. IsNearest (pos a) (pos den) (pos z)) same (upper_nearest (omega arith) (λ k. omega arith))

  quotient_nearest : IsNearest (pos a) (pos den) (pos (nearest_steps q rest den))
  unfolding nearest_steps
  quotient_nearest = go (ltb (2 * rest) den) refl (ltb den (2 * rest)) refl
    where
      go :
          (s : Bool) → ltb (2 * rest) den ≡ s → (t : Bool) → ltb den (2 * rest) ≡ t
          → IsNearest (pos a) (pos den) (pos (cond s q (cond t (suc q) (q + q % 2))))
      go true i t j = less_nearest (ltb-true (2 * rest) den i)
      go false i true j = more_nearest (ltb-true den (2 * rest) j)
      go false i false j = half_nearest (omega (arith, ltb-false (2 * rest) den i, ltb-false den (2 * rest) j))

-- ---- a number of steps

-- the same on both sides of 0
nearest_opposite : (a d z : ℤ) → IsNearest a d z → IsNearest (neg a) d (neg z)
nearest_opposite a d z h =
    let same : neg a ⊖ neg z ⊗ d ≡ neg (a ⊖ z ⊗ d) =
    solve (:neg (var 0) :- :neg (var 2) :* var 1) (:neg (var 0 :- var 2 :* var 1)) (a ∷ d ∷ z ∷ []) refl in
    record { near = rw (same, nat_abs_neg (a ⊖ z ⊗ d)) h.near; even = rw (same, nat_abs_neg (a ⊖ z ⊗ d), nat_abs_neg z) h.even }

pub round_nearest : (num : ℤ) (den : ℕ) → 0 < den → IsNearest num (pos den) (round_steps num den)
unfolding round_steps neg
round_nearest (pos a) den h =
    let m : a % den < den = mod-lt a h in quotient_nearest a den (a / den) (a % den) (div-add-mod a den) (omega arith)
round_nearest (negsuc a) den h =
    let m : suc a % den < den = mod-lt (suc a) h in
    nearest_opposite (pos (suc a)) (pos den) (pos (nearest_steps (suc a / den) (suc a % den) den))
    (quotient_nearest (suc a) den (suc a / den) (suc a % den) (div-add-mod (suc a) den) (omega arith))

-- ---- there is one nearest number

-- a difference is even exactly if the sum is
diff_parity : (z : ℤ) (a b : ℕ) → z ≡ diff a b → nat_abs z % 2 ≡ (a + b) % 2
diff_parity (pos n) a b h = omega (arith, (diff_eq n 0 a b).0 (sym (pos_diff n) ∙ h))
diff_parity (negsuc n) a b h = omega (arith, (diff_eq 0 (suc n) a b).0 (sym (negsuc_diff n) ∙ h))

add_parity : (a b : ℤ) → nat_abs (a ⊕ b) % 2 ≡ (nat_abs a + nat_abs b) % 2
add_parity a b =
    let e : a ⊕ b ≡ diff (up a + up b) (down a + down b) = ap₂ ◌⊕◌ (split a) (split b) ∙ diff_add (up a) (down a) (up b) (down b) in
    omega (
      arith,
      diff_parity (a ⊕ b) (up a + up b) (down a + down b) e,
      diff_parity a (up a) (down a) (split a),
      diff_parity b (up b) (down b) (split b),
    )

-- a number times d is no larger than a and what is left of a
multiple_size : (a d z : ℤ) → nat_abs z * nat_abs d ≤ nat_abs a + nat_abs (a ⊖ z ⊗ d)
multiple_size a d z =
    let same : a ⊕ neg (a ⊖ z ⊗ d) ≡ z ⊗ d = solve (var 0 :+ :neg (var 0 :- var 2 :* var 1)) (var 2 :* var 1) (a ∷ d ∷ z ∷ []) refl in
    omega (arith, nat_abs_mul z d, ap nat_abs same, nat_abs_add a (neg (a ⊖ z ⊗ d)), nat_abs_neg (a ⊖ z ⊗ d))

size_positive : (d : ℤ) → d ≢ 0ℤ → 0 < nat_abs d
size_positive (pos zero) h = absurd (h refl)
size_positive (pos (suc n)) h = omega arith
size_positive (negsuc n) h = omega arith

-- two of them are less than two apart, and if they were one apart, both would be even
pub nearest_unique : (a d z w : ℤ) → d ≢ 0ℤ → IsNearest a d z → IsNearest a d w → z ≡ w
nearest_unique a d z w nonzero h k =
    sym (add-zero z) ∙ ap (λ t. z ⊕ t) (sym (nat_abs_zero (w ⊖ z) none)) ∙ sym step
  where
    step : w ≡ z ⊕ (w ⊖ z)
    step = solve (var 1) (var 0 :+ (var 1 :- var 0)) (z ∷ w ∷ []) refl

    left : a ⊖ z ⊗ d ⊖ (w ⊖ z) ⊗ d ≡ a ⊖ w ⊗ d
    left = solve (var 0 :- var 2 :* var 1 :- (var 3 :- var 2) :* var 1) (var 0 :- var 3 :* var 1) (a ∷ d ∷ z ∷ w ∷ []) refl

    sizes : nat_abs (w ⊖ z) * nat_abs d ≤ nat_abs (a ⊖ z ⊗ d) + nat_abs (a ⊖ w ⊗ d)
    sizes = omega (arith, multiple_size (a ⊖ z ⊗ d) d (w ⊖ z), ap nat_abs left)

    few : nat_abs (w ⊖ z) ≤ 1
    few = le_of_mul-le-mul_right {k = nat_abs d} (omega (arith, sizes, h.near, k.near)) (size_positive d nonzero)

    odd : nat_abs (w ⊖ z) ≡ 1 → ⊥
    odd one =
        let whole : nat_abs (w ⊖ z) * nat_abs d ≡ nat_abs d = ap (λ t. t * nat_abs d) one ∙ omega arith in
        let z-even : nat_abs z % 2 ≡ 0 = h.even (omega (arith, sizes, whole, h.near, k.near)) in
        let w-even : nat_abs w % 2 ≡ 0 = k.even (omega (arith, sizes, whole, h.near, k.near)) in
        omega (arith, one, z-even, w-even, add_parity z (w ⊖ z), ap nat_abs step)

    none : nat_abs (w ⊖ z) ≡ 0
    none = omega (arith, few, odd)

-- ---- whole units

-- an even number of steps more; an odd one would not do, since a half is 0 steps and one and a half are 2
nearest_add : (j a d z : ℤ) → IsNearest a d z → IsNearest ((j ⊕ j) ⊗ d ⊕ a) d (j ⊕ j ⊕ z)
nearest_add j a d z h =
    let same : (j ⊕ j) ⊗ d ⊕ a ⊖ (j ⊕ j ⊕ z) ⊗ d ≡ a ⊖ z ⊗ d =
    solve ((var 0 :+ var 0) :* var 2 :+ var 1 :- (var 0 :+ var 0 :+ var 3) :* var 2) (var 1 :- var 3 :* var 2) (j ∷ a ∷ d ∷ z ∷ []) refl in
    record {
      near = rw same h.near;
      even = rw same (λ k. let even : nat_abs z % 2 ≡ 0 = h.even k in omega (arith, even, add_parity (j ⊕ j) z, add_parity j j));
    }

-- a unit has an even number of steps
unit_even : (k : ℤ) → pos steps_per_unit ⊗ k ≡ pos 512 ⊗ k ⊕ pos 512 ⊗ k
unfolding steps_per_unit
unit_even k = solve (con (pos 1024) :* var 0) (con (pos 512) :* var 0 :+ con (pos 512) :* var 0) (k ∷ []) refl

nearest_unit : (k a d z : ℤ) → IsNearest a d z → IsNearest (pos steps_per_unit ⊗ k ⊗ d ⊕ a) d (pos steps_per_unit ⊗ k ⊕ z)
nearest_unit k a d z h =
    subst (λ u. IsNearest (u ⊗ d ⊕ a) d (u ⊕ z)) (sym (unit_even k)) (nearest_add (pos 512 ⊗ k) a d z h)

pos_nonzero : (n : ℕ) → 0 < n → pos n ≢ 0ℤ
pos_nonzero n h e = let z : n ≡ 0 = cc in omega arith

-- k whole units more are 1024 · k steps more, also of a half
pub round_moves :
    (k num : ℤ) (den : ℕ) → 0 < den → round_steps (pos steps_per_unit ⊗ k ⊗ pos den ⊕ num) den ≡ pos steps_per_unit ⊗ k ⊕ round_steps num den
round_moves k num den h =
    nearest_unique (pos steps_per_unit ⊗ k ⊗ pos den ⊕ num) (pos den) _ _ (pos_nonzero den h)
    (round_nearest (pos steps_per_unit ⊗ k ⊗ pos den ⊕ num) den h)
    (nearest_unit k num (pos den) (round_steps num den) (round_nearest num den h))

-- ---- a share

pub nat_abs_over_size : (num d : ℤ) → nat_abs (over_size num d) ≡ nat_abs num
unfolding over_size
nat_abs_over_size num (pos d) = refl
nat_abs_over_size num (negsuc d) = nat_abs_neg num

share_nearest : (num d : ℤ) → 0 < nat_abs d → IsNearest (pos steps_per_unit ⊗ over_size num d) (pos (nat_abs d)) (share_steps num d)
unfolding share_steps
share_nearest num d h = round_nearest (pos steps_per_unit ⊗ over_size num d) (nat_abs d) h

-- what is nearest to 1024 · num / den is the share's number of steps
pub share_only : (num den : ℕ) (z : ℤ) → 0 < den → IsNearest (pos (steps_per_unit * num)) (pos den) z → z ≡ share_steps (pos num) (pos den)
unfolding over_size ◌⊗◌
share_only num den z h near =
    nearest_unique (pos (steps_per_unit * num)) (pos den) z (share_steps (pos num) (pos den)) (pos_nonzero den h) near
    (share_nearest (pos num) (pos den) h)

-- a share of at most a unit has at most 1024 steps
pub share_few : (num d : ℤ) → 0 < nat_abs d → nat_abs num ≤ nat_abs d → Size steps_per_unit (share_steps num d)
unfolding steps_per_unit
share_few num d p l =
    let near = (share_nearest num d p).near in
    let size = multiple_size (pos steps_per_unit ⊗ over_size num d) (pos (nat_abs d)) (share_steps num d) in
    let product = nat_abs_mul (pos steps_per_unit) (over_size num d) in
    let twice : 2 * nat_abs (share_steps num d) ≤ 2049 =
    le_of_mul-le-mul_right {k = nat_abs d} (omega (arith, near, size, product, nat_abs_over_size num d, l)) p in
    record { size = omega (arith, twice) }

-- ---- a coordinate

-- the definition rounds the share; the whole coordinate, rounded, is the same
pub coordinate_whole :
    (low num d : ℤ) → d ≢ 0ℤ
    → coordinate_steps low num d ≡ round_steps (pos steps_per_unit ⊗ (low ⊗ pos (nat_abs d) ⊕ over_size num d)) (nat_abs d)
unfolding coordinate_steps share_steps
coordinate_whole low num d h =
    let u : ℤ = pos steps_per_unit in
    let same : u ⊗ low ⊗ pos (nat_abs d) ⊕ u ⊗ over_size num d ≡ u ⊗ (low ⊗ pos (nat_abs d) ⊕ over_size num d) =
    solve (var 0 :* var 1 :* var 2 :+ var 0 :* var 3) (var 0 :* (var 1 :* var 2 :+ var 3)) (u ∷ low ∷ pos (nat_abs d) ∷ over_size num d ∷ []) refl in
    sym (round_moves low (u ⊗ over_size num d) (nat_abs d) (size_positive d h)) ∙ ap (λ a. round_steps a (nat_abs d)) same

-- numerator and denominator with the opposite sign: the same fraction
nearest_turned : (a d z : ℤ) → IsNearest a d z → IsNearest (neg a) (neg d) z
nearest_turned a d z h =
    let same : neg a ⊖ z ⊗ neg d ≡ neg (a ⊖ z ⊗ d) =
    solve (:neg (var 0) :- var 2 :* :neg (var 1)) (:neg (var 0 :- var 2 :* var 1)) (a ∷ d ∷ z ∷ []) refl in
    let size = nat_abs_neg (a ⊖ z ⊗ d) in
    record { near = rw (same, size, nat_abs_neg d) h.near; even = rw (same, size, nat_abs_neg d) h.even }

-- over the size of d
size_nearest :
    (low num d : ℤ) → d ≢ 0ℤ
    → IsNearest (pos steps_per_unit ⊗ (low ⊗ pos (nat_abs d) ⊕ over_size num d)) (pos (nat_abs d)) (coordinate_steps low num d)
size_nearest low num d h =
    subst (IsNearest (pos steps_per_unit ⊗ (low ⊗ pos (nat_abs d) ⊕ over_size num d)) (pos (nat_abs d))) (sym (coordinate_whole low num d h))
    (round_nearest (pos steps_per_unit ⊗ (low ⊗ pos (nat_abs d) ⊕ over_size num d)) (nat_abs d) (size_positive d h))

-- the coordinate is the nearest to 1024 · (low + num / d), for a d of either sign
pub coordinate_nearest : (low num d : ℤ) → d ≢ 0ℤ → IsNearest (pos steps_per_unit ⊗ (low ⊗ d ⊕ num)) d (coordinate_steps low num d)
unfolding over_size neg
coordinate_nearest low num (pos d) h = size_nearest low num (pos d) h
coordinate_nearest low num (negsuc d) h =
    let u : ℤ = pos steps_per_unit in
    let same : neg (u ⊗ (low ⊗ pos (suc d) ⊕ neg num)) ≡ u ⊗ (low ⊗ neg (pos (suc d)) ⊕ num) =
    solve (:neg (var 0 :* (var 1 :* var 2 :+ :neg (var 3)))) (var 0 :* (var 1 :* :neg (var 2) :+ var 3)) (u ∷ low ∷ pos (suc d) ∷ num ∷ []) refl in
    subst (λ a. IsNearest a (negsuc d) (coordinate_steps low num (negsuc d))) same
    (nearest_turned (u ⊗ (low ⊗ pos (suc d) ⊕ neg num)) (pos (suc d)) (coordinate_steps low num (negsuc d)) (size_nearest low num (negsuc d) h))

-- ---- a point

module _ (n : ℕ) (cs : List Column) (ms : List ℕ) where
  -- the coordinate at index k of those from axis a on is that of axis b = a + k
  coordinate_at :
      (a b : ℕ) (v : Vertex) (k : ℕ) → k < length v → a + k ≡ b
      → get_or (point_from n cs ms a v) k 0ℤ ≡ coordinate_steps (get_or v k 0ℤ) (weight_sum n cs 1 ms b) (determinant n cs)
  unfolding point_from
  coordinate_at a b [] k h e = absurd (omega arith)
  coordinate_at a b (x ∷ v) zero h e =
      let same : a ≡ b = omega arith in ap (λ c. coordinate_steps x (weight_sum n cs 1 ms c) (determinant n cs)) same
  coordinate_at a b (x ∷ v) (suc k) h e = coordinate_at (suc a) b v k (omega arith) (omega arith)

  -- there is one for each axis
  points_length : (a : ℕ) (v : Vertex) → length (point_from n cs ms a v) ≡ length v
  unfolding point_from
  points_length a [] = refl
  points_length a (x ∷ v) = ap suc (points_length (suc a) v)

pub point_length : (n : ℕ) (φ : Field) (f : Facet) → length (point_of n φ f) ≡ length f.low
unfolding point_of
point_length n φ f = points_length n (columns φ (facet_vertices f)) f.masks 0 f.low

-- D of a crossed facet is not 0
crossed_d : (n : ℕ) (φ : Field) (f : Facet) → crossed_facet n φ f ≡ true → facet_d n φ f ≢ 0ℤ
unfolding crossed_facet facet_d
crossed_d n φ f x e = crossed_nonzero n (columns φ (facet_vertices f)) x (ap sign e ∙ sign_zero)

-- the point of a crossed facet: on each axis the nearest to the exact coordinate
pub point_nearest :
    (n : ℕ) (φ : Field) (f : Facet) → crossed_facet n φ f ≡ true → (k : ℕ) → k < length f.low
    → IsNearest (exact_steps n φ f k) (facet_d n φ f) (get_or (point_of n φ f) k 0ℤ)
unfolding facet_d exact_steps point_of
point_nearest n φ f x k h =
    let cs : List Column = columns φ (facet_vertices f) in
    subst (IsNearest (pos steps_per_unit ⊗ (get_or f.low k 0ℤ ⊗ determinant n cs ⊕ weight_sum n cs 1 f.masks k)) (determinant n cs))
    (sym (coordinate_at n cs f.masks 0 k f.low k h (omega arith)))
    (coordinate_nearest (get_or f.low k 0ℤ) (weight_sum n cs 1 f.masks k) (determinant n cs) (crossed_d n φ f x))

-- and Point, where it refuses nothing, answers v exactly if v is the nearest on each axis
pub pointed_nearest : (s p : List ℕ) (v : List ℤ) → point_refusal s p ≡ 0 → (pointed s p ≡ answered v) ↔ NearestPoint s p v
unfolding pointed point_refusal crossed_in facet_of
pointed_nearest s p v h = (there, back)
  where
    n : ℕ
    n = dimension s

    f : Facet
    f = (decode_place (dimension s) p).facet

    crossed : crossed_facet (dimension s) (field_of s) (decode_place (dimension s) p).facet ≡ true
    crossed = not-false _ (not_refused _ 11 _ (omega arith) (neither_refused _ _ h).next).test

    nearest :
        (k : ℕ) → k < dimension s
        → IsNearest (exact_steps n (field_of s) f k) (facet_d n (field_of s) f) (get_or (point_of n (field_of s) f) k 0ℤ)
    nearest k l = point_nearest n (field_of s) f crossed k (omega (arith, decoded_low_length (dimension s) p, l))

    axes : length (point_of n (field_of s) f) ≡ dimension s
    axes = point_length n (field_of s) f ∙ decoded_low_length (dimension s) p

    there : pointed s p ≡ answered v → NearestPoint s p v
    there e =
        let is : point_of n (field_of s) f ≡ v = (answered_inv (point_refusal s p) (point_of n (field_of s) f) v e).is in
        record {
          axes = sym (ap length is) ∙ axes;
          nearest = λ k l. subst (λ w. IsNearest (exact_steps n (field_of s) f k) (facet_d n (field_of s) f) (get_or w k 0ℤ)) is (nearest k l);
        }

    back : NearestPoint s p v → pointed s p ≡ answered v
    back w =
        unless_answered (point_of n (field_of s) f) h
        ∙ ap answered
        (ext_get_or 0ℤ (point_of n (field_of s) f) v (axes ∙ sym w.axes)
        (λ k l. nearest_unique _ _ _ _ (crossed_d n (field_of s) f crossed) (nearest k (omega (arith, axes, l))) (w.nearest k (omega (arith, axes, l)))))
