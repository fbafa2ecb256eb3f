-- Columns with their index. A row that is 1 at one column and 0 at all others takes that column out (`laplace_picks`); with the columns
-- tagged by their index there is such a row for each. So the minors of a simplex are the bordered determinants of proofs/ThreeTerms.
use Prim.Native.Nat.{ℕ, suc, zero, ◌+◌, ◌<◌}
use native.Mathlib.Omega.{arith}
use mathlib.Core.Path.{◌≡◌, refl, ap, ap₂, ◌∙◌, fun_ext}
use mathlib.Core.Logic.{◌≢◌}
use mathlib.Core.List.{List, [], ◌∷◌, map}
use lib.IntN.{ℤ}
use lib.ListN.{length, set}
use Rattle.exact.specs.Int.{◌⊖◌, ◌⊗◌, neg, 0ℤ, 1ℤ}
use Rattle.exact.specs.Det.{laplace, det, if_none}
use Rattle.exact.specs.Crossed.{remove}
use Rattle.exact.specs.Minors.{alternate, position}
use Rattle.exact.proofs.Ring.{one_mul}
use Rattle.exact.proofs.Alternate.{alternate_twice}
use Rattle.exact.proofs.Identities.{ring}
use Rattle.exact.proofs.Position.{length_remove, position_lt}
use Rattle.exact.proofs.DetColumns.{Swaps, det_swaps}
use Rattle.exact.proofs.ThreeTerms.{bordered, twice_bordered}

-- ---- a row that picks one column
module _ {C : Type 0} where
  -- f is 0 at every column
  abbrev pub PicksNone : (C → ℤ) → List C → Type 0
  PicksNone f [] = Unit
  PicksNone f (x ∷ xs) = (f x ≡ 0ℤ) × PicksNone f xs

  -- f is 1 at column i and 0 at the others
  abbrev pub Picks : (C → ℤ) → ℕ → List C → Type 0
  Picks f i [] = ⊥
  Picks f zero (x ∷ xs) = (f x ≡ 1ℤ) × PicksNone f xs
  Picks f (suc i) (x ∷ xs) = (f x ≡ 0ℤ) × Picks f i xs

  laplace_picks_none : (f : C → ℤ) (D : List C → ℤ) (xs : List C) → PicksNone f xs → laplace f D xs ≡ 0ℤ
  unfolding laplace
  laplace_picks_none f D [] k = refl
  laplace_picks_none f D (x ∷ xs) k =
      ap₂ (λ u w. u ⊗ D xs ⊖ w) k.0 (laplace_picks_none f (λ ys. D (x ∷ ys)) xs k.1) ∙ simp ring

  pub laplace_picks :
      (f : C → ℤ) (D : List C → ℤ) (i : ℕ) (xs : List C) → Picks f i xs → laplace f D xs ≡ alternate i (D (remove i xs))
  unfolding laplace alternate remove
  laplace_picks f D i [] k = absurd k
  laplace_picks f D zero (x ∷ xs) k =
      ap₂ (λ u w. u ⊗ D xs ⊖ w) k.0 (laplace_picks_none f (λ ys. D (x ∷ ys)) xs k.1) ∙ simp (ring, one_mul)
  laplace_picks f D (suc i) (x ∷ xs) k =
      ap₂ (λ u w. u ⊗ D xs ⊖ w) k.0 (laplace_picks f (λ ys. D (x ∷ ys)) i xs k.1) ∙ simp ring

  picks_none_remove : (f : C → ℤ) (p : ℕ) (xs : List C) → PicksNone f xs → PicksNone f (remove p xs)
  unfolding remove
  picks_none_remove f p [] k = tt
  picks_none_remove f zero (x ∷ xs) k = k.1
  picks_none_remove f (suc p) (x ∷ xs) k = (k.0, picks_none_remove f p xs k.1)

  picks_remove : (f : C → ℤ) (p q : ℕ) (xs : List C) → p ≢ q → Picks f q xs → Picks f (position p q) (remove p xs)
  unfolding remove position
  picks_remove f p q [] n k = absurd k
  picks_remove f zero zero (x ∷ xs) n k = absurd (n refl)
  picks_remove f (suc p) zero (x ∷ xs) n k = (k.0, picks_none_remove f p xs k.1)
  picks_remove f zero (suc q) (x ∷ xs) n k = k.1
  picks_remove f (suc p) (suc q) (x ∷ xs) n k = (k.0, picks_remove f p q xs (λ e. n (ap suc e)) k.1)

  -- the column in front goes to place i, which is empty
  pub insert_front :
      (D : List C → ℤ) → Swaps D → (t : C) (i : ℕ) (xs : List C) → i < length xs → D (t ∷ remove i xs) ≡ alternate i (D (set xs i t))
  unfolding remove alternate
  insert_front D s t i [] h = absurd (omega arith)
  insert_front D s t zero (x ∷ xs) h = refl
  insert_front D s t (suc i) (x ∷ xs) h =
      s [] t x (remove i xs) ∙ ap neg (insert_front (λ ys. D (x ∷ ys)) (λ b. s (x ∷ b)) t i xs (omega arith))

-- ---- rows that look at a part of their columns
module _ {B C : Type 0} (s : B → C) where
  laplace_map : (h : C → ℤ) (D : List C → ℤ) (xs : List B) → laplace (λ x. h (s x)) (λ ys. D (map s ys)) xs ≡ laplace h D (map s xs)
  unfolding laplace
  laplace_map h D [] = refl
  laplace_map h D (x ∷ xs) = ap (λ z. h (s x) ⊗ D (map s xs) ⊖ z) (laplace_map h (λ ys. D (s x ∷ ys)) xs)

  -- the rows on B
  abbrev pub on_part : List (C → ℤ) → List (B → ℤ)
  on_part hs = map (λ h x. h (s x)) hs

  pub det_map : (hs : List (C → ℤ)) (xs : List B) → det (on_part hs) xs ≡ det hs (map s xs)
  unfolding det if_none
  det_map [] [] = refl
  det_map [] (x ∷ xs) = refl
  det_map (h ∷ hs) xs = ap (λ E. laplace (λ x. h (s x)) E xs) (fun_ext (det_map hs)) ∙ laplace_map h (det hs) xs

  pub map_remove : (p : ℕ) (xs : List B) → map s (remove p xs) ≡ remove p (map s xs)
  unfolding remove
  map_remove p [] = refl
  map_remove zero (x ∷ xs) = refl
  map_remove (suc p) (x ∷ xs) = ap (λ l. s x ∷ l) (map_remove p xs)

-- ---- columns tagged by their index
-- 1 if the numbers are equal, else 0
unfoldable pub kronecker : ℕ → ℕ → ℤ
kronecker zero zero = 1ℤ
kronecker zero (suc k) = 0ℤ
kronecker (suc p) zero = 0ℤ
kronecker (suc p) (suc k) = kronecker p k

kronecker_same : (p : ℕ) → kronecker p p ≡ 1ℤ
unfolding kronecker
kronecker_same zero = refl
kronecker_same (suc p) = kronecker_same p

kronecker_other : (p k : ℕ) → p ≢ k → kronecker p k ≡ 0ℤ
unfolding kronecker
kronecker_other zero zero n = absurd (n refl)
kronecker_other zero (suc k) n = refl
kronecker_other (suc p) zero n = refl
kronecker_other (suc p) (suc k) n = kronecker_other p k (λ e. n (ap suc e))

module _ {C : Type 0} where
  -- each column with its index, the first with k
  unfoldable pub tag : ℕ → List C → List (ℕ × C)
  tag k [] = []
  tag k (c ∷ cs) = (k, c) ∷ tag (suc k) cs

  -- the row that is 1 at the column with index p
  abbrev pub pick : ℕ → ℕ × C → ℤ
  pick p x = kronecker p x.0

  -- the column behind the index
  abbrev pub untagged : ℕ × C → C
  untagged x = x.1

  pub map_untagged : (k : ℕ) (cs : List C) → map untagged (tag k cs) ≡ cs
  unfolding tag
  map_untagged k [] = refl
  map_untagged k (c ∷ cs) = ap (λ l. c ∷ l) (map_untagged (suc k) cs)

  pub length_tag : (k : ℕ) (cs : List C) → length (tag k cs) ≡ length cs
  unfolding tag
  length_tag k [] = refl
  length_tag k (c ∷ cs) = ap suc (length_tag (suc k) cs)

  picks_none_tag : (p k : ℕ) (cs : List C) → p < k → PicksNone (pick p) (tag k cs)
  unfolding tag
  picks_none_tag p k [] h = tt
  picks_none_tag p k (c ∷ cs) h = (kronecker_other p k (omega arith), picks_none_tag p (suc k) cs (omega arith))

  picks_tag : (i k p : ℕ) (cs : List C) → p ≡ k + i → i < length cs → Picks (pick p) i (tag k cs)
  unfolding tag
  picks_tag i k p [] e h = absurd (omega arith)
  picks_tag zero k p (c ∷ cs) e h =
      let w : p ≡ k = omega arith in
      (rw w (kronecker_same k), picks_none_tag p (suc k) cs (omega arith))
  picks_tag (suc i) k p (c ∷ cs) e h =
      (kronecker_other p k (omega arith), picks_tag i (suc k) p cs (omega arith) (omega arith))

-- ---- the minors are bordered determinants
module _ {C : Type 0} (hs : List (C → ℤ)) (us : List C) where
  pub bordered_pick :
      (p : ℕ) → p < length us → bordered (on_part untagged hs) (tag 0 us) (pick p) ≡ alternate p (det hs (remove p us))
  unfolding bordered det
  bordered_pick p h =
      laplace_picks (pick p) (det (on_part untagged hs)) p (tag 0 us) (picks_tag p 0 p us (omega arith) h)
      ∙ ap (alternate p) (det_map untagged hs (remove p (tag 0 us)) ∙ ap (det hs) (untagged_remove p))
    where
      untagged_remove : (p : ℕ) → map untagged (remove p (tag 0 us)) ≡ remove p us
      untagged_remove p = map_remove untagged p (tag 0 us) ∙ ap (remove p) (map_untagged 0 us)

  pub twice_bordered_pick :
      (t : C) (p q : ℕ) → p < length us → q < length us → p ≢ q
      → twice_bordered (on_part untagged hs) (tag 0 us) (0, t) (pick p) (pick q) ≡ alternate p (det hs (set (remove p us) (position p q) t))
  unfolding twice_bordered
  twice_bordered_pick t p q hp hq ne =
      laplace_picks (pick p) (laplace (pick q) D) p (tag 0 us) (picks_tag p 0 p us (omega arith) hp)
      ∙ ap (alternate p)
      (laplace_picks (pick q) D i (remove p (tag 0 us)) (picks_remove (pick q) p q (tag 0 us) ne (picks_tag q 0 q us (omega arith) hq))
      ∙ ap (alternate i) (det_map untagged hs ((0, t) ∷ remove i (remove p (tag 0 us))) ∙ ap (λ l. det hs (t ∷ l)) both ∙ back)
      ∙ alternate_twice i _)
    where
      i : ℕ
      i = position p q

      D : List (ℕ × C) → ℤ
      D ys = det (on_part untagged hs) ((0, t) ∷ ys)

      both : map untagged (remove i (remove p (tag 0 us))) ≡ remove i (remove p us)
      both =
          map_remove untagged i (remove p (tag 0 us))
          ∙ ap (remove i) (map_remove untagged p (tag 0 us) ∙ ap (remove p) (map_untagged 0 us))

      back : det hs (t ∷ remove i (remove p us)) ≡ alternate i (det hs (set (remove p us) i t))
      back =
          insert_front (det hs) (det_swaps hs) t i (remove p us)
          (let e = length_remove p us hp in position_lt (length (remove p us)) p q (omega arith) (omega arith) ne)
