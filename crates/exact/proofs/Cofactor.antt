-- A coefficient is a cofactor: the determinant without the vertex's column and the power's row, with the sign of the two indices' sum. Over any
-- number of columns. Idea: the unit column moves to the front, where of all rows only the power's takes it for 1.
use Prim.Native.Nat.{ℕ, suc, zero, ◌+◌, ◌%◌, ◌≤◌, ◌<◌}
use native.Mathlib.Omega.{arith}
use mathlib.Core.Path.{◌≡◌, refl, sym, ap, ap₂, ◌∙◌, fun_ext}
use mathlib.Core.Logic.{◌≢◌}
use mathlib.Core.List.{List, [], ◌∷◌, map}
use lib.IntN.{ℤ}
use lib.ListN.{length, get_or, set}
use Rattle.exact.specs.Int.{◌⊖◌, ◌⊗◌, neg, 0ℤ, 1ℤ}
use Rattle.exact.specs.Det.{Column, laplace, if_none, det, rows_from, determinant}
use Rattle.exact.specs.Crossed.{count_from, unit_column, coefficient, remove}
use Rattle.exact.specs.Minors.{alternate, skip}
use Rattle.exact.proofs.Ring.{one_mul, neg_neg}
use Rattle.exact.proofs.Identities.{ring}
use Rattle.exact.proofs.Alternate.{alternate_twice}
use Rattle.exact.proofs.DetRows.{laplace_zero_rest, laplace_neg_rest}
use Rattle.exact.proofs.DetColumns.{det_swaps}
use Rattle.exact.proofs.Tagged.{PicksNone, Picks, insert_front}
use Rattle.exact.proofs.Rows.{row}
use Rattle.exact.proofs.CountFrom.{remove_map_count_from}

module _ {C : Type 0} (u : C) where
  -- a first column that every row takes for 0
  front_none : (hs : List (C → ℤ)) → PicksNone (λ h. h u) hs → (xs : List C) → det hs (u ∷ xs) ≡ 0ℤ
  unfolding det laplace if_none
  front_none [] k xs = refl
  front_none (h ∷ hs) k xs =
      ap₂ (λ a b. a ⊗ det hs xs ⊖ b) k.0 (ap (λ E. laplace h E xs) (fun_ext (front_none hs k.1)) ∙ laplace_zero_rest h xs)
      ∙ simp ring

  laplace_alternate_rest :
      (j : ℕ) (h : C → ℤ) (D : List C → ℤ) (xs : List C) → laplace h (λ ys. alternate j (D ys)) xs ≡ alternate j (laplace h D xs)
  unfolding alternate
  laplace_alternate_rest zero h D xs = refl
  laplace_alternate_rest (suc j) h D xs =
      laplace_neg_rest h (λ ys. alternate j (D ys)) xs ∙ ap neg (laplace_alternate_rest j h D xs)

  -- a first column that row j alone takes for 1, and the others for 0
  front_picks :
      (j : ℕ) (hs : List (C → ℤ)) → Picks (λ h. h u) j hs → (xs : List C) → det hs (u ∷ xs) ≡ alternate j (det (remove j hs) xs)
  unfolding det laplace alternate remove
  front_picks j [] k xs = absurd k
  front_picks zero (h ∷ hs) k xs =
      ap₂ (λ a b. a ⊗ det hs xs ⊖ b) k.0 (ap (λ E. laplace h E xs) (fun_ext (front_none hs k.1)) ∙ laplace_zero_rest h xs)
      ∙ simp (ring, one_mul)
  front_picks (suc j) (h ∷ hs) k xs =
      ap₂ (λ a b. a ⊗ det hs xs ⊖ b) k.0
      (ap (λ E. laplace h E xs) (fun_ext (front_picks j hs k.1)) ∙ laplace_alternate_rest j h (det (remove j hs)) xs)
      ∙ simp ring

  -- the same column in place of column i
  pub set_picks :
      (i j : ℕ) (hs : List (C → ℤ)) → Picks (λ h. h u) j hs → (cs : List C) → i < length cs
      → det hs (set cs i u) ≡ alternate i (alternate j (det (remove j hs) (remove i cs)))
  set_picks i j hs k cs l =
      sym (alternate_twice i (det hs (set cs i u)))
      ∙ ap (alternate i) (sym (insert_front (det hs) (det_swaps hs) u i cs l) ∙ front_picks j hs k (remove i cs))

-- ---- the unit columns
unit_same : (j : ℕ) → get_or (unit_column j) j 0ℤ ≡ 1ℤ
unfolding unit_column
unit_same zero = refl
unit_same (suc j) = unit_same j

unit_other : (j k : ℕ) → j ≢ k → get_or (unit_column j) k 0ℤ ≡ 0ℤ
unfolding unit_column
unit_other zero zero h = absurd (h refl)
unit_other zero (suc k) h = refl
unit_other (suc j) zero h = refl
unit_other (suc j) (suc k) h = unit_other j k (λ e. h (ap suc e))

rows_none : (j k m : ℕ) → j < k → PicksNone (λ h. h (unit_column j)) (rows_from k m)
unfolding rows_from
rows_none j k zero h = tt
rows_none j k (suc m) h = (unit_other j k (omega arith), rows_none j (suc k) m (omega arith))

rows_pick : (i j k m : ℕ) → j ≡ k + i → i < m → Picks (λ h. h (unit_column j)) i (rows_from k m)
unfolding rows_from
rows_pick i j k zero e h = absurd (omega arith)
rows_pick zero j k (suc m) e h =
    let w : k ≡ j = omega arith in
    (rw w (unit_same j), rows_none j (suc k) m (omega arith))
rows_pick (suc i) j k (suc m) e h = (unit_other j k (omega arith), rows_pick i j (suc k) m (omega arith) (omega arith))

pub coefficient_minor :
    (n : ℕ) (cs : List Column) (i j : ℕ) → i < length cs → j < n
    → coefficient n cs i j ≡ alternate i (alternate j (det (remove j (rows_from 0 n)) (remove i cs)))
unfolding coefficient determinant
coefficient_minor n cs i j hi hj = set_picks (unit_column j) i j (rows_from 0 n) (rows_pick j j 0 n (omega arith) hj) cs hi

-- ---- the sign of a cofactor
pub alternate_add : (i j : ℕ) (x : ℤ) → alternate i (alternate j x) ≡ alternate (i + j) x
unfolding alternate
alternate_add zero j x = let whole : j ≡ 0 + j = omega arith in ap (λ k. alternate k x) whole
alternate_add (suc i) j x =
    let next : suc (i + j) ≡ suc i + j = omega arith in ap neg (alternate_add i j x) ∙ ap (λ k. alternate k x) next

pub alternate_even : (k : ℕ) (x : ℤ) → k % 2 ≡ 0 → alternate k x ≡ x
unfolding alternate
alternate_even zero x h = refl
alternate_even (suc zero) x h = absurd (omega arith)
alternate_even (suc (suc k)) x h = neg_neg (alternate k x) ∙ alternate_even k x (omega arith)

pub alternate_odd : (k : ℕ) (x : ℤ) → k % 2 ≢ 0 → alternate k x ≡ neg x
unfolding alternate
alternate_odd zero x h = absurd (h (omega arith))
alternate_odd (suc k) x h = ap neg (alternate_even k x (omega arith))

-- ---- the rows that are left
rows_map : (k m : ℕ) → rows_from k m ≡ map row (count_from k m)
unfolding rows_from count_from
rows_map k zero = refl
rows_map k (suc m) = ap (λ l. row k ∷ l) (rows_map (suc k) m)

pub rows_without : (m j : ℕ) → j ≤ m → remove j (rows_from 0 (suc m)) ≡ map (λ r. row (skip j r)) (count_from 0 m)
rows_without m j h = ap (remove j) (rows_map 0 (suc m)) ∙ remove_map_count_from row j m h
