-- The entries that the code reads from the cells: their sizes, and that they are the entries of the columns.
use Prim.Native.Nat.{ℕ, suc, zero, ◌+◌, ◌*◌, ◌^◌, ◌-◌, ◌%◌, ◌≤◌, ◌<◌}
use mathlib.Core.Path.{◌≡◌, refl, sym, ap, ap₂, ◌∙◌, subst}
use mathlib.Core.List.{List, [], ◌∷◌, map}
use native.Mathlib.Omega.{arith}
use lib.IntN.{ℤ, pos, ◌-ℤ◌}
use lib.Dec.{lit≤}
use lib.ListN.{length, get_or}
use mir.Syntax.{w64}
use mir.Val.{SFits}
use Rattle.exact.specs.Int.{neg, 0ℤ, 1ℤ, ◌⊗◌, ◌⊖◌, ◌⊕◌}
use Rattle.exact.specs.Size.{Size, Is}
use Rattle.exact.specs.Minors.{alternate}
use Rattle.exact.specs.Det.{det}
use Rattle.exact.proofs.SizeLaws.{size_pos, size_neg, size_weaken, size_sub, size_mul}
use Rattle.exact.proofs.Bits.{holds_call, back, back_is, fits_sub, holds_sub}
use Rattle.exact.proofs.Ring.{sub_eq, zero-add}
use Rattle.exact.proofs.Cofactor.{alternate_even, alternate_odd}
use Rattle.exact.proofs.CountFrom.{get_d_map_count_from}
use Rattle.exact.proofs.SmallDeterminants.{det_two, det_three}
use Rattle.paper.specs.Limits.{readable_limit}
use Rattle.bits.specs.Axes.{Axes}
use Rattle.bits.proofs.EachDimension.{each_axes}
use Rattle.determinants.specs.Cells.{Cells, column_at, entry_limit}
use Rattle.determinants.specs.Entries.{entry_at, CellsWithin, Held, coefficient_limit}

-- ---- the two ways of `entry`
pub top_entry : (cells : List ℤ) (r v : ℕ) → r ≡ 0 → 1ℤ ≡ entry_at cells r v
unfolding entry_at
top_entry cells r v e = ap (λ k. entry_at cells k v) (sym e)

pub lower_entry :
    (cells : List ℤ) (r v : ℕ) → CellsWithin (entry_limit 3) cells → (r ≡ 0 → ⊥) → back (get_or cells (3 * v + (r - 1)) 0ℤ) ≡ entry_at cells r v
unfolding entry_at entry_limit readable_limit
lower_entry cells zero v w h = absurd (h refl)
lower_entry cells (suc k) v w h =
    let same : 3 * v + (suc k - 1) ≡ 3 * v + k = omega arith in
    back_is (w.entries (3 * v + (suc k - 1))) (lit≤ tt) ∙ ap (λ i. get_or cells i 0ℤ) same

-- ---- sizes
pub entry_size : (m : ℕ) (cells : List ℤ) → CellsWithin m cells → 1 ≤ m → (r v : ℕ) → Size m (entry_at cells r v)
unfolding entry_at
entry_size m cells w l zero v = size_weaken (size_pos 1) l
entry_size m cells w l (suc k) v = w.entries (3 * v + k)

-- what a call of `entry` gives
pub entry_held :
    {m : ℕ} {cells : List ℤ} → CellsWithin m cells → 1 ≤ m → m ≤ 2 ^ 63 - 1 → (r v : ℕ) {z : ℤ} → z ≡ entry_at cells r v
    → Is m (entry_at cells r v) (back z)
entry_held {m} {cells} w l h r v e = holds_call (record { is = e; size = entry_size m cells w l r v }) h

-- an entry of a determinant of two rows, and one of three
pub entry_of_two :
    {cells : List ℤ} → CellsWithin (entry_limit 3) cells → (r v : ℕ) {z : ℤ} → z ≡ entry_at cells r v → Is (2 ^ 28) (entry_at cells r v) (back z)
unfolding entry_limit readable_limit
entry_of_two w r v e = entry_held w (lit≤ tt) (lit≤ tt) r v e

pub entry_of_three :
    {cells : List ℤ} → CellsWithin (entry_limit 4) cells → (r v : ℕ) {z : ℤ} → z ≡ entry_at cells r v → Is (2 ^ 19) (entry_at cells r v) (back z)
unfolding entry_limit readable_limit
entry_of_three w r v e = entry_held w (lit≤ tt) (lit≤ tt) r v e

-- ---- two and three rows as lists

two : (l : List ℕ) → length l ≡ 2 → l ≡ get_or l 0 0 ∷ get_or l 1 0 ∷ []
two [] h = absurd (omega arith)
two (a ∷ []) h = absurd (omega arith)
two (a ∷ b ∷ []) h = refl
two (a ∷ b ∷ c ∷ l) h = absurd (omega arith)

three : (l : List ℕ) → length l ≡ 3 → l ≡ get_or l 0 0 ∷ get_or l 1 0 ∷ get_or l 2 0 ∷ []
three [] h = absurd (omega arith)
three (a ∷ []) h = absurd (omega arith)
three (a ∷ b ∷ []) h = absurd (omega arith)
three (a ∷ b ∷ c ∷ []) h = refl
three (a ∷ b ∷ c ∷ d ∷ l) h = absurd (omega arith)

module _ (f : ℕ → ℕ → ℤ) (rows vertices : List ℕ) where
  -- row i at vertex k, and the two last rows at two vertices
  abbrev pub at : ℕ → ℕ → ℤ
  at i k = f (get_or rows i 0) (get_or vertices k 0)

  abbrev pub lower : ℕ → ℕ → ℤ
  lower a b = det (map f (get_or rows 1 0 ∷ get_or rows 2 0 ∷ [])) (get_or vertices a 0 ∷ get_or vertices b 0 ∷ [])

  pub det_of_two : length rows ≡ 2 → length vertices ≡ 2 → at 0 0 ⊗ at 1 1 ⊖ at 0 1 ⊗ at 1 0 ≡ det (map f rows) vertices
  det_of_two h k = sym (ap₂ (λ rs cs. det (map f rs) cs) (two rows h) (two vertices k) ∙ det_two _ _ _ _)

  pub det_of_three :
      length rows ≡ 3 → length vertices ≡ 3 → at 0 0 ⊗ lower 1 2 ⊖ at 0 1 ⊗ lower 0 2 ⊕ at 0 2 ⊗ lower 0 1 ≡ det (map f rows) vertices
  det_of_three h k = sym (ap₂ (λ rs cs. det (map f rs) cs) (three rows h) (three vertices k) ∙ det_three _ _ _ _ _ _)

-- ---- the sign of a cofactor

module _ (m : ℤ) (size : Size coefficient_limit m) where
  given : Is coefficient_limit m (back m)
  given = holds_call (record { is = refl; size = size }) (lit≤ tt)

  nought : Is 0 0ℤ (pos 0)
  nought = record { is = refl; size = size_pos 0 }

  pub opposite_fits : SFits w64 (pos 0 -ℤ back m)
  opposite_fits = fits_sub nought given (lit≤ tt)

  pub alternated_even : (k : ℕ) → k % 2 ≡ 0 → Is coefficient_limit (alternate k m) (back m)
  alternated_even k even = subst (λ z. Is coefficient_limit z (back m)) (sym (alternate_even k m even)) given

  pub alternated_odd : (k : ℕ) → (k % 2 ≡ 0 → ⊥) → Is coefficient_limit (alternate k m) (back (pos 0 -ℤ back m))
  alternated_odd k odd =
      subst (λ z. Is coefficient_limit z (back (pos 0 -ℤ back m))) (sym (alternate_odd k m odd))
      (record { is = (holds_sub nought given (lit≤ tt)).is ∙ sub_eq 0ℤ m ∙ zero-add (neg m); size = size_neg size })

-- what a call of `two_rows` gives within a determinant of three rows
pub two_rows_of_three :
    {cells : List ℤ} → CellsWithin (entry_limit 4) cells → (rows vertices : List ℕ) → length rows ≡ 2 → length vertices ≡ 2
    → {z : ℤ} → z ≡ det (map (entry_at cells) rows) vertices → Is (2 ^ 39) (det (map (entry_at cells) rows) vertices) (back z)
unfolding entry_limit readable_limit
two_rows_of_three {cells} w rows vertices h k e =
    let size : (k v : ℕ) → Size (2 ^ 19) (entry_at cells k v) = entry_size (2 ^ 19) cells w (lit≤ tt) in
    holds_call
    (record {
      is = e;
      size = subst (Size (2 ^ 39)) (det_of_two (entry_at cells) rows vertices h k)
          (size_weaken (size_sub (size_mul (size _ _) (size _ _)) (size_mul (size _ _) (size _ _))) (lit≤ tt));
    })
    (lit≤ tt)

-- rows and vertices that are written out
pub held_two : {r s a b : ℕ} → r < 4 → s < 4 → a < 5 → b < 5 → Held (r ∷ s ∷ []) (a ∷ b ∷ [])
held_two {r} {s} {a} {b} hr hs ha hb = record { row = row; vertex = vertex }
  where
    row : (k : ℕ) → get_or (r ∷ s ∷ []) k 0 < 4
    row zero = hr
    row (suc zero) = hs
    row (suc (suc k)) = omega arith

    vertex : (k : ℕ) → get_or (a ∷ b ∷ []) k 0 < 5
    vertex zero = ha
    vertex (suc zero) = hb
    vertex (suc (suc k)) = omega arith

pub held_three : {r s t a b c : ℕ} → r < 4 → s < 4 → t < 4 → a < 5 → b < 5 → c < 5 → Held (r ∷ s ∷ t ∷ []) (a ∷ b ∷ c ∷ [])
held_three {r} {s} {t} {a} {b} {c} hr hs ht ha hb hc = record { row = row; vertex = vertex }
  where
    row : (k : ℕ) → get_or (r ∷ s ∷ t ∷ []) k 0 < 4
    row zero = hr
    row (suc zero) = hs
    row (suc (suc zero)) = ht
    row (suc (suc (suc k))) = omega arith

    vertex : (k : ℕ) → get_or (a ∷ b ∷ c ∷ []) k 0 < 5
    vertex zero = ha
    vertex (suc zero) = hb
    vertex (suc (suc zero)) = hc
    vertex (suc (suc (suc k))) = omega arith

-- the cells of a facet of any dimension are within the limit of two rows, and in dimension 4 within that of three
pub cells_within : {n : ℕ} {cells : List ℤ} → Cells n cells → CellsWithin (entry_limit n) cells
cells_within h = record { count = h.count; entries = h.entries }

pub within_weaken : {m k : ℕ} {cells : List ℤ} → CellsWithin m cells → m ≤ k → CellsWithin k cells
within_weaken w l = record { count = w.count; entries = λ k. size_weaken (w.entries k) l }

pub limit_most : (n : ℕ) → Axes n → entry_limit n ≤ entry_limit 3
unfolding entry_limit readable_limit
limit_most = each_axes (λ n. entry_limit n ≤ entry_limit 3) (lit≤ tt) (lit≤ tt) (lit≤ tt)

pub limit_least : (n : ℕ) → Axes n → 1 ≤ entry_limit n
unfolding entry_limit readable_limit
limit_least = each_axes (λ n. 1 ≤ entry_limit n) (lit≤ tt) (lit≤ tt) (lit≤ tt)

pub within_most : {cells : List ℤ} → CellsWithin (entry_limit 4) cells → CellsWithin (entry_limit 3) cells
unfolding entry_limit readable_limit
within_most w = within_weaken w (lit≤ tt)

pub cells_most : {n : ℕ} {cells : List ℤ} → Cells n cells → CellsWithin (entry_limit 3) cells
cells_most {n} h = within_weaken (cells_within h) (limit_most n h.axes)

pub cells_four : {n : ℕ} {cells : List ℤ} → Cells n cells → n ≡ 4 → CellsWithin (entry_limit 4) cells
cells_four {n} {cells} h e = subst (λ m. CellsWithin (entry_limit m) cells) e (cells_within h)

-- ---- columns
pub column_entry : (m : ℕ) (cells : List ℤ) (r v : ℕ) → r ≤ m → get_or (column_at (suc m) cells v) r 0ℤ ≡ entry_at cells r v
unfolding column_at entry_at
column_entry m cells zero v h = refl
column_entry m cells (suc k) v h =
    let same : 0 + k ≡ k = omega arith in
    get_d_map_count_from (λ k. get_or cells (3 * v + k) 0ℤ) 0ℤ 0 (suc m - 1) k (omega arith) ∙ ap (λ k. get_or cells (3 * v + k) 0ℤ) same
