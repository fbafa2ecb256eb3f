-- The values of the new vertex put into the cells: its column is put into the columns, and the others stay.
use Prim.Native.Nat.{ℕ, suc, zero, ◌+◌, ◌*◌, ◌-◌, ◌≤◌, ◌<◌}
use native.Mathlib.Omega.{arith}
use native.Mathlib.Decide.{dec_lt}
use mathlib.Core.Path.{◌≡◌, sym, ap, ap₂, ◌∙◌}
use mathlib.Core.Bool.{Bool, true}
use mathlib.Core.List.{List, ◌∷◌, map}
use lib.IntN.{ℤ}
use lib.ListN.{get_or, set}
use Rattle.exact.specs.Int.{0ℤ, 1ℤ}
use Rattle.exact.specs.Crossed.{count_from}
use Rattle.exact.proofs.CountFrom.{map_count_from_ext}
use Rattle.curves.specs.Grid.{Vertex}
use Rattle.curves.specs.Step.{column}
use Rattle.paper.specs.Values.{field_of}
use Rattle.determinants.specs.Cells.{column_at, simplex_columns}
use Rattle.field.specs.Put.{ValuesPut}

-- a list of values that differ from others at most at i is the others' list with the one put at i
set_map :
    {A : Type 0} (f g : ℕ → A) (x : A) (k m i : ℕ) → i < m → g (k + i) ≡ x → ((j : ℕ) → (j ≡ k + i → ⊥) → g j ≡ f j)
    → map g (count_from k m) ≡ set (map f (count_from k m)) i x
unfolding count_from
set_map f g x k zero i l e h = absurd (omega arith)
set_map f g x k (suc m) zero l e h =
    let same : k ≡ k + 0 = omega arith in
    ap₂ (λ y l. y ∷ l) (ap g same ∙ e) (map_count_from_ext g f (suc k) m (λ j low high. h j (λ z. omega arith)))
set_map f g x k (suc m) (suc i) l e h =
    let next : k + suc i ≡ suc k + i = omega arith in
    ap₂ (λ y l. y ∷ l) (h k (λ z. omega arith))
    (set_map f g x (suc k) m i (omega arith) (ap g (sym next) ∙ e) (λ j d. h j (λ z. d (z ∙ next))))

module _ {s : List ℕ} {n : ℕ} {v : Vertex} {i : ℕ} {before : List ℤ} {r : Bool} {after : List ℤ} (l : i ≤ n)
    (put : ValuesPut s n v i before r after) where
  -- the column of another vertex
  other_column : (q : ℕ) → (q ≡ i → ⊥) → column_at n after q ≡ column_at n before q
  unfolding column_at
  other_column q d = ap (λ l. 1ℤ ∷ l) (map_count_from_ext _ _ 0 (n - 1) (λ p low high. at p (omega arith) (dec_lt q i)))
    where
      at : (p : ℕ) → p < n - 1 → Dec (q < i) → get_or after (3 * q + p) 0ℤ ≡ get_or before (3 * q + p) 0ℤ
      at p u (yes h) = put.lower (3 * q + p) (omega (arith, put.cells.axes.high))
      at p u (no h) = put.upper (3 * q + p) (omega (arith, d, put.cells.axes.high))

  -- the columns after it
  pub column_put : r ≡ true → simplex_columns n after ≡ set (simplex_columns n before) i (column (field_of s) v)
  unfolding simplex_columns
  column_put e =
      set_map (column_at n before) (column_at n after) (column (field_of s) v) 0 (suc n) i (omega arith) (at_new (put.column e))
      (λ j d. other_column j (λ z. d (let same : i ≡ 0 + i = omega arith in z ∙ same)))
    where
      at_new : column_at n after i ≡ column (field_of s) v → column_at n after (0 + i) ≡ column (field_of s) v
      at_new h = let same : 0 + i ≡ i = omega arith in ap (column_at n after) same ∙ h
