-- The columns of cells that have moved by one vertex, and the vertex that is new.
use mathlib.Core.Path.{◌≡◌, refl, sym, ap, subst, ◌∙◌}
use mathlib.Core.Bool.{Bool, true, false}
use mathlib.Core.List.{List, ◌∷◌}
use Prim.Native.Nat.{ℕ, suc, ◌+◌, ◌*◌, ◌-◌, ◌≤◌, ◌<◌}
use native.Mathlib.Omega.{arith}
use lib.IntN.{ℤ}
use lib.Dec.{ltb}
use lib.ListN.{length, get_or}
use Rattle.std.specs.List.{CopiedTo, SameBelow, SameFrom}
use borrow.Author.Tests.{eq-eqb, ne_eqb, ltb-true, ltb-false}
use Rattle.exact.specs.Int.{0ℤ, 1ℤ}
use Rattle.exact.specs.Size.{Size}
use Rattle.exact.specs.Minors.{skip}
use Rattle.exact.proofs.CountFrom.{map_count_from_ext}
use Rattle.exact.proofs.Position.{skip_below, skip_above}
use Rattle.determinants.specs.Cells.{Cells, column_at, entry_limit}
use Rattle.determinants.proofs.FacetMinors.{facet_columns_lem}
use Rattle.moves.specs.Columns.{new_index, ColumnsMoved}

-- ---- columns

-- a column holds at most three cells
column_same : {n : ℕ} (before after : List ℤ) (v w : ℕ) → n ≤ 4
    → ((k : ℕ) → k < 3 → get_or after (3 * w + k) 0ℤ ≡ get_or before (3 * v + k) 0ℤ) → column_at n after w ≡ column_at n before v
unfolding column_at
column_same {n} before after v w d h =
    ap (λ l. 1ℤ ∷ l)
    (map_count_from_ext (λ k. get_or after (3 * w + k) 0ℤ) (λ k. get_or before (3 * v + k) 0ℤ) 0 (n - 1) (λ k a b. h k (omega arith)))

-- the cells of each column that is left
columns_moved : {n e out : ℕ} (before after : List ℤ) → e ≤ n → out ≤ n → Cells n after
    → ((v : ℕ) → v < n → (k : ℕ) → k < 3 → get_or after (3 * skip out v + k) 0ℤ ≡ get_or before (3 * skip e v + k) 0ℤ)
    → ColumnsMoved n e out before after
columns_moved {n} {e} {out} before after a b c h =
    record {
      within = c;
      columns = facet_columns_lem n after out b
          ∙ map_count_from_ext (λ v. column_at n after (skip out v)) (λ v. column_at n before (skip e v)) 0 n
          (λ v l u. column_same before after (skip e v) (skip out v) c.axes.high (h v (omega arith)))
          ∙ sym (facet_columns_lem n before e a);
    }

-- cells of which each is one of those before
cells_of : {n : ℕ} {before after : List ℤ} → Cells n before → length after ≡ length before
    → ((q : ℕ) → (p : ℕ) × (get_or after q 0ℤ ≡ get_or before p 0ℤ)) → Cells n after
cells_of {n} c l f =
    record { axes = c.axes; count = l ∙ c.count; entries = λ q. let (p, e) = f q in subst (Size (entry_limit n)) (sym e) (c.entries p) }

-- the cells from the column behind vertex i on hold what stood a vertex lower; the column of vertex i is left out
pub moved_up : {n i : ℕ} {before after : List ℤ} → Cells n before → i ≤ n → length after ≡ length before
    → CopiedTo before after (3 * i) (3 * i + 3) (12 - 3 * i) → SameBelow before after (3 * i + 3) → SameFrom before after (3 * i + 3 + (12 - 3 * i))
    → ColumnsMoved n n i before after
moved_up {n} {i} {before} {after} c l len copied below above =
    columns_moved before after (omega arith) l (cells_of c len each) (λ v u q a. go v u q a (ltb v i) refl)
  where
    at : (q : ℕ) (a b : Bool) → ltb q (3 * i + 3) ≡ a → ltb q 15 ≡ b → (p : ℕ) × (get_or after q 0ℤ ≡ get_or before p 0ℤ)
    at q true b s t = (q, below q 0ℤ (ltb-true q (3 * i + 3) s))
    at q false true s t =
        (3 * i + (q - (3 * i + 3)), copied q 0ℤ (ltb-false q (3 * i + 3) s) (omega (arith, ltb-true q 15 t, c.axes.high, l)))
    at q false false s t = (q, above q 0ℤ (omega (arith, ltb-false q 15 t, c.axes.high, l)))

    each : (q : ℕ) → (p : ℕ) × (get_or after q 0ℤ ≡ get_or before p 0ℤ)
    each q = at q (ltb q (3 * i + 3)) (ltb q 15) refl refl

    go : (v : ℕ) → v < n → (q : ℕ) → q < 3 → (b : Bool) → ltb v i ≡ b → get_or after (3 * skip i v + q) 0ℤ ≡ get_or before (3 * skip n v + q) 0ℤ
    go v u q a true t = rw (skip_below n v u, skip_below i v (ltb-true v i t)) (below (3 * v + q) 0ℤ (omega (arith, ltb-true v i t)))
    go v u q a false t =
        let lower : 3 * i + (3 * suc v + q - (3 * i + 3)) ≡ 3 * v + q = omega (arith, ltb-false v i t) in
        rw (skip_below n v u, skip_above i v (ltb-false v i t))
        (copied (3 * suc v + q) 0ℤ (omega (arith, ltb-false v i t)) (omega (arith, c.axes.high, l)) ∙ ap (λ (p : ℕ). get_or before p 0ℤ) lower)

-- the cells hold what stood a vertex higher
pub moved_down : {n : ℕ} {before after : List ℤ} → Cells n before → length after ≡ length before
    → CopiedTo before after 3 0 12 → SameFrom before after 12 → ColumnsMoved n 0 n before after
moved_down {n} {before} {after} c len copied above = columns_moved before after (omega arith) (omega arith) (cells_of c len each) go
  where
    at : (q : ℕ) (b : Bool) → ltb q 12 ≡ b → (p : ℕ) × (get_or after q 0ℤ ≡ get_or before p 0ℤ)
    at q true t = (3 + (q - 0), copied q 0ℤ (omega arith) (omega (arith, ltb-true q 12 t)))
    at q false t = (q, above q 0ℤ (omega (arith, ltb-false q 12 t)))

    each : (q : ℕ) → (p : ℕ) × (get_or after q 0ℤ ≡ get_or before p 0ℤ)
    each q = at q (ltb q 12) refl

    go : (v : ℕ) → v < n → (q : ℕ) → q < 3 → get_or after (3 * skip n v + q) 0ℤ ≡ get_or before (3 * skip 0 v + q) 0ℤ
    go v u q a =
        let higher : 3 + (3 * v + q - 0) ≡ 3 * suc v + q = omega arith in
        rw (skip_below n v u, skip_above 0 v (omega arith))
        (copied (3 * v + q) 0ℤ (omega arith) (omega (arith, c.axes.high)) ∙ ap (λ (p : ℕ). get_or before p 0ℤ) higher)

-- ---- the vertex that is new

module _ (n e : ℕ) where
  pub index_first : e ≡ 0 → n ≡ new_index n e
  unfolding new_index
  index_first z = rw (eq-eqb e 0 z)

  pub index_last : (e ≡ 0 → ⊥) → e ≡ n → 0 ≡ new_index n e
  unfolding new_index
  index_last z l = rw (ne_eqb e 0 z, eq-eqb e n l)

  pub index_between : (e ≡ 0 → ⊥) → (e ≡ n → ⊥) → e ≡ new_index n e
  unfolding new_index
  index_between z l = rw (ne_eqb e 0 z, ne_eqb e n l)

module _ {n e : ℕ} {before : List ℤ} where
  pub columns_first : {after : List ℤ} → e ≡ 0 → ColumnsMoved n 0 n before after → ColumnsMoved n e (new_index n e) before after
  columns_first z h = rw (← index_first n e z, z) h

  pub columns_last : {out : ℕ} {after : List ℤ} → (e ≡ 0 → ⊥) → e ≡ n → ColumnsMoved n n out before after → out ≡ 0
      → ColumnsMoved n e (new_index n e) before after
  columns_last z l h o = rw (← index_last n e z l, l, ← o) h

  pub columns_between : (e ≡ 0 → ⊥) → (e ≡ n → ⊥) → Cells n before → ColumnsMoved n e (new_index n e) before before
  columns_between z l c = rw (← index_between n e z l) (record { within = c; columns = refl })
