-- The search for a row by its order's digits, step by step, and the rows that it looks at: those that begin with one axis are rows of the table.
use Prim.Native.Nat.{ℕ, suc, zero, ◌+◌, ◌-◌, ◌*◌, ◌/◌, ◌≤◌, ◌<◌}
use mathlib.Core.Path.{◌≡◌, ap, ap₂}
use native.Mathlib.Omega.{arith}
use lib.ListN.{length}
use borrow.Author.Tests.{eq-eqb, ne_eqb}
use Rattle.curves.specs.Grid.{orders}
use Rattle.bits.specs.Axes.{Axes}
use Rattle.bits.proofs.EachDimension.{each_axes}
use Rattle.table.proofs.TableRows.{row_inside_lem}
use Rattle.table.specs.Table.{first_row, order_at, order_word, block_size, row_from, found_row, InTable}

-- ---- one step

module _ (n w row : ℕ) where
  pub row_found : (m : ℕ) → 0 < m → order_word (order_at n row) ≡ w → row_from n w row m ≡ row
  unfolding row_from
  row_found zero l e = absurd (omega arith)
  row_found (suc m) l e = rw (eq-eqb (order_word (order_at n row)) w e)

  pub row_next : (m : ℕ) → (order_word (order_at n row) ≡ w → ⊥) → row_from n w row (suc m) ≡ row_from n w (row + 1) m
  unfolding row_from
  row_next m k = rw (ne_eqb (order_word (order_at n row)) w k)

  pub row_left : (m : ℕ) → m ≡ 0 → row_from n w row m ≡ row
  unfolding row_from
  row_left m e = ap (row_from n w row) e

-- ---- the rows that begin with one axis

blocks_inside : (n : ℕ) → Axes n → (a : ℕ) → a < n → a * block_size n + block_size n ≤ length (orders n)
unfolding block_size orders
blocks_inside n h =
    each_axes (λ n. (a : ℕ) → a < n → a * block_size n + block_size n ≤ length (orders n))
    (λ a l. omega arith) (λ a l. omega arith) (λ a l. omega arith) n h

block_some : (n : ℕ) → Axes n → 0 < block_size n
unfolding block_size
block_some n h = each_axes (λ n. 0 < block_size n) (omega arith) (omega arith) (omega arith) n h

rows_few : (n : ℕ) → Axes n → length (orders n) ≤ 24
unfolding orders
rows_few n h = each_axes (λ n. length (orders n) ≤ 24) (omega arith) (omega arith) (omega arith) n h

module _ (n w : ℕ) (pre : (Axes n) × (w / 4096 < n)) {s : ℕ} (is_size : s ≡ block_size n) where
  pub size_some : 0 < s
  size_some = omega (arith, block_some n pre.0)

  block_inside : w / 4096 * s + s ≤ length (orders n)
  block_inside = rw is_size (blocks_inside n pre.0 (w / 4096) pre.1)

  pub block_few : w / 4096 * s + s ≤ 24
  block_few = omega (arith, block_inside, rows_few n pre.0)

  pub block_row : (row : ℕ) → row < w / 4096 * s + s - 1 → InTable n row
  block_row row l = record { axes = pre.0; inside = omega (arith, block_inside) }

  pub block_within : {first : ℕ} → first ≡ first_row n → (row : ℕ) → row < w / 4096 * s + s - 1 → first + row < 32
  block_within e row l = row_inside_lem n row (block_row row l) e

  -- the search begins with the first of them
  pub search_starts : row_from n w (w / 4096 * s) (w / 4096 * s + s - 1 - w / 4096 * s) ≡ found_row n w
  unfolding found_row
  search_starts = ap₂ (row_from n w) (ap (λ b. w / 4096 * b) is_size) (omega (arith, is_size))
