-- Every row of the table is an order of its axes, and the constant arrays of the code have the table's entries and the masks of its vertices.
use Prim.Native.Nat.{ℕ, ◌+◌, ◌≤◌, ◌<◌}
use mathlib.Core.Path.{◌≡◌, refl}
use mathlib.Core.Bool.{Bool, true}
use mathlib.Core.List.{List, [], ◌∷◌}
use native.Mathlib.Omega.{arith}
use lib.ListN.{length, get_or}
use lib.Dec.{eqb, ltb}
use borrow.Author.Tests.{eqb-true, ltb-true}
use Rattle.curves.specs.Grid.{orders, is_order, absent, distinct, under, masks_from}
use Rattle.curves.proofs.OrderTests.{order_length}
use Rattle.paper.specs.Job.{all_from}
use Rattle.paper.proofs.Tests.{all_at}
use Rattle.bits.specs.Axes.{Axes}
use Rattle.bits.proofs.EachDimension.{each_axes}
use Rattle.table.specs.Table.{first_row, digit_at, order_at, order_word, axis_at, vertex_mask, InTable, MasksAre}
use Rattle.table.proofs.Tested.{passes}

-- ---- orders

-- a row is an order
row_order : ℕ → ℕ → ℕ → Bool
row_order n row k = is_order n (order_at n row)

pub row_order_lem : (n row : ℕ) → InTable n row → is_order n (order_at n row) ≡ true
unfolding row_order order_at orders is_order absent distinct under all_from
row_order_lem n row h = passes row_order refl refl refl n row 0 h (omega arith)

pub row_length : (n row : ℕ) → InTable n row → length (order_at n row) ≡ n
row_length n row h = order_length n (order_at n row) (row_order_lem n row h)

-- an entry is an axis
axis_under : ℕ → ℕ → ℕ → Bool
axis_under n row k = ltb (axis_at n row k) n

pub axis_under_lem : (n row k : ℕ) → InTable n row → k < n → axis_at n row k < n
unfolding axis_under axis_at order_at orders all_from
axis_under_lem n row k h l = ltb-true (axis_at n row k) n (passes axis_under refl refl refl n row k h (omega arith))

-- ---- the arrays of the code

abbrev pub orders_array : List ℕ
orders_array =
    0x0100 ∷ 0x1000
    ∷ 0x0120 ∷ 0x0210 ∷ 0x1020 ∷ 0x1200 ∷ 0x2010 ∷ 0x2100
    ∷ 0x0123 ∷ 0x0132 ∷ 0x0213 ∷ 0x0231 ∷ 0x0312 ∷ 0x0321
    ∷ 0x1023 ∷ 0x1032 ∷ 0x1203 ∷ 0x1230 ∷ 0x1302 ∷ 0x1320
    ∷ 0x2013 ∷ 0x2031 ∷ 0x2103 ∷ 0x2130 ∷ 0x2301 ∷ 0x2310
    ∷ 0x3012 ∷ 0x3021 ∷ 0x3102 ∷ 0x3120 ∷ 0x3201 ∷ 0x3210 ∷ []

abbrev pub masks_array : List ℕ
masks_array =
    0x1300 ∷ 0x2300
    ∷ 0x1370 ∷ 0x1570 ∷ 0x2370 ∷ 0x2670 ∷ 0x4570 ∷ 0x4670
    ∷ 0x137F ∷ 0x13BF ∷ 0x157F ∷ 0x15DF ∷ 0x19BF ∷ 0x19DF
    ∷ 0x237F ∷ 0x23BF ∷ 0x267F ∷ 0x26EF ∷ 0x2ABF ∷ 0x2AEF
    ∷ 0x457F ∷ 0x45DF ∷ 0x467F ∷ 0x46EF ∷ 0x4CDF ∷ 0x4CEF
    ∷ 0x89BF ∷ 0x89DF ∷ 0x8ABF ∷ 0x8AEF ∷ 0x8CDF ∷ 0x8CEF ∷ []

-- the rows of n axes end where those of the next begin
pub rows_end : (n : ℕ) → Axes n → first_row (n + 1) ≡ first_row n + length (orders n)
unfolding first_row orders
rows_end n h = each_axes (λ n. first_row (n + 1) ≡ first_row n + length (orders n)) refl refl refl n h

-- a row stands within the arrays
row_inside : ℕ → ℕ → ℕ → Bool
row_inside n row k = ltb (first_row n + row) 32

-- an entry of the array is the digits of the row's order
same_word : ℕ → ℕ → ℕ → Bool
same_word n row k = eqb (get_or orders_array (first_row n + row) 0) (order_word (order_at n row))

-- the masks of vertices 0 to 4 are those of the order
right_digits : ℕ → ℕ → ℕ → Bool
right_digits n row k = all_from (λ k. eqb (digit_at (get_or masks_array (first_row n + row) 0) k) (vertex_mask (order_at n row) k)) 0 5

module _ (n row : ℕ) (h : InTable n row) {f : ℕ} (is_first : f ≡ first_row n) where
  pub row_inside_lem : f + row < 32
  unfolding row_inside first_row orders all_from
  row_inside_lem = rw is_first (ltb-true (first_row n + row) 32 (passes row_inside refl refl refl n row 0 h (omega arith)))

  pub word_is : get_or orders_array (f + row) 0 ≡ order_word (order_at n row)
  unfolding same_word first_row order_word order_at orders all_from
  word_is =
      rw is_first
      (eqb-true (get_or orders_array (first_row n + row) 0) (order_word (order_at n row)) (passes same_word refl refl refl n row 0 h (omega arith)))

  mask_is : (k : ℕ) → k ≤ 4 → digit_at (get_or masks_array (first_row n + row) 0) k ≡ vertex_mask (order_at n row) k
  unfolding right_digits first_row digit_at vertex_mask masks_from order_at orders all_from
  mask_is k l =
      eqb-true (digit_at (get_or masks_array (first_row n + row) 0) k) (vertex_mask (order_at n row) k)
      (all_at (λ k. eqb (digit_at (get_or masks_array (first_row n + row) 0) k) (vertex_mask (order_at n row) k)) 0 5 k
      (passes right_digits refl refl refl n row 0 h (omega arith)) (omega arith) (omega arith))

  pub digits_are : MasksAre n row (get_or masks_array (f + row) 0)
  digits_are = record { at = λ k l. rw is_first (mask_is k l) }
