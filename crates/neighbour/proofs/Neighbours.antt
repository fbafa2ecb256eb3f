-- The row that the search finds for the digits of the P rule is the neighbour's (`neighbour_is`), and what the code asks of the digits.
use Prim.Native.Nat.{ℕ, ◌/◌, ◌≤◌, ◌<◌}
use mathlib.Core.Path.{refl}
use mathlib.Core.Bool.{Bool, ◌&&◌}
use mathlib.Core.List.{[]}
use lib.ListN.{length}
use lib.Dec.{ltb}
use borrow.Author.Tests.{ltb-true}
use Rattle.exact.proofs.AndTests.{and_left, and_right}
use Rattle.curves.specs.Grid.{orders, same_masks, exchange, last_axis, but_last, pivot_first, pivot_last, pivot_at}
use Rattle.curves.proofs.SameFacet.{same_masks_sound}
use Rattle.paper.specs.Job.{all_from}
use Rattle.table.specs.Table.{order_at, order_word, block_size, row_from, found_row, last_first, exchanged, order_beyond, InTable, NeighbourRow}
use Rattle.table.proofs.Tested.{passes}

-- the digits of the neighbour's order, and the row that has them
abbrev pub beyond_at : ℕ → ℕ → ℕ → ℕ
beyond_at n row e = order_beyond n (order_word (order_at n row)) e

abbrev row_beyond : ℕ → ℕ → ℕ → ℕ
row_beyond n row e = found_row n (beyond_at n row e)

-- the tests
word_under : ℕ → ℕ → ℕ → Bool
word_under n row e = ltb (order_word (order_at n row)) 65536

first_axis_under : ℕ → ℕ → ℕ → Bool
first_axis_under n row e = ltb (beyond_at n row e / 4096) n

right_row : ℕ → ℕ → ℕ → Bool
right_row n row e =
    ltb (row_beyond n row e) (length (orders n)) && same_masks (order_at n (row_beyond n row e)) (pivot_at [] (order_at n row) e).order

module _ (n row e : ℕ) (h : InTable n row) (l : e ≤ n) where
  pub word_under_lem : order_word (order_at n row) < 65536
  unfolding word_under order_word order_at orders all_from
  word_under_lem = ltb-true (order_word (order_at n row)) 65536 (passes word_under refl refl refl n row e h l)

  pub first_under : beyond_at n row e / 4096 < n
  unfolding first_axis_under order_beyond last_first exchanged order_word order_at orders all_from
  first_under = ltb-true (beyond_at n row e / 4096) n (passes first_axis_under refl refl refl n row e h l)

  pub neighbour_is : NeighbourRow n row e (row_beyond n row e)
  unfolding
      right_row found_row row_from block_size order_beyond last_first exchanged order_word order_at orders all_from same_masks
      pivot_at pivot_first pivot_last exchange last_axis but_last
  neighbour_is =
      let inside = ltb (row_beyond n row e) (length (orders n)) in
      let same = same_masks (order_at n (row_beyond n row e)) (pivot_at [] (order_at n row) e).order in
      let t = passes right_row refl refl refl n row e h l in
      record {
        table = record { axes = h.axes; inside = ltb-true (row_beyond n row e) (length (orders n)) (and_left inside same t) };
        order = same_masks_sound (order_at n (row_beyond n row e)) (pivot_at [] (order_at n row) e).order (and_right inside same t);
      }
