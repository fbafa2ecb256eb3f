-- Rows of the table of orders, and the vertices of a simplex as masks. The table itself is `orders` of the crate curves.
use Rattle.std.specs.Prelude.{ℕ, suc, zero, ◌+◌, ◌-◌, ◌*◌, ◌/◌, ◌%◌, ◌^◌, ◌≤◌, ◌<◌, ◌≡◌, cond, List, [], ◌∷◌, length, get_or, eqb}
use Rattle.curves.specs.Grid.{masks_from, orders, pivot_at}
use Rattle.bits.specs.Axes.{Axes}

-- the row at which the orders of n axes begin in a table of the orders of two, of three and of four axes, one after another
unfoldable pub first_row : ℕ → ℕ
first_row n = get_or (0 ∷ 0 ∷ 0 ∷ 2 ∷ 8 ∷ 32 ∷ []) n 0

-- digit k of four hexadecimal digits, the first of which is the highest; 0 for k = 0
unfoldable pub digit_at : ℕ → ℕ → ℕ
digit_at x k = x / 2 ^ (16 - 4 * k) % 16

-- the order in a row of the table
unfoldable pub order_at : ℕ → ℕ → List ℕ
order_at n row = get_or (orders n) row []

-- an order as four hexadecimal digits, its first axis the highest; 0 where it has no further axis
unfoldable pub order_word : List ℕ → ℕ
order_word o = get_or o 0 0 * 4096 + get_or o 1 0 * 256 + get_or o 2 0 * 16 + get_or o 3 0

-- the rows that begin with one axis: the orders of the other n − 1
unfoldable pub block_size : ℕ → ℕ
block_size n = cond (eqb n 4) 6 (n - 1)

-- the first row with the digits w among `row` and the m − 1 behind it; if none has them, the one behind those
unfoldable pub row_from : ℕ → ℕ → ℕ → ℕ → ℕ
row_from n w row zero = row
row_from n w row (suc m) = cond (eqb (order_word (order_at n row)) w) row (row_from n w (row + 1) m)

-- the row with the digits w: the rows that begin with its first axis stand together, and the last of them is what is left
unfoldable pub found_row : ℕ → ℕ → ℕ
found_row n w = row_from n w (w / 4096 * block_size n) (block_size n - 1)

-- the digits w with the last axis, the digit of weight 2 ^ s, put first
unfoldable pub last_first : ℕ → ℕ → ℕ
last_first w s = (w - w / 2 ^ s % 16 * 2 ^ s) / 16 + w / 2 ^ s % 16 * 4096

-- the digits w with the digit of weight 2 ^ s and the one before it exchanged
unfoldable pub exchanged : ℕ → ℕ → ℕ
exchanged w s = w + w / 2 ^ s % 16 * 15 * 2 ^ s - w / 2 ^ (s + 4) % 16 * 15 * 2 ^ s

-- the digits of the order of the simplex on the other side of the facet without vertex e, by the P rule: the first axis goes last
-- (e = 0), the last goes first (e = n), or axes e and e + 1 change places
unfoldable pub order_beyond : ℕ → ℕ → ℕ → ℕ
order_beyond n w e =
    cond (eqb e 0) (w % 4096 * 16 + w / 4096 * 2 ^ (16 - 4 * n))
    (cond (eqb e n) (last_first w (16 - 4 * n)) (exchanged w (12 - 4 * e)))

-- entry k of a row
unfoldable pub axis_at : ℕ → ℕ → ℕ → ℕ
axis_at n row k = get_or (order_at n row) k 0

-- the mask of vertex k of a simplex with an order: its difference from the corner
unfoldable pub vertex_mask : List ℕ → ℕ → ℕ
vertex_mask o k = get_or (0 ∷ masks_from 0 o) k 0

-- a row of the table for n axes. Both stay numbers with this fact beside them: a struct of the two would hold n again, which the job holds already
pub record InTable (n row : ℕ) : Type 0 where
  pub axes : Axes n
  pub inside : row < length (orders n)

-- r is the row of the simplex on the other side of the facet without vertex e: its order is the one that the P rule gives
pub record NeighbourRow (n row e r : ℕ) : Type 0 where
  pub table : InTable n r
  pub order : order_at n r ≡ (pivot_at [] (order_at n row) e).order

-- the digits of r are the masks of a row's vertices; 0 behind the last
pub record MasksAre (n row r : ℕ) : Type 0 where
  pub at : (k : ℕ) → k ≤ 4 → digit_at r k ≡ vertex_mask (order_at n row) k
