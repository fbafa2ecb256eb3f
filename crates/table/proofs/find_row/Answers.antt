-- `table::find_row` meets its contract. The loop's invariant: the row sought is what the search from `row` on finds.
use Prim.Native.Nat.{◌+◌, ◌-◌, ◌*◌, ◌/◌, ◌≤◌, ◌<◌}
use mathlib.Core.Path.{◌≡◌, sym, ap, ◌∙◌}
use native.Mathlib.Omega.{arith}
use Rattle.table.specs.Table.{order_at, order_word, row_from, InTable}
use Rattle.table.proofs.TableRows.{word_is}
use Rattle.table.proofs.RowSearch.{row_found, row_next, row_left, size_some, block_few, block_row, block_within, search_starts}
use Rattle.table.proofs.find_row.Goals as goal
use Rattle.table.proofs.find_row.Goals.{After-first-begin, After-from, In-loop-row}

-- the rows of the block are few, and there is one
few : (c : After-first-begin) → c.args.order / 4096 * c.block_size-size.result + c.block_size-size.result ≤ 24
few c = block_few c.args.n c.args.order c.requires c.block_size-size.ensures

some : (c : After-first-begin) → 0 < c.block_size-size.result
some c = size_some c.args.n c.args.order c.requires c.block_size-size.ensures

pub first-begin-requires : goal.first-begin-requires
first-begin-requires c = omega (arith, c.requires.0.high)

pub overflow_mul-block : goal.overflow_mul-block
overflow_mul-block c = omega (arith, few (goal.at.overflow_mul-block c).After-first-begin)

pub overflow_add-last : goal.overflow_add-last
overflow_add-last c = omega (arith, few (goal.at.overflow_add-last c).After-first-begin)

pub overflow_sub-last : goal.overflow_sub-last
overflow_sub-last c = omega (arith, some (goal.at.overflow_sub-last c).After-first-begin)

pub loop-row-init : goal.loop-row-init
loop-row-init c =
    (omega (arith, some (goal.at.loop-row-init c).After-first-begin), search_starts c.args.n c.args.order c.requires c.block_size-size.ensures)

-- the row that the loop looks at
tabled : (c : In-loop-row) → InTable c.args.n c.loop-row.row
tabled c = block_row c.args.n c.args.order c.requires c.block_size-size.ensures c.loop-row.row (omega arith)

pub bounds-begin : goal.bounds-begin
bounds-begin c =
    block_within c.args.n c.args.order c.requires c.block_size-size.ensures c.first-begin.ensures c.loop-row.row (omega arith)

pub overflow_add-begin : goal.overflow_add-begin
overflow_add-begin c =
    omega (arith, block_within c.args.n c.args.order c.requires c.block_size-size.ensures c.first-begin.ensures c.loop-row.row (omega arith))

pub offset_bounds-begin : goal.offset_bounds-begin
offset_bounds-begin c =
    omega (arith, block_within c.args.n c.args.order c.requires c.block_size-size.ensures c.first-begin.ensures c.loop-row.row (omega arith))

-- what is compared is the row's digits
word : (c : After-from) → InTable c.args.n c.loop-row.row → c.from.result ≡ order_word (order_at c.args.n c.loop-row.row)
word c h = c.from.ensures ∙ word_is c.args.n c.loop-row.row h c.first-begin.ensures

pub returns-then-from-order : goal.returns-then-from-order
returns-then-from-order c =
    let size = c.block_size-size.result in
    let loop = c.loop-row in
    omega (
      arith,
      row_found c.args.n c.args.order loop.row (c.args.order / 4096 * size + size - 1 - loop.row)
          (omega arith)
          (sym (word (goal.at.returns-then-from-order c).After-from (tabled (goal.at.returns-then-from-order c).In-loop-row)) ∙ c.if-from-order.true),
      loop.invariant.1,
    )

pub loop-row-preserved : goal.loop-row-preserved
loop-row-preserved c =
    let loop = c.loop-row in (
      omega arith,
      sym (row_next c.args.n c.args.order loop.row _
          (λ e. c.if-from-order.false (word (goal.at.loop-row-preserved c).After-from (tabled (goal.at.loop-row-preserved c).In-loop-row) ∙ e)))
          ∙ ap (row_from c.args.n c.args.order loop.row) (omega arith) ∙ loop.invariant.1,
    )

pub returns : goal.returns
returns c =
    let last : c.loop-row.row ≡ c.args.order / 4096 * c.block_size-size.result + c.block_size-size.result - 1 = omega arith in
    sym last ∙ sym (row_left c.args.n c.args.order c.loop-row.row _ (omega arith)) ∙ c.loop-row.invariant.1
