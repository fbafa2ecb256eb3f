-- `determinants::two_rows` meets its contract: the entries are at most 2 ^ 28 in size, so both products and their difference fit.
use Prim.Native.Nat.{◌^◌}
use mathlib.Core.Path.{◌∙◌}
use lib.IntN.{◌*ℤ◌}
use lib.Dec.{lit≤}
use Rattle.exact.specs.Int.{◌⊗◌}
use Rattle.exact.specs.Size.{Is}
use Rattle.exact.proofs.Bits.{back, fits_mul, fits_sub, holds_mul, holds_sub}
use Rattle.determinants.specs.Entries.{entry_at}
use Rattle.determinants.proofs.Entries.{entry_of_two, at, det_of_two}
use borrow.Author.Rules.{rules}
use Rattle.determinants.proofs.two_rows.Goals as goal
use Rattle.determinants.proofs.two_rows.Goals.{After-entry-4}

pub overflow_mul-result : goal.overflow_mul-result
overflow_mul-result c =
    fits_mul (entry_of_two c.requires.cells_within _ _ c.entry.ensures) (entry_of_two c.requires.cells_within _ _ c.entry-2.ensures) (lit≤ tt)

pub overflow_mul-result-2 : goal.overflow_mul-result-2
overflow_mul-result-2 c =
    fits_mul (entry_of_two c.requires.cells_within _ _ c.entry-3.ensures) (entry_of_two c.requires.cells_within _ _ c.entry-4.ensures) (lit≤ tt)

-- the two products
left :
    (c : After-entry-4)
    →
    let at = at (entry_at c.args.cells.now) c.args.rows c.args.vertices in
    let product = back c.entry.result *ℤ back c.entry-2.result in
    Is (2 ^ 56) (at 0 0 ⊗ at 1 1) (back product)
left c = holds_mul (entry_of_two c.requires.cells_within _ _ c.entry.ensures) (entry_of_two c.requires.cells_within _ _ c.entry-2.ensures) (lit≤ tt)

right :
    (c : After-entry-4)
    →
    let at = at (entry_at c.args.cells.now) c.args.rows c.args.vertices in
    let product = back c.entry-3.result *ℤ back c.entry-4.result in
    Is (2 ^ 56) (at 0 1 ⊗ at 1 0) (back product)
right c = holds_mul (entry_of_two c.requires.cells_within _ _ c.entry-3.ensures) (entry_of_two c.requires.cells_within _ _ c.entry-4.ensures) (lit≤ tt)

pub overflow_sub-result : goal.overflow_sub-result
overflow_sub-result c = fits_sub (left (goal.at.overflow_sub-result c).After-entry-4) (right (goal.at.overflow_sub-result c).After-entry-4) (lit≤ tt)

pub returns : goal.returns
returns c =
    (holds_sub (left (goal.at.returns c).After-entry-4) (right (goal.at.returns c).After-entry-4) (lit≤ tt)).is
    ∙ det_of_two (entry_at c.args.cells.now) c.args.rows c.args.vertices (search rules) (search rules)
