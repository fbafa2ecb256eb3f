-- `determinants::product` meets its contract: the entries are at most 2 ^ 19 in size, so the product fits.
use Rattle.exact.proofs.Bits.{fits_mul, holds_mul}
use lib.Dec.{lit≤}
use borrow.Author.Rules.{rules}
use Rattle.determinants.proofs.Entries.{entry_of_three, two_rows_of_three, within_most}
use Rattle.determinants.proofs.product.Goals as goal

pub entry-requires : goal.entry-requires
entry-requires c = record { cells_within = within_most c.requires.cells_within; row_bound = c.requires.row_bound }

pub two_rows-requires : goal.two_rows-requires
two_rows-requires c = record { cells_within = within_most c.requires.cells_within; held = c.requires.held }

pub overflow_mul-result : goal.overflow_mul-result
overflow_mul-result c =
    fits_mul (entry_of_three c.requires.cells_within c.args.row c.args.v c.entry.ensures)
    (two_rows_of_three c.requires.cells_within c.args.rows c.args.vertices (search rules) (search rules) c.two_rows.ensures) (lit≤ tt)

pub returns : goal.returns
returns c =
    holds_mul (entry_of_three c.requires.cells_within c.args.row c.args.v c.entry.ensures)
    (two_rows_of_three c.requires.cells_within c.args.rows c.args.vertices (search rules) (search rules) c.two_rows.ensures) (lit≤ tt)
