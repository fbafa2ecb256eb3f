-- `determinants::three_rows` meets its contract: three products fit together, and are the expansion along the first row.
use mathlib.Core.Path.{◌∙◌}
use lib.Dec.{lit≤}
use borrow.Author.Rules.{rules}
use Rattle.exact.proofs.Bits.{holds_call, fits_sub, fits_add, holds_sub, holds_add}
use Rattle.determinants.specs.Entries.{entry_at}
use Rattle.determinants.proofs.Entries.{det_of_three, held_two}
use Rattle.determinants.proofs.three_rows.Goals as goal

pub product-requires : goal.product-requires
product-requires c =
    let held = c.requires.held in record {
      cells_within = c.requires.cells_within;
      row_bound = (held.row 0, held.vertex 0);
      held = held_two (held.row 1) (held.row 2) (held.vertex 1) (held.vertex 2);
    }

pub product-requires-2 : goal.product-requires-2
product-requires-2 c =
    let held = c.requires.held in record {
      cells_within = c.requires.cells_within;
      row_bound = (held.row 0, held.vertex 1);
      held = held_two (held.row 1) (held.row 2) (held.vertex 0) (held.vertex 2);
    }

pub overflow_sub-result : goal.overflow_sub-result
overflow_sub-result c = fits_sub (holds_call c.product.ensures (lit≤ tt)) (holds_call c.product-2.ensures (lit≤ tt)) (lit≤ tt)

pub product-requires-3 : goal.product-requires-3
product-requires-3 c =
    let held = c.requires.held in record {
      cells_within = c.requires.cells_within;
      row_bound = (held.row 0, held.vertex 2);
      held = held_two (held.row 1) (held.row 2) (held.vertex 0) (held.vertex 1);
    }

pub overflow_add-result : goal.overflow_add-result
overflow_add-result c =
    fits_add (holds_sub (holds_call c.product.ensures (lit≤ tt)) (holds_call c.product-2.ensures (lit≤ tt)) (lit≤ tt))
    (holds_call c.product-3.ensures (lit≤ tt)) (lit≤ tt)

pub returns : goal.returns
returns c =
    (holds_add (holds_sub (holds_call c.product.ensures (lit≤ tt)) (holds_call c.product-2.ensures (lit≤ tt)) (lit≤ tt))
    (holds_call c.product-3.ensures (lit≤ tt)) (lit≤ tt)).is
    ∙ det_of_three (entry_at c.args.cells.now) c.args.rows c.args.vertices (search rules) (search rules)
