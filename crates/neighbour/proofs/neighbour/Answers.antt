-- `neighbour::neighbour` meets its contract: the search finds the neighbour's row (`neighbour_is`).
use mathlib.Core.Path.{◌≡◌, ap, ◌∙◌}
use Rattle.table.specs.Table.{order_beyond}
use Rattle.neighbour.proofs.Neighbours.{beyond_at, word_under_lem, first_under, neighbour_is}
use Rattle.neighbour.proofs.neighbour.Goals as goal
use Rattle.neighbour.proofs.neighbour.Goals.{After-order_beyond}

pub order_beyond-requires : goal.order_beyond-requires
order_beyond-requires c = (
  c.requires.0.axes,
  (rw c.order.ensures (word_under_lem c.args.n c.args.row c.args.e c.requires.0 c.requires.1), c.requires.1),
)

-- the digits that are searched for
digits :
    (c : After-order_beyond)
    → c.order_beyond.result ≡ beyond_at c.args.n c.args.row c.args.e
digits c =
    c.order_beyond.ensures ∙ ap (λ w. order_beyond c.args.n w c.args.e) c.order.ensures

pub find_row-requires : goal.find_row-requires
find_row-requires c = (
  c.requires.0.axes,
  rw (digits (goal.at.find_row-requires c).After-order_beyond) (first_under c.args.n c.args.row c.args.e c.requires.0 c.requires.1),
)

pub returns : goal.returns
returns c =
    rw (c.find_row.ensures, digits (goal.at.returns c).After-order_beyond)
    (neighbour_is c.args.n c.args.row c.args.e c.requires.0 c.requires.1)
