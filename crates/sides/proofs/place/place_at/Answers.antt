-- `sides::place::place_at` meets its contract: the lowest vertex, the masks and the side of the facet (`place_is`). What the call that moves
-- the corner needs and ensures is searched for and not named, so that a corner moved the other way is refused for where it lies.
use mathlib.Core.Path.{◌≡◌, ap, ◌∙◌}
use Prim.Native.Nat.{ℕ}
use borrow.Author.Rules.{rules}
use Rattle.exact.specs.Minors.{skip}
use Rattle.table.specs.Table.{MasksAre, order_at, vertex_mask}
use Rattle.sides.proofs.MovedCorners.{low_shifted}
use Rattle.sides.proofs.Anywhere.{place_is}
use Rattle.sides.proofs.place.place_at.Goals as goal
use Rattle.sides.proofs.place.place_at.Goals.{After-digit-base}

-- the mask of the facet's lowest vertex
base_is :
    (c : After-digit-base) (row : ℕ) → MasksAre c.args.n row c.args.masks
    → c.digit-base.result ≡ vertex_mask (order_at c.args.n row) (skip c.args.out 0)
base_is c row digits =
    c.digit-base.ensures ∙ digits.at c.skip.result (search rules)
    ∙ ap (vertex_mask (order_at c.args.n row)) c.skip.ensures.0

pub returns : goal.returns
returns c = (
  c.side_from.ensures.0,
  λ row t digits.
      let base = base_is (goal.at.returns c).After-digit-base row digits in
      place_is c.args.n c.args.corner row c.args.out _ t c.requires.1.0
      (low_shifted c.args.corner (order_at c.args.n row) c.args.out base (search rules))
      (c.masks_from.ensures c.args.n row t digits c.requires.1.0 base)
      (c.side_from.ensures.1 row t digits),
)
