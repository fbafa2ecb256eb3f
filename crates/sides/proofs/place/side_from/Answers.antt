-- `sides::place::side_from` meets its contract, by the masks of the vertices before and behind the one left out (`side_of_digits`).
use mathlib.Core.Path.{sym, subst, ◌∙◌}
use Prim.Native.Nat.{ℕ, ◌<◌}
use native.Mathlib.Omega.{arith}
use Rattle.table.specs.Table.{digit_at}
use Rattle.sides.proofs.FacetSides.{side_first, side_last, side_of_digits, bit_small}
use Rattle.sides.proofs.place.side_from.Goals as goal

pub returns-then-out-eq0 : goal.returns-then-out-eq0
returns-then-out-eq0 c = (omega arith, λ row h d. side_first c.args.n row c.args.out h c.requires.0 c.if-out-eq0.true)

pub returns-then-out-n : goal.returns-then-out-n
returns-then-out-n c = (omega arith, λ row h d. side_last c.args.n row c.args.out h c.requires.0 c.if-out-eq0.false c.if-out-n.true)

pub overflow_add-at : goal.overflow_add-at
unfolding digit_at
overflow_add-at c = omega (arith, c.digit-at.ensures)

pub overflow_add-below : goal.overflow_add-below
unfolding digit_at
overflow_add-below c = omega (arith, c.digit-below.ensures, c.digit-above.ensures)

pub returns-else-out-n : goal.returns-else-out-n
returns-else-out-n c = (
  subst (λ (k : ℕ). k < 2) (sym c.from.ensures) (bit_small _),
  λ row h d.
      c.from.ensures
      ∙ side_of_digits c.args.n row c.args.out h d c.requires.0 c.if-out-eq0.false c.if-out-n.false
      c.digit-below.ensures c.digit-at.ensures c.digit-above.ensures,
)
