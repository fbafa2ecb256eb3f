-- `points::weight` meets its contract: the shifted mask is odd exactly if the mask has the axis.
use mathlib.Core.Path.{subst}
use native.Mathlib.Omega.{arith}
use native.Mathlib.Nat.{le_refl}
use lib.Dec.{lit≤}
use Rattle.exact.specs.Size.{Is}
use Rattle.exact.proofs.Bits.{back, holds_call}
use Rattle.paper.specs.Values.{has_axis}
use Rattle.determinants.specs.Entries.{coefficient_limit}
use Rattle.determinants.proofs.FacetMinors.{coefficient_size}
use Rattle.points.proofs.WeightSums.{axis_there, axis_missing, cond_size}
use Rattle.points.proofs.weight.Goals as goal

pub coefficient-requires : goal.coefficient-requires
coefficient-requires c =
    record { cells = c.requires.cells; out_le_n = (le_refl c.args.n, (c.requires.i_lt_n.0, omega (arith, c.requires.i_lt_n.0))) }

pub returns-then-mask-axis-eq1 : goal.returns-then-mask-axis-eq1
returns-then-mask-axis-eq1 c =
    subst (λ z. Is coefficient_limit z (back c.coefficient.result))
    (axis_there c.args.mask c.args.axis _ _ c.if-mask-axis-eq1.true) (holds_call c.coefficient.ensures (lit≤ tt))

pub returns-else-mask-axis-eq1 : goal.returns-else-mask-axis-eq1
returns-else-mask-axis-eq1 c = record {
  is = axis_missing c.args.mask c.args.axis _ _ c.if-mask-axis-eq1.false;
  size = cond_size (has_axis c.args.mask c.args.axis)
      (coefficient_size _ _ c.requires.cells c.args.n c.args.i 0 c.requires.i_lt_n.0
      (omega (arith, c.requires.i_lt_n.0)) (le_refl c.args.n));
}
