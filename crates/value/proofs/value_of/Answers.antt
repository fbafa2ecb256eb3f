-- `value::value_of` meets its contract: 0 for a sum no larger in size than the bias, and else the sum.
use mathlib.Core.Path.{◌≡◌, sym, ap, ◌∙◌}
use native.Mathlib.Omega.{arith}
use lib.IntN.{nat_abs}
use Rattle.exact.proofs.Bits.{back_is}
use Rattle.paper.proofs.BiasedValues.{value_small, value_large}
use Rattle.polynomial.proofs.Limits.{sum_word}
use Rattle.value.proofs.value_of.Goals as goal
use Rattle.value.proofs.value_of.Goals.{After-size}

-- the size that was compared is that of the sum
size_is : (c : After-size) → c.size.result ≡ nat_abs c.args.z
size_is c = c.size.ensures ∙ ap nat_abs (back_is c.requires sum_word)

pub returns-then-size-bias : goal.returns-then-size-bias
returns-then-size-bias c =
    sym (value_small c.args.bias c.args.z (omega (arith, size_is (goal.at.returns-then-size-bias c).After-size, c.if-size-bias.true)))

pub returns-else-size-bias : goal.returns-else-size-bias
returns-else-size-bias c =
    back_is c.requires sum_word
    ∙ sym (value_large c.args.bias c.args.z (omega (arith, size_is (goal.at.returns-else-size-bias c).After-size, c.if-size-bias.false)))
