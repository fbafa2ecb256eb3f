-- The four readers end by one induction: the remaining text falls, and within one byte sum, product, power and atom stand in this order.
use Rattle.std.proofs.Common.{◌-◌, ◌*◌, ◌+◌, length}
use Rattle.coefficients.specs.Result.{result_as}
use Rattle.readers.specs.Ahead.{ProductSoFar, SumSoFar}
use Rattle.readers.proofs.+read_atom_read_power_read_product_read_sum.Given as goal

abbrev pub decreases-read_atom : goal.decreases-read_atom
decreases-read_atom l = 4 * (length l.text.now - l.at)

abbrev pub decreases-read_power : goal.decreases-read_power
decreases-read_power l = 4 * (length l.text.now - l.at) + 1

abbrev pub decreases-read_product : goal.decreases-read_product
decreases-read_product l = 4 * (length l.text.now - l.at) + 2

abbrev pub decreases-read_sum : goal.decreases-read_sum
decreases-read_sum l = 4 * (length l.text.now - l.at) + 3

abbrev pub invariant-read_product-loop-factor : goal.invariant-read_product-loop-factor
invariant-read_product-loop-factor l = ProductSoFar l.n l.text l.at l.depth l.product.next (result_as l.product.result)

abbrev pub decreases-read_product-loop-factor : goal.decreases-read_product-loop-factor
decreases-read_product-loop-factor l = length l.text - l.product.next

abbrev pub invariant-read_sum-loop-minus : goal.invariant-read_sum-loop-minus
invariant-read_sum-loop-minus l = SumSoFar l.n l.text l.at l.depth l.sum.next (result_as l.sum.result)

abbrev pub decreases-read_sum-loop-minus : goal.decreases-read_sum-loop-minus
decreases-read_sum-loop-minus l = length l.text - l.sum.next
