-- `neighbour::order_beyond` meets its contract: it computes as the definition does, case by case.
use Prim.Native.Nat.{◌+◌, ◌-◌, ◌*◌, ◌/◌, ◌%◌, ◌^◌}
use native.Mathlib.Omega.{arith}
use Rattle.neighbour.proofs.OrderDigits.{beyond_first, beyond_last, beyond_between, Shifted, shifted, digit_part, moved_part}
use Rattle.neighbour.proofs.order_beyond.Goals as goal
use Rattle.neighbour.proofs.order_beyond.Goals.{Else-e-n, Then-e-eq0, Then-e-n}

-- the first axis at the last place
first-moved : (c : Then-e-eq0) → Shifted (c.args.order / 4096) (16 - 4 * c.args.n)
first-moved c =
    shifted (c.args.order / 4096) (16 - 4 * c.args.n) (omega arith) (omega (arith, c.requires.0.low))

pub overflow_add-result : goal.overflow_add-result
overflow_add-result c = omega (arith, (first-moved (goal.at.overflow_add-result c).Then-e-eq0).is, (first-moved (goal.at.overflow_add-result c).Then-e-eq0).under)

pub returns-then-e-eq0 : goal.returns-then-e-eq0
returns-then-e-eq0 c =
    omega (arith, (first-moved (goal.at.returns-then-e-eq0 c).Then-e-eq0).is, beyond_first c.args.n c.args.order c.args.e c.if-e-eq0.true)

-- the last axis at its place
last-at :
    (c : Then-e-n)
    →
    Shifted (c.args.order / 2 ^ (16 - 4 * c.args.n) % 16) (16 - 4 * c.args.n)
last-at c =
    shifted (c.args.order / 2 ^ (16 - 4 * c.args.n) % 16) (16 - 4 * c.args.n) (omega arith)
    (omega (arith, c.requires.0.low))

pub overflow_sub-result-then-e-n : goal.overflow_sub-result-then-e-n
overflow_sub-result-then-e-n c = omega (arith, (last-at (goal.at.overflow_sub-result-then-e-n c).Then-e-n).is, digit_part c.args.order (16 - 4 * c.args.n))

pub returns-then-e-n : goal.returns-then-e-n
returns-then-e-n c =
    omega (
      arith,
      (last-at (goal.at.returns-then-e-n c).Then-e-n).is,
      beyond_last c.args.n c.args.order c.args.e c.if-e-eq0.false c.if-e-n.true,
    )

-- what is added for the later of the two axes, and what is taken off for the earlier
gained :
    (c : Else-e-n)
    →
    Shifted (c.args.order / 2 ^ (12 - 4 * c.args.e) % 16 * 15) (12 - 4 * c.args.e)
gained c =
    shifted (c.args.order / 2 ^ (12 - 4 * c.args.e) % 16 * 15) (12 - 4 * c.args.e) (omega arith) (omega arith)

lost :
    (c : Else-e-n)
    →
    Shifted (c.args.order / 2 ^ (12 - 4 * c.args.e + 4) % 16 * 15) (12 - 4 * c.args.e)
lost c =
    shifted (c.args.order / 2 ^ (12 - 4 * c.args.e + 4) % 16 * 15) (12 - 4 * c.args.e) (omega arith) (omega arith)

pub overflow_add-result-else-e-n : goal.overflow_add-result-else-e-n
overflow_add-result-else-e-n c = omega (arith, (gained (goal.at.overflow_add-result-else-e-n c).Else-e-n).is, (gained (goal.at.overflow_add-result-else-e-n c).Else-e-n).under)

pub overflow_sub-result-else-e-n : goal.overflow_sub-result-else-e-n
overflow_sub-result-else-e-n c = omega (arith, (lost (goal.at.overflow_sub-result-else-e-n c).Else-e-n).is, moved_part c.args.order (12 - 4 * c.args.e))

pub returns-else-e-n : goal.returns-else-e-n
returns-else-e-n c =
    omega (
      arith,
      (gained (goal.at.returns-else-e-n c).Else-e-n).is,
      (lost (goal.at.returns-else-e-n c).Else-e-n).is,
      beyond_between c.args.n c.args.order c.args.e c.if-e-eq0.false c.if-e-n.false,
    )
