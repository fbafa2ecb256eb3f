use mathlib.Core.Path.{◌≡◌, sym, ◌∙◌}
use mathlib.Core.Bool.{true}
use native.Mathlib.Omega.{arith}
use Rattle.readers.specs.Ahead.{is_digit}
use Rattle.readers.proofs.Steps.{digit_here, number_first, number_longer, number_small, number_ends}
use Rattle.readers.proofs.read_number.Goals as goal
use Rattle.readers.proofs.read_number.Goals.{In-loop-value}

pub bounds-text-at : goal.bounds-text-at
bounds-text-at c = (digit_here _ _ c.requires.1).here

pub overflow_sub-text : goal.overflow_sub-text
overflow_sub-text c = (digit_here _ _ c.requires.1).low

pub overflow_add-next : goal.overflow_add-next
overflow_add-next c = omega (arith, (digit_here _ _ c.requires.1).here)

pub loop-value-init : goal.loop-value-init
loop-value-init c = rw c.from-value.ensures (number_first _ _ _ _ c.requires.1)

-- the next byte is one
next-digit : (c : In-loop-value) → is_digit c.args.text.now c.loop-value.next ≡ true
next-digit c = sym c.is_digit.ensures ∙ c.loop-value-test.true

pub overflow_mul-value : goal.overflow_mul-value
overflow_mul-value c = omega (arith, number_small _ _ _ _ _ _ c.loop-value.invariant)

pub bounds-text-next : goal.bounds-text-next
bounds-text-next c = (digit_here _ _ (next-digit (goal.at.bounds-text-next c).In-loop-value)).here

pub overflow_sub-text-in-loop-value : goal.overflow_sub-text-in-loop-value
overflow_sub-text-in-loop-value c = (digit_here _ _ (next-digit (goal.at.overflow_sub-text-in-loop-value c).In-loop-value)).low

pub overflow_add-value : goal.overflow_add-value
overflow_add-value c = omega (arith, number_small _ _ _ _ _ _ c.loop-value.invariant, (digit_here _ _ (next-digit (goal.at.overflow_add-value c).In-loop-value)).high)

pub overflow_add-next-in-loop-value : goal.overflow_add-next-in-loop-value
overflow_add-next-in-loop-value c = omega (arith, (digit_here _ _ (next-digit (goal.at.overflow_add-next-in-loop-value c).In-loop-value)).here)

pub loop-value-smaller : goal.loop-value-smaller
loop-value-smaller c = omega (arith, (digit_here _ _ (next-digit (goal.at.loop-value-smaller c).In-loop-value)).here)

pub loop-value-preserved : goal.loop-value-preserved
loop-value-preserved c =
    rw c.from.ensures (number_longer _ _ _ _ _ _ c.requires.0 c.loop-value.invariant (next-digit (goal.at.loop-value-preserved c).In-loop-value))

pub returns : goal.returns
returns c = number_ends _ _ _ _ _ _ c.loop-value.invariant (sym c.is_digit.ensures ∙ c.loop-value-test.false)
