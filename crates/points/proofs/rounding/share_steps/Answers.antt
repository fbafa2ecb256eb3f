-- `points::rounding::share_steps` meets its contract. Before doubling k, 2 to the k times num is steps times den plus rest, with rest at most den; behind the
-- ten doublings each return is the number of steps nearest to the share, of which there is one.
use Prim.Native.Nat.{◌+◌, ◌*◌}
use mathlib.Core.Path.{sym, subst, ◌∙◌}
use native.Mathlib.Omega.{arith}
use Rattle.std.specs.Cmp.{ranked}
use Rattle.std.specs.declared.cmp.Ordering.TheVariants.{Less, Equal, Greater}
use Rattle.points.proofs.Doubling.{Doubled, doubled_begin, doubled_low, doubled_high, doubled_few, steps_down, steps_up, steps_half}
use Rattle.points.proofs.rounding.share_steps.Goals as goal
use Rattle.points.proofs.rounding.share_steps.Goals.{then-den-rest, else-den-rest}

pub loop-init : goal.loop-init
loop-init c = (omega arith, doubled_begin _ _ (omega arith))

pub overflow_mul-steps : goal.overflow_mul-steps
overflow_mul-steps c = omega (arith, doubled_few _ _ _ _ _ c.loop.invariant.1 c.loop.invariant.0)

pub overflow_add-steps : goal.overflow_add-steps
overflow_add-steps c = omega (arith, doubled_few _ _ _ _ _ c.loop.invariant.1 c.loop.invariant.0)

pub loop-preserved : goal.loop-preserved
loop-preserved c =
    let num = c.args.num in
    let den = c.args.den in
    let loop = c.loop in
    elim c.if-den-rest.branch [
      | then-den-rest w ↦ (
        omega arith,
        subst (λ q. Doubled (loop.counter + 1) num den q c.if-den-rest.rest) (sym (w.steps-is ∙ omega arith))
            (subst (λ r. Doubled (loop.counter + 1) num den (2 * loop.steps + 1) r) (sym (w.rest-is ∙ omega arith))
            (doubled_high _ _ _ _ _ loop.invariant.1 (omega (arith, w.if-den-rest.true)))),
      )
      | else-den-rest w ↦ (
        omega arith,
        subst (λ q. Doubled (loop.counter + 1) num den q c.if-den-rest.rest) (sym (w.steps-is ∙ omega arith))
            (subst (λ r. Doubled (loop.counter + 1) num den (2 * loop.steps) r) (sym (w.rest-is ∙ omega arith))
            (doubled_low _ _ _ _ _ loop.invariant.1 (omega (arith, w.if-den-rest.false)))),
      )
    ]

-- the three ways out
pub returns-in-Less : goal.returns-in-Less
returns-in-Less c =
    steps_down c.loop.counter _ _ _ c.loop.rest (omega arith) c.requires.0 c.loop.invariant.1
    (ranked _ _ Less (sym c.in-Less.is ∙ c.cmp.ensures))

pub overflow_add-result : goal.overflow_add-result
overflow_add-result c = omega (arith, doubled_few _ _ _ _ _ c.loop.invariant.1 c.loop.invariant.0)

pub returns-in-Greater : goal.returns-in-Greater
returns-in-Greater c =
    steps_up c.loop.counter _ _ c.loop.steps c.loop.rest (omega arith) c.requires.0 c.loop.invariant.1
    (ranked _ _ Greater (sym c.in-Greater.is ∙ c.cmp.ensures))

pub overflow_add-result-in-Equal : goal.overflow_add-result-in-Equal
overflow_add-result-in-Equal c = omega (arith, doubled_few _ _ _ _ _ c.loop.invariant.1 c.loop.invariant.0)

pub returns-in-Equal : goal.returns-in-Equal
returns-in-Equal c =
    steps_half c.loop.counter _ _ c.loop.steps c.loop.rest (omega arith) c.requires.0 c.loop.invariant.1
    (sym (ranked _ _ Equal (sym c.in-Equal.is ∙ c.cmp.ensures)))
