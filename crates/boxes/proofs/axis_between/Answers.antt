-- `boxes::axis_between` meets its contract: the three tests in the order of the definition.
use mathlib.Core.Path.{◌≡◌, sym, ◌∙◌}
use mathlib.Core.Bool.{◌&&◌, true≢false}
use lib.Dec.{lit≤}
use lib.Signed.{le_z, lt_z}
use Rattle.exact.proofs.Bits.{back, holds_call}
use Rattle.boxes.specs.Between.{axis_between}
use Rattle.boxes.proofs.BoxTests.{axis_test}
use Rattle.boxes.proofs.axis_between.Goals as goal
use Rattle.boxes.proofs.axis_between.Goals.{After-signed_word-high, then-lowest-low, else-lowest-low}

-- the definition's three tests, of the numbers that were read
tests : (c : After-signed_word-high)
    →
    axis_between c.args.lowest c.args.highest c.args.b.now c.args.a
    ≡ (le_z (back c.args.lowest) (back c.signed_word-low.result)
    && (lt_z (back c.signed_word-low.result) (back c.signed_word-high.result) && le_z (back c.signed_word-high.result) (back c.args.highest)))
tests c =
    axis_test _ _ c.ranges.lowest c.ranges.highest (holds_call c.signed_word-low.ensures (lit≤ tt)).is
    (holds_call c.signed_word-high.ensures (lit≤ tt)).is

pub returns-then-low-high : goal.returns-then-low-high
returns-then-low-high c =
    let read = tests (goal.at.returns-then-low-high c).After-signed_word-high in
    elim c.if-lowest-low.branch [
      | then-lowest-low w ↦ rw (read, w.if-lowest-low.true, sym w.value-is ∙ c.if-low-high.true)
      | else-lowest-low w ↦ absurd (true≢false (sym c.if-low-high.true ∙ w.value-is ∙ w.if-lowest-low.false))
    ]

pub returns-else-low-high : goal.returns-else-low-high
returns-else-low-high c =
    let read = tests (goal.at.returns-else-low-high c).After-signed_word-high in
    elim c.if-lowest-low.branch [
      | then-lowest-low w ↦ rw (read, w.if-lowest-low.true, sym w.value-is ∙ c.if-low-high.false) c.if-low-high.false
      | else-lowest-low w ↦ rw (read, w.if-lowest-low.false) c.if-low-high.false
    ]
