-- `lattice::axis_inside` meets its contract: both ends count.
use mir.Syntax.{w64}
use mir.ValLaws.{to_z-of_z}
use Rattle.paper.specs.Job.{low_end, high_end}
use Rattle.lattice.proofs.InBox.{end_number, high_decides, low_fails}
use Rattle.lattice.proofs.axis_inside.Goals as goal

pub returns-then-signed_word-x : goal.returns-then-signed_word-x
unfolding low_end high_end
returns-then-signed_word-x c =
    high_decides c.args.bounds.now c.args.axis (to_z-of_z w64 c.args.x c.ranges.x)
    (end_number c.signed_word.ensures) (end_number c.signed_word-then-signed_word-x.ensures) c.if-signed_word-x.true

pub returns-else-signed_word-x : goal.returns-else-signed_word-x
unfolding low_end
returns-else-signed_word-x c =
    low_fails c.args.bounds.now c.args.axis (to_z-of_z w64 c.args.x c.ranges.x) (end_number c.signed_word.ensures) c.if-signed_word-x.false
