-- `language::passes` meets its contract. The invariant: from the mode and the depth that the code has, the pass over the bytes that are left answers
-- as the reader does on the whole text.
use mathlib.Core.Path.{ap, ◌∙◌}
use Rattle.language.specs.Pass.{next_mode, next_depth}
use Rattle.language.specs.Modes.{mode_number}
use Rattle.language.proofs.PassLaws.{pass_starts, pass_next, pass_outside, pass_ends_power, pass_ends_short}
use Rattle.language.proofs.passes.Goals as goal

pub loop-b-init : goal.loop-b-init
loop-b-init c = pass_starts _ _ _

pub returns-in_default : goal.returns-in_default
returns-in_default c =
    let loop = c.loop-b in
    pass_outside loop.invariant c.loop-b-test.true
    (c.in_default.ensures _ ∙ ap (next_mode c.args.limit loop.depth (mode_number loop.mode)) c.token_of-token.ensures)

pub loop-b-preserved : goal.loop-b-preserved
loop-b-preserved c =
    let loop = c.loop-b in
    pass_next loop.invariant c.loop-b-test.true
    (c.in-Some.ensures _ ∙ ap (next_mode c.args.limit loop.depth (mode_number loop.mode)) c.token_of-token.ensures)
    (c.next_depth-depth.ensures _ ∙ ap (next_depth c.args.limit loop.depth) c.token_of-token.ensures)

pub returns-then-ends_power : goal.returns-then-ends_power
returns-then-ends_power c = pass_ends_power c.loop-b.invariant c.ends_power.ensures c.loop-b-test.false c.if-ends_power.true

pub returns-else-ends_power : goal.returns-else-ends_power
returns-else-ends_power c = pass_ends_short c.loop-b.invariant c.ends_power.ensures c.loop-b-test.false c.if-ends_power.false
