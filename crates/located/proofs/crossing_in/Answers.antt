-- `located::crossing_in` meets its contract: what `place_in` refuses, then 11, then the place.
use Rattle.std.proofs.Common.{sym, ◌∙◌}
use Rattle.paper.specs.Refusals.{refusal_number}
use Rattle.located.proofs.Passed.{passed_on}
use Rattle.located.proofs.PlaceCrossed.{refused_before, not_crossed, is_crossed}
use Rattle.located.proofs.crossing_in.Goals as goal

pub returns-in_err-place : goal.returns-in_err-place
returns-in_err-place c =
    let h = c.in_err-place.ensures in
    record { within = h.within; found = passed_on _ _ _ c.from_residual.ensures.1 (refused_before _ _ _ h.found) }

pub returns-then-crossed : goal.returns-then-crossed
returns-then-crossed c =
    let h = c.in_ok-place.ensures in
    record { within = h.within; found = is_crossed c.args.job.opened h.found (sym c.crossed.ensures ∙ c.if-crossed.true) }

pub returns-else-crossed : goal.returns-else-crossed
unfolding refusal_number
returns-else-crossed c =
    let h = c.in_ok-place.ensures in
    record { within = h.within; found = not_crossed c.args.job.opened h.found (sym c.crossed.ensures ∙ c.if-crossed.false) }
