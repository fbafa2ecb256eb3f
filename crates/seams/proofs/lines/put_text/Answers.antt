-- `seams::lines::put_text` meets its contract: a job that is too long, one that does not open, and one that does.
use Rattle.std.proofs.Common.{◌≤◌, ◌<◌, length, ap, ◌∙◌, arith}
use native.Mathlib.Nat.{le_refl}
use Rattle.paper.specs.Refusals.{refusal_number}
use Rattle.paper.specs.Listing.{refused_line, listing_space}
use Rattle.decimals.proofs.WrittenParts.{writes_as}
use Rattle.seamlist.specs.JobSeams.{seamed}
use Rattle.seamlist.specs.SeamText.{seams_lines}
use Rattle.seams.proofs.TextCases.{text_long, text_short, text_unopened}
use Rattle.seams.proofs.lines.put_text.Goals as goal

pub returns-then-job-gt-LONGEST_JOB : goal.returns-then-job-gt-LONGEST_JOB
unfolding refusal_number
returns-then-job-gt-LONGEST_JOB c =
    let long : 2048 < length c.args.job.now = omega (arith, c.if-job-gt-LONGEST_JOB.true) in
    writes_as (ap refused_line c.number.ensures ∙ text_long c.args.job.now long) (omega arith) c.put_refused.ensures

pub returns-in-Err : goal.returns-in-Err
returns-in-Err c =
    let short : length c.args.job.now ≤ 2048 = omega (arith, c.if-job-gt-LONGEST_JOB.false) in
    writes_as (ap refused_line c.number-in-Err.ensures ∙ text_unopened c.args.job.now _ c.in-Err.ensures short) (omega arith) c.put_refused-in-Err.ensures

pub returns-in-Ok : goal.returns-in-Ok
returns-in-Ok c =
    let short : length c.args.job.now ≤ 2048 = omega (arith, c.if-job-gt-LONGEST_JOB.false) in
    let bytes = ap (λ b. b.now) c.in-Ok.ensures.1 in
    writes_as (ap (λ s. seams_lines s (seamed s listing_space)) bytes ∙ text_short c.args.job.now short) (le_refl _) c.put_opened.ensures
