-- `listing::lines::put_listing` meets its contract: a job that is too long, one that does not open, and one that does.
use Rattle.std.proofs.Common.{◌≤◌, ◌<◌, length, ap, ◌∙◌, arith}
use native.Mathlib.Nat.{le_refl}
use Rattle.paper.specs.Refusals.{refusal_number}
use Rattle.paper.specs.Operations.{traced, buffer_after}
use Rattle.paper.specs.Listing.{refused_line, listing_space, listing_lines}
use Rattle.decimals.proofs.WrittenParts.{writes_as}
use Rattle.listing.proofs.ListingText.{listing_long, places_kept, listing_short, places_written, listing_unopened, places_unopened}
use Rattle.listing.proofs.lines.put_listing.Goals as goal

pub returns-then-job-gt-LONGEST_JOB : goal.returns-then-job-gt-LONGEST_JOB
unfolding refusal_number
returns-then-job-gt-LONGEST_JOB c =
    let long : 2048 < length c.args.job.now = omega arith in
    record {
      text = writes_as (ap refused_line c.number.ensures ∙ listing_long c.args.job.now long) (omega arith) c.put_refused.ensures;
      written = places_kept c.args.job.now c.args.places.now long;
    }

pub returns-in-Err : goal.returns-in-Err
returns-in-Err c =
    let short : length c.args.job.now ≤ 2048 = omega arith in
    record {
      text =
          writes_as (ap refused_line c.number-in-Err.ensures ∙ listing_unopened c.args.job.now _ c.in-Err.ensures short) (omega arith)
          c.put_refused-in-Err.ensures;
      written = places_unopened c.args.job.now _ c.in-Err.ensures c.args.places.now short;
    }

pub returns-in-Ok : goal.returns-in-Ok
returns-in-Ok c =
    let short : length c.args.job.now ≤ 2048 = omega arith in
    let bytes = ap (λ b. b.now) c.in-Ok.ensures.1 in
    record {
      text =
          writes_as (ap (λ s. listing_lines s (traced s listing_space)) bytes ∙ listing_short c.args.job.now short) (le_refl _)
          c.put_opened.ensures.text;
      written =
          c.put_opened.ensures.written
          ∙ ap (λ s. buffer_after (traced s listing_space) c.args.places.now) bytes
          ∙ places_written c.args.job.now c.args.places.now short;
    }
