-- `listing::lines::put_opened` meets its contract: a trace that is refused, and one that is listed.
use Rattle.std.proofs.Common.{ap, ◌∙◌, arith}
use Rattle.paper.specs.Listing.{refused_line}
use Rattle.decimals.proofs.WrittenParts.{writes_as}
use Rattle.listing.proofs.ListingText.{lines_refused, listed_answer}
use Rattle.listing.proofs.lines.put_opened.Goals as goal

pub put_trace-requires : goal.put_trace-requires
put_trace-requires c =
    (listed_answer c.args.job.bytes.now _ _ c.in-Ok.ensures.answer, (c.trace_listed.auto.places ∙ c.requires.0, c.requires.1))

pub returns-in-Err : goal.returns-in-Err
returns-in-Err c = record {
  text =
      writes_as (ap refused_line c.number.ensures ∙ lines_refused c.args.job.bytes.now _ _ c.in-Err.ensures.answer) (omega arith) c.put_refused.ensures;
  written = c.in-Err.ensures.written;
}
