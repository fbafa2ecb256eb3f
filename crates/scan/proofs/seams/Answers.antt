-- `scan::seams` meets its contract: refused as Open refuses, or the seams of a job that has opened.
use Rattle.std.proofs.Common.{ap, ◌∙◌}
use Rattle.std.proofs.lemmas.Result.{err_from_is_err_and}
use Rattle.paper.specs.Operations.{space_of}
use Rattle.paper.specs.Refusals.{answer_by}
use Rattle.seamlist.specs.Answers.{seamed_as}
use Rattle.seamlist.specs.JobSeams.{seamed, extent_and_count, seams_after}
use Rattle.scan.proofs.AllSeams.{not_opened, not_written}
use Rattle.scan.proofs.seams.Goals as goal

pub returns-in_err-job : goal.returns-in_err-job
returns-in_err-job c =
    let p = err_from_is_err_and c.from_residual.result c.from_residual.ensures.1 in
    record {
      answer = rw (p.1, p.2) (not_opened _ _ _ c.in_err-job.ensures);
      written = not_written _ _ _ c.in_err-job.ensures;
    }

pub returns : goal.returns
unfolding seamed_as answer_by
returns c =
    let bytes = ap (λ b. b.now) c.in_ok-job.ensures.1 in
    record {
      answer = c.seams_in.ensures.answer ∙ ap (λ s. extent_and_count (seamed s (space_of s c.args.buffer.now))) bytes;
      written = c.seams_in.ensures.written ∙ ap (λ s. seams_after (seamed s (space_of s c.args.buffer.now)) c.args.buffer.now) bytes;
    }
