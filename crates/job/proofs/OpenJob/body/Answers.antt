-- `OpenJob::body` meets its contract: the contents of a job that opens place each body inside it.
use Rattle.std.proofs.Common.{arith}
use Rattle.entries.proofs.EntrySteps.{contents_part}
use Rattle.job.proofs.Opened.{job_opens}
use Rattle.job.proofs.OpenJob.body.Goals as goal

pub part_of-requires : goal.part_of-requires
part_of-requires c = contents_part _ _ _ (job_opens c.args.self.opened).contents (omega (arith, c.args.self.opened.dimension))
