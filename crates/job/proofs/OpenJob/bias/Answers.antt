-- `OpenJob::bias` meets its contract: a job that opens has 4 bytes.
use Rattle.std.proofs.Common.{arith}
use Rattle.paper.specs.Job.{bias}
use Rattle.job.proofs.Opened.{job_opens}
use Rattle.job.proofs.OpenJob.bias.Goals as goal

pub byte-requires : goal.byte-requires
byte-requires c = omega (arith, (job_opens c.args.self.opened).long)

pub returns : goal.returns
unfolding bias
returns c = c.byte.ensures.is
