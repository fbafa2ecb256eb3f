-- `numbered::frame_of` meets its contract: the box in the job's first body.
use Rattle.job.proofs.Opened.{job_axes}
use Rattle.numbered.proofs.JobBox.{job_box, frame_is}
use Rattle.numbered.proofs.frame_of.Goals as goal

pub box_frame-requires : goal.box_frame-requires
box_frame-requires c = (job_axes c.args.job.opened, job_box c.args.job.opened c.body.ensures.bytes)

pub returns : goal.returns
returns c = frame_is c.args.job.opened c.body.ensures.bytes c.box_frame.ensures
