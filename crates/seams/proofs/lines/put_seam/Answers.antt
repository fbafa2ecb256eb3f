-- `seams::lines::put_seam` meets its contract: a trace can begin at the place, so the answer is its verdict and count.
use native.Mathlib.Nat.{le_refl}
use Rattle.job.proofs.Opened.{job_axes}
use Rattle.decimals.proofs.WrittenParts.{writes_as}
use Rattle.seams.proofs.SeamShown.{line_shown, trace_answered}
use Rattle.seams.proofs.lines.put_seam.Goals as goal

pub read_place-p-requires : goal.read_place-p-requires
read_place-p-requires c = (job_axes c.args.job.opened, c.requires.0.whole)

pub unwrap-found-requires : goal.unwrap-found-requires
unwrap-found-requires c = trace_answered c.requires.0 _ c.trace_length.ensures

pub put_curve-requires : goal.put_curve-requires
put_curve-requires c = (job_axes c.args.job.opened, c.requires.1)

pub returns : goal.returns
returns c =
    writes_as (line_shown c.requires.0 _ c.trace_length.ensures c.read_place-p.ensures c.unwrap-found.ensures) (le_refl _) c.put_curve.ensures
