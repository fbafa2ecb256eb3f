-- The lines of the first i seams stand there up to `end`, and the others are still to be written.
use Rattle.std.proofs.Common.{◌*◌}
use Rattle.paper.specs.Job.{decode_place}
use Rattle.paper.specs.Demand3.{read_places}
use Rattle.input.proofs.Lines.{Going}
use Rattle.seamlist.specs.SeamText.{seam_line, seam_lines}
use Rattle.seams.specs.Room.{seam_limit}
use Rattle.seams.proofs.SeamShown.{no_line, seam_line_by}
use Rattle.seams.proofs.lines.put_seams.Given as goal

abbrev pub invariant-loop-i : goal.invariant-loop-i
invariant-loop-i l =
    let s = l.job.bytes.now in
    let n = l.job.n in
    Going (3 * n) seam_limit (λ b. seam_line s (decode_place n b)) (λ k b. seam_lines s (read_places n k b)) (no_line n s) (seam_line_by n s)
    l.count l.places l.at l.initial.out l.i l.out l.end
