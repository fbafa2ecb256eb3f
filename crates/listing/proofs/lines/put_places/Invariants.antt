-- The lines of the first i places stand there up to `end`, and the others are still to be written.
use Rattle.std.proofs.Common.{◌*◌}
use Rattle.paper.specs.Listing.{place_lines}
use Rattle.paper.specs.Demand3.{read_places}
use Rattle.text.specs.Lines.{line_limit}
use Rattle.input.proofs.Lines.{Going}
use Rattle.listing.specs.Shown.{line_of}
use Rattle.listing.proofs.PlacesShown.{no_line, place_line_by}
use Rattle.listing.proofs.lines.put_places.Given as goal

abbrev pub invariant-loop-i : goal.invariant-loop-i
invariant-loop-i l =
    let s = l.job.bytes.now in
    let n = l.job.n in
    Going (3 * n) line_limit (line_of s) (λ k b. place_lines s (read_places n k b)) (no_line n s) (place_line_by s l.job.opened.dimension)
    l.count l.places l.at l.initial.out l.i l.out l.end
