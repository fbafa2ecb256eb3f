-- `seams::lines::put_opened` meets its contract: the first line, then the lines of the seams.
use Prim.Native.Nat.{zero-le}
use Rattle.std.proofs.Common.{◌∙◌, arith}
use Rattle.paper.specs.Demand3.{read_places}
use Rattle.decimals.proofs.WrittenParts.{writes_then, writes_as}
use Rattle.seamlist.specs.SeamText.{seam_lines}
use Rattle.seams.proofs.SeamsListed.{count_within, listed_lines}
use Rattle.seams.proofs.TextCases.{list_lines}
use Rattle.seams.proofs.lines.put_opened.Goals as goal

pub put_seams-requires : goal.put_seams-requires
put_seams-requires c =
    let j = c.args.job.opened in
    let l = c.seams_listed-found in
    let f = c.put_first-at in (
      listed_lines j l.new.places l.result l.ensures (l.auto.places ∙ c.requires.0),
      omega (arith, c.requires.1, f.ensures, f.auto, count_within j l.new.places l.result l.ensures),
    )

pub returns : goal.returns
returns c =
    let j = c.args.job.opened in
    let l = c.seams_listed-found in
    writes_as (list_lines c.args.job.bytes.now l.new.places l.result l.ensures j.dimension)
    (omega (arith, count_within j l.new.places l.result l.ensures))
    (writes_then zero-le c.put_first-at.ensures
    {u = seam_lines c.args.job.bytes.now (read_places c.args.job.n l.result.count l.new.places)} (λ i. c.put_seams.ensures))
