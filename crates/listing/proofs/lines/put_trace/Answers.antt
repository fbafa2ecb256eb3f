-- `listing::lines::put_trace` meets its contract: the first line, then the lines of the places.
use Prim.Native.Nat.{zero-le}
use Rattle.std.proofs.Common.{arith}
use Rattle.paper.specs.Listing.{place_lines}
use Rattle.paper.specs.Demand3.{read_places}
use Rattle.decimals.proofs.WrittenParts.{writes_then, writes_as}
use Rattle.listing.proofs.TraceListed.{count_within, listed_lines}
use Rattle.listing.proofs.ListingText.{trace_lines}
use Rattle.listing.proofs.lines.put_trace.Goals as goal

pub put_places-requires : goal.put_places-requires
put_places-requires c =
    let a = c.args in
    let f = c.put_first-at in (
      listed_lines a.job.opened a.places.now a.found c.requires.0 c.requires.1.0,
      omega (arith, c.requires.1.1, f.ensures, f.auto, count_within a.job.opened a.places.now a.found c.requires.0),
    )

pub returns : goal.returns
returns c =
    let a = c.args in
    writes_as (trace_lines a.job.bytes.now a.places.now a.found c.requires.0 a.job.opened.dimension)
    (omega (arith, count_within a.job.opened a.places.now a.found c.requires.0))
    (writes_then zero-le c.put_first-at.ensures
    {u = place_lines a.job.bytes.now (read_places a.job.n a.found.count a.places.now)} (λ i. c.put_places.ensures))
