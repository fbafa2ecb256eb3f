-- `listing::lines::trace_listed` meets its contract: the part lent has space for 4,096 places, the places read back from it are
-- the trace's, and every other byte is as found.
use Rattle.std.proofs.Common.{◌*◌, sym, arith}
use lib.Seq.{length-take-le}
use Rattle.listing.proofs.RoomSizes.{listing_space_lem}
use Rattle.listing.proofs.TraceListed.{job_range, part_inside, part_traced}
use Rattle.listing.proofs.lines.trace_listed.Goals as goal

pub overflow_mul-room : goal.overflow_mul-room
overflow_mul-room c = omega (arith, job_range c.args.job.opened)

pub slice_bounds-trace_in-end : goal.slice_bounds-trace_in-end
slice_bounds-trace_in-end c =
    part_inside c.args.job.opened c.args.places.now c.requires (rw listing_space_lem (omega arith))

pub slice_bounds-trace_in-end-2 : goal.slice_bounds-trace_in-end-2
slice_bounds-trace_in-end-2 c =
    sym (length-take-le _ _ (part_inside c.args.job.opened c.args.places.now c.requires (rw listing_space_lem (omega arith))))

pub returns : goal.returns
returns c =
    let both =
    part_traced {room = 12288 * c.args.job.n} c.args.job.opened c.args.places.now c.requires _ c.trace_in.ensures.answer c.trace_in.ensures.written
    (rw listing_space_lem (omega arith)) in
    record { answer = both.0; written = both.1 }
