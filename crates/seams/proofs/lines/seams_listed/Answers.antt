-- `seams::lines::seams_listed` meets its contract: the part lent has space for 4,096 places, and the places read back
-- from it are those of the seams.
use Rattle.std.proofs.Common.{◌*◌, sym, arith}
use lib.Seq.{length-take-le}
use Rattle.seams.proofs.RoomSizes.{listing_space_lem}
use Rattle.seams.proofs.SeamsListed.{job_range, part_inside, part_listed}
use Rattle.seams.proofs.lines.seams_listed.Goals as goal

pub overflow_mul-room : goal.overflow_mul-room
overflow_mul-room c = omega (arith, job_range c.args.job.opened)

pub slice_bounds-seams_in-end : goal.slice_bounds-seams_in-end
slice_bounds-seams_in-end c =
    part_inside c.args.job.opened c.args.places.now c.requires (rw listing_space_lem (omega arith))

pub slice_bounds-seams_in-end-2 : goal.slice_bounds-seams_in-end-2
slice_bounds-seams_in-end-2 c =
    sym (length-take-le _ _ (part_inside c.args.job.opened c.args.places.now c.requires (rw listing_space_lem (omega arith))))

pub returns : goal.returns
returns c =
    part_listed {room = 12288 * c.args.job.n} c.args.job.opened c.args.places.now c.requires _ c.seams_in.ensures.answer c.seams_in.ensures.written
    (rw listing_space_lem (omega arith))
