-- `seams::main`: the code's numbers are those of the named limits.
use Rattle.std.proofs.Common.{◌∙◌, arith}
use Rattle.seams.proofs.RoomSizes.{places_room_lem, text_room_lem}
use Rattle.seams.proofs.main.Goals as goal

pub put_text-end-requires : goal.put_text-end-requires
put_text-end-requires c = (c.room-places.ensures.long ∙ places_room_lem, omega (arith, c.room-out.ensures.long, text_room_lem))
