-- `listing::main`: the code's numbers are those of the named limits.
use Rattle.std.proofs.Common.{◌∙◌, arith}
use Rattle.listing.proofs.RoomSizes.{places_room_lem, text_room_lem}
use Rattle.listing.proofs.main.Goals as goal

pub put_listing-end-requires : goal.put_listing-end-requires
put_listing-end-requires c = (c.room-places.ensures.long ∙ places_room_lem, omega (arith, c.room-out.ensures.long, text_room_lem))
