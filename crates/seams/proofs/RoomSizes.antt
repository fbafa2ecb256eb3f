-- The numbers that the code writes for its room are those of the named limits.
use mathlib.Core.Path.{◌≡◌, refl}
use Rattle.paper.specs.Listing.{listing_space, longest_job}
use Rattle.seams.specs.declared.TheConstants.{JOB_ROOM, PLACES_ROOM, TEXT_ROOM}
use Rattle.seams.specs.Room.{job_room, places_room, text_room}

pub longest_job_lem : longest_job ≡ 2048
unfolding longest_job
longest_job_lem = refl

pub job_room_lem : JOB_ROOM ≡ job_room
unfolding longest_job
job_room_lem = refl

pub listing_space_lem : listing_space ≡ 4096
unfolding listing_space
listing_space_lem = refl

pub places_room_lem : PLACES_ROOM ≡ places_room
unfolding listing_space
places_room_lem = refl

pub text_room_lem : TEXT_ROOM ≡ text_room
unfolding listing_space
text_room_lem = refl
