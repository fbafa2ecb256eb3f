-- The room that the program has, in bytes. The code's own numbers are tied to these names in the proofs.
use Rattle.std.specs.Prelude.{ℕ, ◌+◌, ◌*◌}
use Rattle.paper.specs.Listing.{listing_space, longest_job}

-- the longest first line: two numbers of 64 bits, an extent, two blanks and the line's end
abbrev pub first_limit : ℕ
first_limit = 51

-- the longest line of a seam, in four axes: four coordinates and three masks, each with its blank, then side, verdict and count
abbrev pub seam_limit : ℕ
seam_limit = 199

-- one byte more than the longest job
abbrev pub job_room : ℕ
job_room = longest_job + 1

-- the places in four axes, 3 bytes a place and axis
abbrev pub places_room : ℕ
places_room = 3 * 4 * listing_space

-- the first line and a line for each seam
abbrev pub text_room : ℕ
text_room = first_limit + seam_limit * listing_space
