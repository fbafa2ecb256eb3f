-- Laws that the proofs of the functions cite, a file for each idea.
pub mod Passed
pub mod PlaceForm
pub mod PlaceFound
pub mod PlaceCrossed
pub mod StartRefusal
