-- Laws that the proofs of the functions cite, a file for each idea.
pub mod RoomSizes
pub mod PlacesShown
pub mod PointShown
pub mod TraceListed
pub mod ListingText
