-- Laws of vertices and places as the code holds them, a file for each idea.
pub mod ChainSteps
pub mod Counted
pub mod Reading
pub mod SameNumbers
pub mod PlaceAnswered
pub mod WordBytes
pub mod PlaceStored
