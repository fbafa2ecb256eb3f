-- Laws that the proofs of the functions cite, a file for each idea.
pub mod AheadCount
pub mod EdgesAhead
pub mod LoopFacets
pub mod Passing
pub mod GivenPlaces
