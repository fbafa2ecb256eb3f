-- Laws that the proofs of the functions cite, a file for each idea.
pub mod CopiedValues
pub mod Corners
pub mod TakenFacets
pub mod Sides
pub mod OneSidedFacets
