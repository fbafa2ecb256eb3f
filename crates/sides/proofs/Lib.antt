-- Laws that the proofs of the functions cite, a file for each idea.
pub mod FacetMasks
pub mod FacetSides
pub mod Anywhere
pub mod MovedCorners
