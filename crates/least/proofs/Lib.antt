-- Laws that the proofs of the functions cite, a file for each idea.
pub mod FacetOrder
pub mod Ends
pub mod Seeking
pub mod BothWays
