-- Laws of the cells and of the minors of a facet, for the proofs of the functions.
pub mod Entries
pub mod FacetMinors
