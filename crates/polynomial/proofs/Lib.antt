-- Laws that the proofs of the functions cite, a file for each idea.
pub mod Limits
pub mod PowerLaws
pub mod NearTables
pub mod Monomials
pub mod PartialSums
