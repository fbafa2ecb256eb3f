-- Laws that the proofs of the functions cite, a file for each idea.
pub mod SameTests
pub mod CoefficientBits
pub mod TermTest
pub mod ShortWeight
pub mod CarriedOn
