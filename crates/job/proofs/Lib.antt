-- Laws that the proofs of the functions cite.
pub mod OpenSteps
pub mod Opened
