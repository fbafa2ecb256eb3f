-- Laws that the proofs of the functions cite, a file for each idea.
pub mod CoefficientBits
pub mod Bounds
pub mod TermAdded
pub mod RowsAdded
pub mod DegreeFits
