-- Laws of weights and of rounding, for the proofs of the functions.
pub mod Doubling
pub mod WeightSums
pub mod Rounded
pub mod Shares
pub mod PointSteps
