-- Laws of the proofs.
pub mod CellsMade
pub mod CellsPut
pub mod Limits
pub mod Powers
