-- Laws that the proofs of the functions cite, a file for each idea; and what holds of the structs of both cutters.
pub mod Padding
pub mod BothCutters
