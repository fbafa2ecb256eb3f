-- Laws that the proofs of the functions cite, a file for each idea.
pub mod Moves
pub mod InBox
