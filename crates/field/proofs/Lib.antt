-- Laws that the proofs of the functions cite, a file for each idea.
pub mod Counted
pub mod OpenedJob
pub mod PutValue
pub mod PutValues
