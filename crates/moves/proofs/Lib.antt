-- Laws that the functions' proofs cite, a file for each idea.
pub mod MovedColumns
