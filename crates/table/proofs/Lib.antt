-- Laws that the proofs of the functions cite, a file for each idea.
pub mod Tested
pub mod TableRows
pub mod RowSearch
pub mod RowVertices
pub mod VertexMasks
