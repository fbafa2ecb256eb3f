-- Laws that the functions' proofs cite, a file for each idea.
pub mod NewVertex
pub mod PutColumn
pub mod EnteredSign
pub mod CarriedStep
