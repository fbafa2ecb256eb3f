-- Laws that the proofs of the functions cite, a file for each idea.
pub mod DoubleWord
pub mod OneTerm
pub mod TermLists
pub mod Answer
