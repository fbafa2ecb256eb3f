-- Laws that the proofs of the functions cite, a file for each idea.
pub mod SeamTest
pub mod Gathered
pub mod Written
pub mod AtVertex
pub mod AllSeams
