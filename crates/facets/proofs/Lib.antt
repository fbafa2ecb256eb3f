-- Laws of signs and of the walk over the vertices, for the proofs of the functions.
pub mod SignOrder
pub mod CrossedWalk
